-- Unused rules decide nothing. For `unused_rules_decide_nothing` and crates above.
use Rattle.std.proofs.Common.{◌≡◌, ◌↔◌, ℕ, zero, suc, ◌<◌, List, [], ◌∷◌, Bool, true, false, not, filter, length, get_or, Option, Some, None, All, refl, sym, ap, ◌∙◌, arith, if◌then◌else◌}
use Rattle.std.specs.List.{Contains}
use Rattle.std.specs.Option.{option_map_or}
use Rattle.std.proofs.lemmas.Bool.{false≢true, not-true}
use Rattle.std.proofs.lemmas.List.Elements.{All-cons, All-contains, All-contains_itself, All-head, All-nil, All-tail, All-weaker, Contains-append_right}
use Rattle.np_unused.specs.Prelude.{End, EstateLists, Family, IsListedPacket, IsRuleOf, PortSpot, RuleName, RuleRef, StandsIn, all_rules, is_used, rule_in, rule_name, unused_of}
use Rattle.np_explain.proofs.SameDecider.{same_rule-Decides}
use Rattle.np_explain.specs.Prelude.{decider_between, same_rule}
use Rattle.np_unused.proofs.PacketLemmas.{is_used_by, used_by}
use Rattle.np_unused.proofs.RuleListLemmas.{rule_is_listed, rules_are_rules}

-- ---- lists that are filtered

filter_all : {X : Type 0} (P : X → Type 0) (test : X → Bool) (xs : List X) → All P xs → All (λ x. P x × (test x ≡ true)) (filter test xs)
filter_all P test [] all = All-nil (λ x. P x × (test x ≡ true))
filter_all {X} P test (x ∷ xs) all = go (test x) refl (filter_all P test xs (All-tail P x xs all))
  where
    go : (b : Bool) → test x ≡ b → All (λ y. P y × (test y ≡ true)) (filter test xs) → All (λ y. P y × (test y ≡ true)) (if b then x ∷ filter test xs else filter test xs)
    go true is rest = All-cons (λ y. P y × (test y ≡ true)) x (filter test xs) (All-head P x xs all, is) rest
    go false is rest = rest

filter_has_at : {X : Type 0} (test : X → Bool) (xs : List X) (k : ℕ) (x : X) → k < length xs → get_or xs k x ≡ x → test x ≡ true → Contains (filter test xs) x
filter_has_at test [] k x within at passes = absurd (omega arith)
filter_has_at {X} test (y ∷ xs) zero x within at passes = go (test y) (ap test at ∙ passes)
  where
    go : (b : Bool) → b ≡ true → Contains (if b then y ∷ filter test xs else filter test xs) x
    go true is = (0, omega arith, at)
    go false is = absurd (false≢true is)
filter_has_at {X} test (y ∷ xs) (suc k) x within at passes = go (test y) (filter_has_at test xs k x (omega arith) at passes)
  where
    go : (b : Bool) → Contains (filter test xs) x → Contains (if b then y ∷ filter test xs else filter test xs) x
    go true has = Contains-append_right (y ∷ []) (filter test xs) x has
    go false has = has

-- ---- names

-- a rule stands in a decider exactly where its name does
pub stands_by_name : (name : RuleName) (found : Option RuleName) → found ≡ Some name → option_map_or (same_rule name) found false ≡ true
stands_by_name name found is = ap (λ (o : Option RuleName). option_map_or (same_rule name) o false) is ∙ (same_rule-Decides name name).1 refl

name_by_stands : (name : RuleName) (found : Option RuleName) → option_map_or (same_rule name) found false ≡ true → found ≡ Some name
name_by_stands name None stands = absurd (false≢true stands)
name_by_stands name (Some other) stands = ap {A = RuleName} Some (sym ((same_rule-Decides name other).0 stands))

-- ---- unused rules

-- a rule that is unused is one of the estate, and not used
pub unused_is : (lists : EstateLists) (rule : RuleRef) → Contains (unused_of lists) rule → IsRuleOf lists rule × (is_used lists rule ≡ false)
unfolding unused_of
unused_is lists rule has =
    let both = All-contains (λ other. IsRuleOf lists other × (not (is_used lists other) ≡ true)) (filter (λ other. not (is_used lists other)) (all_rules lists)) rule
    (filter_all (IsRuleOf lists) (λ other. not (is_used lists other)) (all_rules lists) (rules_are_rules lists)) has in
    (both.0, not-true _ both.1)

-- so each of them is a rule of the estate
pub unused_rules_of : (lists : EstateLists) → All (IsRuleOf lists) (unused_of lists)
unused_rules_of lists = All-weaker (Contains (unused_of lists)) (IsRuleOf lists) (λ rule among. (unused_is lists rule among).0) (unused_of lists) (All-contains_itself (unused_of lists))

is_unused : (lists : EstateLists) (rule : RuleRef) → IsRuleOf lists rule → is_used lists rule ≡ false → Contains (unused_of lists) rule
unfolding unused_of
is_unused lists rule valid unused =
    let there = rule_is_listed lists rule.tier rule.policy rule.direction rule.place valid in
    filter_has_at (λ other. not (is_used lists other)) (all_rules lists) there.0 rule there.1 there.2 (ap not unused)

pub decide_nothing : (lists : EstateLists) (rule : RuleRef) →
    Contains (unused_of lists) rule ↔ (IsRuleOf lists rule × ((source destination : End) (family : Family) (spot : PortSpot) → IsListedPacket lists source destination family spot →
    StandsIn lists rule source destination family spot → ⊥))
decide_nothing lists rule = (to, from)
  where
    to : Contains (unused_of lists) rule →
        IsRuleOf lists rule × ((source destination : End) (family : Family) (spot : PortSpot) → IsListedPacket lists source destination family spot →
        StandsIn lists rule source destination family spot → ⊥)
    to has =
        let both = unused_is lists rule has in
        (both.0, λ source destination family spot listed stands. false≢true (sym both.1 ∙ is_used_by lists rule source destination family spot listed (stands_by_name (rule_name lists rule) _ stands)))

    unused_by : ((source destination : End) (family : Family) (spot : PortSpot) → IsListedPacket lists source destination family spot → StandsIn lists rule source destination family spot → ⊥) →
        (b : Bool) → is_used lists rule ≡ b → is_used lists rule ≡ false
    unused_by none true is = let by = used_by lists rule is in absurd
        (none by.from by.to by.family by.spot by.listed (name_by_stands (rule_name lists rule) (rule_in rule.tier (decider_between lists rule.direction by.from by.to by.family by.spot)) by.stands))
    unused_by none false is = is

    from : IsRuleOf lists rule × ((source destination : End) (family : Family) (spot : PortSpot) → IsListedPacket lists source destination family spot →
        StandsIn lists rule source destination family spot → ⊥) →
        Contains (unused_of lists) rule
    from both = is_unused lists rule both.0 (unused_by both.1 (is_used lists rule) refl)
