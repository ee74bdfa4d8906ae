-- Rules that are put last. For `all_rules`, `push_rules` and `push_tier`.
use Rattle.std.proofs.Common.{◌≡◌, ℕ, ◌+◌, List, [], ◌∷◌, ◌++◌, append_assoc, append-nil, length, sym, ap, ◌∙◌, arith}
use Rattle.std.specs.List.{flat_map, range_with_len}
use Rattle.std.proofs.lemmas.Grind.{flat_map-append}
use Rattle.std.proofs.lemmas.List.FromFn.{map-range_with_len_more}
use Rattle.np_classes.proofs.Lists.{places_more}
use Rattle.np_unused.specs.Prelude.{Admin, AdminPolicy, Base, Direction, Egress, EstateLists, Ingress, Net, NetPolicy, RuleRef, Tier, all_rules, rule_count_at, rules_from, rules_of_policy, rules_of_tier}

-- one rule more
pub rule_more : (tier : Tier) (policy : ℕ) (direction : Direction) (place : ℕ) (before so_far made : List RuleRef) →
    made ≡ so_far ++ record { tier = tier; policy = policy; direction = direction; place = place } ∷ [] → so_far ≡ before ++ rules_from tier policy direction place →
    made ≡ before ++ rules_from tier policy direction (place + 1)
rule_more tier policy direction place before so_far made pushed is =
    let ref : ℕ → RuleRef = λ n. record { tier = tier; policy = policy; direction = direction; place = n } in
    pushed ∙ ap (λ (rules : List RuleRef). rules ++ ref place ∷ []) is ∙ append_assoc before (rules_from tier policy direction place) (ref place ∷ [])
    ∙ ap (λ (rules : List RuleRef). before ++ rules) (sym (map-range_with_len_more ref 0 place place (omega arith)))

-- the rules of one policy more
pub policy_more : (lists : EstateLists) (tier : Tier) (policy : ℕ) (before so_far half made : List RuleRef) →
    half ≡ so_far ++ rules_from tier policy Ingress (rule_count_at lists tier Ingress policy) → made ≡ half ++ rules_from tier policy Egress (rule_count_at lists tier Egress policy) →
    so_far ≡ before ++ flat_map (rules_of_policy lists tier) (range_with_len 0 policy) → made ≡ before ++ flat_map (rules_of_policy lists tier) (range_with_len 0 (policy + 1))
policy_more lists tier policy before so_far half made first second is =
    let f : ℕ → List RuleRef = rules_of_policy lists tier in
    let a = rules_from tier policy Ingress (rule_count_at lists tier Ingress policy) in
    let b = rules_from tier policy Egress (rule_count_at lists tier Egress policy) in
    second ∙ ap (λ (rules : List RuleRef). rules ++ b) first ∙ append_assoc so_far a b
    ∙ ap (λ (rules : List RuleRef). rules ++ f policy) is ∙ append_assoc before (flat_map f (range_with_len 0 policy)) (f policy)
    ∙ ap (λ (rules : List RuleRef). before ++ rules)
    (ap (λ (rules : List RuleRef). flat_map f (range_with_len 0 policy) ++ rules) (sym (append-nil (f policy)))
    ∙ sym (flat_map-append f (range_with_len 0 policy) (policy ∷ []))
    ∙ ap (flat_map f) (sym (places_more policy)))

-- the rules of all tiers
pub all_made : (lists : EstateLists) (policies : List AdminPolicy) (nets : List NetPolicy) (start one two three : List RuleRef) → policies ≡ lists.admin_policies → nets ≡ lists.net_policies →
    start ≡ [] → one ≡ start ++ flat_map (rules_of_policy lists Admin) (range_with_len 0 (length policies)) → two ≡ one ++ flat_map (rules_of_policy lists Net) (range_with_len 0 (length nets)) →
    three ≡ two ++ flat_map (rules_of_policy lists Base) (range_with_len 0 1) → three ≡ all_rules lists
unfolding all_rules
all_made lists policies nets start one two three are_policies are_nets empty first second third =
    let admin = rules_of_tier lists Admin in
    let net = rules_of_tier lists Net in
    let base = rules_of_tier lists Base in
    let is_one : one ≡ admin = first ∙ ap (λ (rules : List RuleRef). rules ++ flat_map (rules_of_policy lists Admin) (range_with_len 0 (length policies))) empty ∙ ap
    (λ (all : List AdminPolicy). flat_map (rules_of_policy lists Admin) (range_with_len 0 (length all))) are_policies in
    let is_two : two ≡ admin ++ net = second ∙ ap (λ (rules : List RuleRef). rules ++ flat_map (rules_of_policy lists Net) (range_with_len 0 (length nets))) is_one ∙ ap
    (λ (all : List NetPolicy). admin ++ flat_map (rules_of_policy lists Net) (range_with_len 0 (length all))) are_nets in
    third ∙ ap (λ (rules : List RuleRef). rules ++ base) is_two
