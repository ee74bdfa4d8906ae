-- A text of what decides belongs to one decider. For `one_text_has_one_decider`.
use Rattle.std.proofs.Common.{◌≡◌, ℕ, ◌+◌, ◌*◌, ◌<◌, ◌^◌, List, [], ◌∷◌, ◌++◌, length, flat_map, get_or, Bool, true, false, not, ◌&&◌, ◌==◌, nat_lt, codes, decimal, Option, Some, None, is_some, refl, sym, ap, ◌∙◌, append_assoc, arith}
use Rattle.std.specs.List.{list_all, join_by}
use Rattle.std.proofs.lemmas.Bool.{and_parts, eqb-false, false≢true, not-true, true≢false}
use Rattle.std.proofs.lemmas.Bool.Decides.{nat_tests}
use Rattle.std.proofs.lemmas.Fmt.{decimal_injective}
use Rattle.std.proofs.lemmas.List.{append_cancel_left}
use Rattle.np_base.proofs.Texts.{texts-apart}
use Rattle.np_explain.specs.Prelude.{Admin, Base, Decider, Direction, Egress, Free, Ingress, Isolated, Net, NoSide, RuleName, decider_text, has_rule, is_rule_name, is_well_named, pass_text, rule_text}
use Rattle.np_rules.specs.Prelude.{decider_allows, verdict_text}
use Rattle.np_model.specs.Prelude.{direction_text, is_whole_word, is_word, is_word_byte, option_all}
use Rattle.np_model.proofs.WordLemmas.{words-cut, decimal-word}

-- ---- words

name-word : (text : List ℕ) → is_whole_word text ≡ true → is_word text ≡ true
name-word text name = (and_parts (not (length text == 0)) (is_word text) name).1

-- ---- rules

direction-word : (direction : Direction) → is_word (direction_text direction) ≡ true
direction-word Ingress = refl
direction-word Egress = refl

direction-one : (a b : Direction) → direction_text a ≡ direction_text b → a ≡ b
direction-one Ingress Ingress same = refl
direction-one Egress Egress same = refl
direction-one Ingress Egress same = absurd (texts-apart 0 105 101 (codes "ingress") (codes "egress") same refl refl refl)
direction-one Egress Ingress same = absurd (texts-apart 0 101 105 (codes "egress") (codes "ingress") same refl refl refl)

below : (n : ℕ) → nat_lt n (2 ^ 64) ≡ true → n < 2 ^ 64
below n few = grind (arith, nat_tests)

rule-parts : (rule : RuleName) → is_rule_name rule ≡ true → (is_word rule.policy ≡ true) × (rule.place < 2 ^ 64)
rule-parts rule well =
    let parts = and_parts (is_whole_word rule.policy) (nat_lt rule.place (2 ^ 64)) well in
    (name-word rule.policy parts.0, below rule.place parts.1)

rule-equal : (rule other : RuleName) → rule.policy ≡ other.policy → rule.place ≡ other.place → rule ≡ other
rule-equal rule other policies places =
    let of_policy : List ℕ → RuleName = λ policy. record { policy = policy; place = rule.place } in
    let of_place : ℕ → RuleName = λ place. record { policy = other.policy; place = place } in
    ap of_policy policies ∙ ap of_place places

rule-spelled : (direction : Direction) (rule : RuleName) (t : List ℕ) → rule_text direction rule ++ t ≡ rule.policy ++ 32 ∷ (direction_text direction ++ 91 ∷ (decimal rule.place ++ 93 ∷ t))
rule-spelled direction rule t = simp append_assoc

record AreOne (a b : Direction) (rule other : RuleName) (t t' : List ℕ) : Type 0 where
  pub direction : a ≡ b
  pub name : rule ≡ other
  pub rest : t ≡ t'

rule-one : (a b : Direction) (rule other : RuleName) (t t' : List ℕ) → is_rule_name rule ≡ true → is_rule_name other ≡ true
    → rule_text a rule ++ t ≡ rule_text b other ++ t' → AreOne a b rule other t t'
rule-one a b rule other t t' well well' same =
    let one = rule-parts rule well in
    let two = rule-parts other well' in
    let names = words-cut rule.policy other.policy 32 32 _ _ one.0 two.0 refl refl (sym (rule-spelled a rule t) ∙ same ∙ rule-spelled b other t') in
    let ways = words-cut (direction_text a) (direction_text b) 91 91 _ _ (direction-word a) (direction-word b) refl refl names.2 in
    let numbers = words-cut (decimal rule.place) (decimal other.place) 93 93 t t' (decimal-word rule.place one.1) (decimal-word other.place two.1) refl refl ways.2 in
    record { direction = direction-one a b ways.0; name = rule-equal rule other names.0 (decimal_injective rule.place other.place one.1 two.1 numbers.0); rest = numbers.2 }

-- ---- rules with Pass; each text ends with a newline, so that something stands behind every word

pass-one : (a b : Direction) (pass passed : Option RuleName) → option_all is_rule_name pass ≡ true → option_all is_rule_name passed ≡ true
    → pass_text a pass ++ 10 ∷ [] ≡ pass_text b passed ++ 10 ∷ [] → (pass ≡ passed) × (is_some pass ≡ true → a ≡ b)
pass-one a b None None well well' same = (refl, λ is. absurd (false≢true is))
pass-one a b None (Some other) well well' same = absurd (texts-apart 0 10 32 (10 ∷ []) (pass_text b (Some other) ++ 10 ∷ []) same refl refl refl)
pass-one a b (Some rule) None well well' same = absurd (texts-apart 0 32 10 (pass_text a (Some rule) ++ 10 ∷ []) (10 ∷ []) same refl refl refl)
pass-one a b (Some rule) (Some other) well well' same =
    let front = codes " after Pass by AdminNetworkPolicy " in
    let both : front ++ (rule_text a rule ++ 10 ∷ []) ≡ front ++ (rule_text b other ++ 10 ∷ []) =
    sym (append_assoc front (rule_text a rule) (10 ∷ [])) ∙ same ∙ append_assoc front (rule_text b other) (10 ∷ []) in
    let rules = rule-one a b rule other (10 ∷ []) (10 ∷ []) well well' (append_cancel_left front (rule_text a rule ++ 10 ∷ []) (rule_text b other ++ 10 ∷ []) both) in
    (ap Some rules.name, λ is. rules.direction)

-- what stands behind a list of names begins with a byte that is none of theirs
record Begins (text : List ℕ) : Type 0 where
  pub byte : ℕ
  pub rest : List ℕ
  pub is : text ≡ byte ∷ rest
  pub no_word : is_word_byte byte ≡ false
  pub no_comma : (byte == 44) ≡ false

pass-begins : (direction : Direction) (pass : Option RuleName) → Begins (pass_text direction pass ++ 10 ∷ [])
pass-begins direction None = record { byte = 10; rest = []; is = refl; no_word = refl; no_comma = refl }
pass-begins direction (Some rule) = record { byte = 32; rest = codes "after Pass by AdminNetworkPolicy " ++ rule_text direction rule ++ 10 ∷ []; is = refl; no_word = refl; no_comma = refl }

-- ---- names

abbrev others_text : List (List ℕ) → List ℕ
others_text names = flat_map (λ name. codes ", " ++ name) names

others-spelled : (name : List ℕ) (names : List (List ℕ)) (t : List ℕ) → others_text (name ∷ names) ++ t ≡ 44 ∷ 32 ∷ (name ++ (others_text names ++ t))
others-spelled name names t = ap (λ (rest : List ℕ). 44 ∷ 32 ∷ rest) (append_assoc name (others_text names) t)

-- names of policies, joined by `, `
abbrev names_text : List (List ℕ) → List ℕ
names_text names = join_by (λ name. name) (codes ", ") names

module _ (c c' : ℕ) (t t' : List ℕ) (end : is_word_byte c ≡ false) (end' : is_word_byte c' ≡ false) (no_comma : (c == 44) ≡ false) (no_comma' : (c' == 44) ≡ false) where
  names-one : (v v' : List ℕ) (vs vs' : List (List ℕ)) → list_all is_whole_word (v ∷ vs) ≡ true → list_all is_whole_word (v' ∷ vs') ≡ true
      → v ++ (others_text vs ++ c ∷ t) ≡ v' ++ (others_text vs' ++ c' ∷ t') → (v ∷ vs ≡ v' ∷ vs') × (c ∷ t ≡ c' ∷ t')
  names-one v v' [] [] words words' same =
      let parts = words-cut v v' c c' t t' (name-word v (and_parts (is_whole_word v) true words).0) (name-word v' (and_parts (is_whole_word v') true words').0) end end' same in
      (rw parts.0 refl, rw (parts.1, parts.2) refl)
  names-one v v' [] (u' ∷ us') words words' same =
      let parts = words-cut v v' c 44 t _ (name-word v (and_parts (is_whole_word v) true words).0) (name-word v' (and_parts (is_whole_word v') (list_all is_whole_word (u' ∷ us')) words').0) end refl
      (same ∙ ap (λ (rest : List ℕ). v' ++ rest) (others-spelled u' us' (c' ∷ t'))) in
      absurd (eqb-false c 44 no_comma parts.1)
  names-one v v' (u ∷ us) [] words words' same =
      let parts = words-cut v v' 44 c' _ t' (name-word v (and_parts (is_whole_word v) (list_all is_whole_word (u ∷ us)) words).0) (name-word v' (and_parts (is_whole_word v') true words').0) refl end'
      (sym (ap (λ (rest : List ℕ). v ++ rest) (others-spelled u us (c ∷ t))) ∙ same) in
      absurd (eqb-false c' 44 no_comma' (sym parts.1))
  names-one v v' (u ∷ us) (u' ∷ us') words words' same =
      let here = and_parts (is_whole_word v) (list_all is_whole_word (u ∷ us)) words in
      let there = and_parts (is_whole_word v') (list_all is_whole_word (u' ∷ us')) words' in
      let parts = words-cut v v' 44 44 _ _ (name-word v here.0) (name-word v' there.0) refl refl
      (sym (ap (λ (rest : List ℕ). v ++ rest) (others-spelled u us (c ∷ t))) ∙ same ∙ ap (λ (rest : List ℕ). v' ++ rest) (others-spelled u' us' (c' ∷ t'))) in
      let behind : u ++ (others_text us ++ c ∷ t) ≡ u' ++ (others_text us' ++ c' ∷ t') = let tails = parts.2 in cc in
      let rest = names-one u u' us us' here.1 there.1 behind in
      (rw (parts.0, rest.0) refl, rest.1)

  listed-one : (names others : List (List ℕ)) → (length names == 0) ≡ false → (length others == 0) ≡ false → list_all is_whole_word names ≡ true → list_all is_whole_word others ≡ true
      → names_text names ++ c ∷ t ≡ names_text others ++ c' ∷ t' → (names ≡ others) × (c ∷ t ≡ c' ∷ t')
  listed-one [] others some some' words words' same = absurd (true≢false some)
  listed-one (v ∷ vs) [] some some' words words' same = absurd (true≢false some')
  listed-one (v ∷ vs) (v' ∷ vs') some some' words words' same =
      names-one v v' vs vs' words words' (sym (append_assoc v (others_text vs) (c ∷ t)) ∙ same ∙ append_assoc v' (others_text vs') (c' ∷ t'))

-- ---- deciders

-- texts of one beginning go on alike
go_on : (front middle middle' end end' : List ℕ) → front ++ middle ++ end ≡ front ++ middle' ++ end' → middle ++ (end ++ 10 ∷ []) ≡ middle' ++ (end' ++ 10 ∷ [])
go_on front middle middle' end end' same =
    append_cancel_left front (middle ++ (end ++ 10 ∷ [])) (middle' ++ (end' ++ 10 ∷ []))
    (sym (spread middle end) ∙ ap (λ (text : List ℕ). text ++ 10 ∷ []) same ∙ spread middle' end')
  where
    spread : (one other : List ℕ) → front ++ one ++ other ++ 10 ∷ [] ≡ front ++ (one ++ (other ++ 10 ∷ []))
    spread one other = append_assoc (front ++ one) other (10 ∷ []) ∙ append_assoc front one (other ++ 10 ∷ [])

-- what a text says behind its verdict
abbrev reason : Direction → Decider → List ℕ
reason direction NoSide = codes " since no pod is at this side"
reason direction (Admin rule allow) = codes " by AdminNetworkPolicy " ++ rule_text direction rule
reason direction (Net pass rule) = codes " by NetworkPolicy " ++ rule_text direction rule ++ pass_text direction pass
reason direction (Isolated pass policies) = codes " since isolated by NetworkPolicy " ++ names_text policies ++ pass_text direction pass
reason direction (Base pass rule allow) = codes " by BaselineAdminNetworkPolicy " ++ rule_text direction rule ++ pass_text direction pass
reason direction (Free pass) = codes " by default" ++ pass_text direction pass

in_two : (direction : Direction) (d : Decider) → decider_text direction d ≡ verdict_text (decider_allows d) ++ reason direction d
unfolding decider_text
in_two direction NoSide = refl
in_two direction (Admin rule allow) = append_assoc (verdict_text allow) (codes " by AdminNetworkPolicy ") (rule_text direction rule)
in_two direction (Net pass rule) = refl
in_two direction (Isolated pass policies) = refl
in_two direction (Base pass rule allow) =
    let front = codes " by BaselineAdminNetworkPolicy " in
    ap (λ (text : List ℕ). text ++ pass_text direction pass) (append_assoc (verdict_text allow) front (rule_text direction rule))
    ∙ append_assoc (verdict_text allow) (front ++ rule_text direction rule) (pass_text direction pass)
in_two direction (Free pass) = refl

verdict-one : (allow allows : Bool) (t t' : List ℕ) → verdict_text allow ++ t ≡ verdict_text allows ++ t' → (allow ≡ allows) × (t ≡ t')
verdict-one true true t t' same = (refl, append_cancel_left (codes "Allow") t t' same)
verdict-one false false t t' same = (refl, append_cancel_left (codes "Deny") t t' same)
verdict-one true false t t' same = absurd (texts-apart 0 65 68 (codes "Allow" ++ t) (codes "Deny" ++ t') same refl refl refl)
verdict-one false true t t' same = absurd (texts-apart 0 68 65 (codes "Deny" ++ t) (codes "Allow" ++ t') same refl refl refl)

-- two bytes that are others where another kind decides
abbrev mark : List ℕ → ℕ
mark text = 2 * get_or text 4 0 + get_or text 7 0

abbrev IsOne : Direction → Direction → Decider → Decider → Type 0
IsOne a b d e = (d ≡ e) × (has_rule d ≡ true → a ≡ b)

-- a rule, and the rule with Pass that was met before
tier-one : (a b : Direction) (front : List ℕ) (pass passed : Option RuleName) (rule other : RuleName)
    → (option_all is_rule_name pass && is_rule_name rule) ≡ true → (option_all is_rule_name passed && is_rule_name other) ≡ true
    → front ++ rule_text a rule ++ pass_text a pass ≡ front ++ rule_text b other ++ pass_text b passed → (pass ≡ passed) × (rule ≡ other) × (a ≡ b)
tier-one a b front pass passed rule other well well' same =
    let here = and_parts (option_all is_rule_name pass) (is_rule_name rule) well in
    let there = and_parts (option_all is_rule_name passed) (is_rule_name other) well' in
    let rules = rule-one a b rule other _ _ here.1 there.1 (go_on front (rule_text a rule) (rule_text b other) (pass_text a pass) (pass_text b passed) same) in
    ((pass-one a b pass passed here.0 there.0 rules.rest).0, rules.name, rules.direction)

isolated-one : (a b : Direction) (pass passed : Option RuleName) (names others : List (List ℕ)) → is_well_named (Isolated pass names) ≡ true → is_well_named (Isolated passed others) ≡ true
    → reason a (Isolated pass names) ≡ reason b (Isolated passed others) → IsOne a b (Isolated pass names) (Isolated passed others)
isolated-one a b pass passed names others well well' same =
    let here = and_parts _ (list_all is_whole_word names) well in
    let there = and_parts _ (list_all is_whole_word others) well' in
    let some = and_parts (option_all is_rule_name pass) (not (length names == 0)) here.0 in
    let some' = and_parts (option_all is_rule_name passed) (not (length others == 0)) there.0 in
    let first = pass-begins a pass in
    let second = pass-begins b passed in
    let both = go_on (codes " since isolated by NetworkPolicy ") (names_text names) (names_text others) (pass_text a pass) (pass_text b passed) same in
    let parts = listed-one first.byte second.byte first.rest second.rest first.no_word second.no_word first.no_comma second.no_comma names others (not-true _ some.1)
    (not-true _ some'.1) here.1 there.1
    (sym (ap (λ (text : List ℕ). names_text names ++ text) first.is) ∙ both ∙ ap (λ (text : List ℕ). names_text others ++ text) second.is) in
    let passes = pass-one a b pass passed some.0 some'.0 (first.is ∙ parts.1 ∙ sym second.is) in
    (cc (parts.0, passes.0), passes.1)

reason-one : (a b : Direction) (d e : Decider) → is_well_named d ≡ true → is_well_named e ≡ true → decider_allows d ≡ decider_allows e → reason a d ≡ reason b e → IsOne a b d e
reason-one a b NoSide NoSide well well' verdict same = (refl, λ is. absurd (false≢true is))
reason-one a b (Admin rule allow) (Admin other allows) well well' verdict same =
    let behind : rule_text a rule ≡ rule_text b other = append_cancel_left (codes " by AdminNetworkPolicy ") (rule_text a rule) (rule_text b other) same in
    let rules = rule-one a b rule other (10 ∷ []) (10 ∷ []) well well' (ap (λ (text : List ℕ). text ++ 10 ∷ []) behind) in
    (cc (verdict, rules.name), λ is. rules.direction)
reason-one a b (Net pass rule) (Net passed other) well well' verdict same =
    let one = tier-one a b (codes " by NetworkPolicy ") pass passed rule other well well' same in (cc (one.0, one.1), λ is. one.2)
reason-one a b (Isolated pass names) (Isolated passed others) well well' verdict same = isolated-one a b pass passed names others well well' same
reason-one a b (Base pass rule allow) (Base passed other allows) well well' verdict same =
    let one = tier-one a b (codes " by BaselineAdminNetworkPolicy ") pass passed rule other well well' same in (cc (one.0, one.1, verdict), λ is. one.2)
reason-one a b (Free pass) (Free passed) well well' verdict same =
    let passes = pass-one a b pass passed well well' (ap (λ (text : List ℕ). text ++ 10 ∷ []) (append_cancel_left (codes " by default") (pass_text a pass) (pass_text b passed) same)) in
    (cc passes.0, passes.1)
reason-one a b d e well well' verdict same = absurd (eqb-false (mark (reason a d)) (mark (reason b e)) refl (ap mark same))

pub decider_text-one : (a b : Direction) (d e : Decider) → is_well_named d ≡ true → is_well_named e ≡ true → decider_text a d ≡ decider_text b e → IsOne a b d e
decider_text-one a b d e well well' same =
    let parts = verdict-one (decider_allows d) (decider_allows e) (reason a d) (reason b e) (sym (in_two a d) ∙ same ∙ in_two b e) in
    reason-one a b d e well well' parts.0 parts.1
