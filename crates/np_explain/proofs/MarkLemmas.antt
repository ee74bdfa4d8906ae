-- Marks stand for different deciders. For PartLemmas.
use Rattle.std.proofs.Common.{◌≡◌, ◌≢◌, ◌⊎◌, ℕ, ◌<◌, ◌≤◌, List, length, get_or, Option, Some, None, AllPairs, refl, sym, ap, ◌∙◌, subst, inl, inr, arith}
use Rattle.std.specs.List.{slice_get}
use Rattle.std.specs.Option.{option_map}
use Rattle.std.proofs.lemmas.Option.{slice_get_cases, none-some}
use Rattle.np_model.specs.Prelude.{IsLawful}
use Rattle.np_explain.specs.Prelude.{Decider, IsMarkOf, IsPassOf, Mark, RuleName, admin_rules, base_rules, mark_decider, net_rules, pass_name}
use Rattle.np_explain.proofs.PlaceLemmas.{at_place, place_told}
use Rattle.np_explain.proofs.RuleLemmas.{admin_names_apart, base_names_apart, net_names_apart}
use Rattle.np_rules.specs.Prelude.{PlacedAdminRule, PodSide, admin_rule_name, base_rule_name, is_allow, near_pod, net_rule_name}
use Rattle.np_rules.specs.declared.decider.Decider.TheVariants as decider
use Rattle.np_tiers.specs.declared.mark.Mark.TheVariants as mark

-- ---- the rule of a name

-- the rule at the place has the name
record IsAt {X : Type 0} (name : X → RuleName) (rules : List X) (rule : RuleName) (place : ℕ) : Type 0 where
  pub placed : X
  pub is : slice_get rules place ≡ Some placed
  pub named : rule ≡ name placed

one_place : {X : Type 0} (name : X → RuleName) (rules : List X) → AllPairs (λ x y. name x ≢ name y) rules → (rule : RuleName) (p q : ℕ) → IsAt name rules rule p → IsAt name rules rule q → p ≡ q
one_place name rules apart rule p q at_p at_q = place_told name rules apart p q at_p.placed at_q.placed at_p.is at_q.is (sym at_p.named ∙ at_q.named)

-- ---- the decider of a mark

-- the rule with Pass that was met has the name, where one was met
IsMet : PodSide → Option RuleName → Option ℕ → Type 0
IsMet side None None = Unit {0}
IsMet side None (Some place) = ⊥
IsMet side (Some rule) None = ⊥
IsMet side (Some rule) (Some place) = IsAt admin_rule_name (admin_rules side) rule place

-- the mark's rules have the decider's names
IsAdmin : PodSide → RuleName → Mark → Type 0
IsAdmin side rule (mark.Admin place) = IsAt admin_rule_name (admin_rules side) rule place
IsAdmin side rule other = ⊥

IsNet : PodSide → Option RuleName → RuleName → Mark → Type 0
IsNet side pass rule (mark.Net met place) = IsMet side pass met × IsAt net_rule_name (net_rules side) rule place
IsNet side pass rule other = ⊥

IsIsolated : PodSide → Option RuleName → Mark → Type 0
IsIsolated side pass (mark.Isolated met) = IsMet side pass met
IsIsolated side pass other = ⊥

IsBase : PodSide → Option RuleName → RuleName → Mark → Type 0
IsBase side pass rule (mark.Base met place) = IsMet side pass met × IsAt base_rule_name (base_rules side) rule place
IsBase side pass rule other = ⊥

IsFree : PodSide → Option RuleName → Mark → Type 0
IsFree side pass (mark.Free met) = IsMet side pass met
IsFree side pass other = ⊥

IsNamed : PodSide → Decider → Mark → Type 0
IsNamed side decider.NoSide m = ⊥
IsNamed side (decider.Admin rule allow) m = IsAdmin side rule m
IsNamed side (decider.Net pass rule) m = IsNet side pass rule m
IsNamed side (decider.Isolated pass policies) m = IsIsolated side pass m
IsNamed side (decider.Base pass rule allow) m = IsBase side pass rule m
IsNamed side (decider.Free pass) m = IsFree side pass m

met_named : (side : PodSide) (pass : Option ℕ) → IsPassOf side pass → IsMet side (pass_name side pass) pass
unfolding IsMet
met_named side None there = tt
met_named side (Some place) there = go (slice_get (admin_rules side) place) refl
  where
    go : (o : Option PlacedAdminRule) → slice_get (admin_rules side) place ≡ o → IsMet side (option_map admin_rule_name o) (Some place)
    go None is = absurd (missing (slice_get_cases (admin_rules side) place).1)
      where
        missing : ((placed : PlacedAdminRule) × (place < length (admin_rules side)) × (slice_get (admin_rules side) place ≡ Some placed) × (get_or (admin_rules side) place placed ≡ placed)) ⊎
            ((length (admin_rules side) ≤ place) × (slice_get (admin_rules side) place ≡ None)) →
            ⊥
        missing (inl found) = none-some _ (sym is ∙ found.2)
        missing (inr past) = absurd (omega (arith, past.0))
    go (Some placed) is = record { placed = placed; is = is; named = refl }

mark_is_named : (side : PodSide) (m : Mark) → IsMarkOf side m → IsNamed side (mark_decider side m) m
unfolding IsNamed IsAdmin IsNet IsIsolated IsBase IsFree
mark_is_named side (mark.Admin place) there =
    at_place (λ (d : Decider). IsNamed side d (mark.Admin place)) (λ placed. decider.Admin (admin_rule_name placed) (is_allow placed.rule.action)) decider.NoSide (admin_rules side) place there
    (λ placed is. record { placed = placed; is = is; named = refl })
mark_is_named side (mark.Net met place) there =
    at_place (λ (d : Decider). IsNamed side d (mark.Net met place)) (λ placed. decider.Net (pass_name side met) (net_rule_name placed)) decider.NoSide (net_rules side) place there.1
    (λ placed is. (met_named side met there.0, record { placed = placed; is = is; named = refl }))
mark_is_named side (mark.Isolated met) there = met_named side met there
mark_is_named side (mark.Base met place) there =
    at_place (λ (d : Decider). IsNamed side d (mark.Base met place)) (λ placed. decider.Base (pass_name side met) (base_rule_name placed) (is_allow placed.rule.action)) decider.NoSide
    (base_rules side) place there.1
    (λ placed is. (met_named side met there.0, record { placed = placed; is = is; named = refl }))
mark_is_named side (mark.Free met) there = met_named side met there

-- ---- one mark for each decider

module _ (side : PodSide) (lawful : IsLawful side.lists) where
  one_admin : (rule : RuleName) (p q : ℕ) → IsAt admin_rule_name (admin_rules side) rule p → IsAt admin_rule_name (admin_rules side) rule q → p ≡ q
  one_admin = one_place admin_rule_name (admin_rules side) (admin_names_apart side.lists.admin_policies side.direction (near_pod side) lawful.admin_policies_apart)

  one_net : (rule : RuleName) (p q : ℕ) → IsAt net_rule_name (net_rules side) rule p → IsAt net_rule_name (net_rules side) rule q → p ≡ q
  one_net = one_place net_rule_name (net_rules side) (net_names_apart side.lists.net_policies side.direction (near_pod side) lawful.net_policies_ascend)

  one_base : (rule : RuleName) (p q : ℕ) → IsAt base_rule_name (base_rules side) rule p → IsAt base_rule_name (base_rules side) rule q → p ≡ q
  one_base = one_place base_rule_name (base_rules side) (base_names_apart side.lists.baseline side.direction (near_pod side))

  one_met : (pass : Option RuleName) (p q : Option ℕ) → IsMet side pass p → IsMet side pass q → p ≡ q
  unfolding IsMet
  one_met None None None at_p at_q = refl
  one_met None None (Some q) at_p at_q = absurd at_q
  one_met None (Some p) q at_p at_q = absurd at_p
  one_met (Some rule) None q at_p at_q = absurd at_p
  one_met (Some rule) (Some p) None at_p at_q = absurd at_q
  one_met (Some rule) (Some p) (Some q) at_p at_q = ap {A = ℕ} Some (one_admin rule p q at_p at_q)

  one_mark : (d : Decider) (a b : Mark) → IsNamed side d a → IsNamed side d b → a ≡ b
  unfolding IsNamed IsAdmin IsNet IsIsolated IsBase IsFree
  one_mark decider.NoSide a b is_a is_b = absurd is_a
  one_mark (decider.Admin rule allow) (mark.Admin p) (mark.Admin q) is_a is_b = ap mark.Admin (one_admin rule p q is_a is_b)
  one_mark (decider.Admin rule allow) (mark.Admin p) b is_a is_b = absurd is_b
  one_mark (decider.Admin rule allow) a b is_a is_b = absurd is_a
  one_mark (decider.Net pass rule) (mark.Net m p) (mark.Net n q) is_a is_b = ap (λ o. mark.Net o p) (one_met pass m n is_a.0 is_b.0) ∙ ap (mark.Net n) (one_net rule p q is_a.1 is_b.1)
  one_mark (decider.Net pass rule) (mark.Net m p) b is_a is_b = absurd is_b
  one_mark (decider.Net pass rule) a b is_a is_b = absurd is_a
  one_mark (decider.Isolated pass policies) (mark.Isolated m) (mark.Isolated n) is_a is_b = ap mark.Isolated (one_met pass m n is_a is_b)
  one_mark (decider.Isolated pass policies) (mark.Isolated m) b is_a is_b = absurd is_b
  one_mark (decider.Isolated pass policies) a b is_a is_b = absurd is_a
  one_mark (decider.Base pass rule allow) (mark.Base m p) (mark.Base n q) is_a is_b = ap (λ o. mark.Base o p) (one_met pass m n is_a.0 is_b.0) ∙ ap (mark.Base n) (one_base rule p q is_a.1 is_b.1)
  one_mark (decider.Base pass rule allow) (mark.Base m p) b is_a is_b = absurd is_b
  one_mark (decider.Base pass rule allow) a b is_a is_b = absurd is_a
  one_mark (decider.Free pass) (mark.Free m) (mark.Free n) is_a is_b = ap mark.Free (one_met pass m n is_a is_b)
  one_mark (decider.Free pass) (mark.Free m) b is_a is_b = absurd is_b
  one_mark (decider.Free pass) a b is_a is_b = absurd is_a

  -- Marks whose rules are there are one where they stand for one decider.
  pub marks_told : (a b : Mark) → IsMarkOf side a → IsMarkOf side b → mark_decider side a ≡ mark_decider side b → a ≡ b
  marks_told a b there_a there_b same =
      one_mark (mark_decider side b) a b (subst (λ (d : Decider). IsNamed side d a) same (mark_is_named side a there_a)) (mark_is_named side b there_b)
