-- All rules stand in order. For `unused_rules_stand_in_order` and crates above.
use Rattle.std.proofs.Common.{◌≡◌, ℕ, zero, suc, ◌+◌, ◌<◌, ◌≤◌, List, ◌++◌, map, not, All, AllPairs, refl, sym, ap, ◌∙◌, inl, inr, arith}
use Rattle.std.specs.List.{flat_map, range_with_len}
use Rattle.std.proofs.lemmas.List.Elements.{All-append, All-nil, All-weaker}
use Rattle.std.proofs.lemmas.List.FromFn.{get_or-map-range_with_len, length-map-range_with_len}
use Rattle.std.proofs.lemmas.List.Kept.{AllPairs-filter}
use Rattle.np_base.proofs.Lists.{AllPairs-append}
use Rattle.np_addr.proofs.Pairs.{AllPairs-nil}
use Rattle.np_unused.specs.Prelude.{Admin, Base, Direction, Egress, EstateLists, Ingress, Net, RuleRef, StandsBefore, Tier, all_rules, direction_number, is_used, policy_count, rule_count_at, rules_from, rules_of_policy, rules_of_tier, tier_number, unused_of}
use Rattle.np_unused.proofs.RuleListLemmas.{numbered_all}

-- numbered items, of which each stands before those of greater numbers
numbered_pairs : {X : Type 0} (R : X → X → Type 0) (f : ℕ → X) (count : ℕ) → ((m n : ℕ) → m < n → R (f m) (f n)) → AllPairs R (map f (range_with_len 0 count))
numbered_pairs R f count each i j d before within =
    let last : j < count = omega (arith, within, length-map-range_with_len f 0 count) in
    let first : i < count = omega (arith, before, last) in
    rw (get_or-map-range_with_len f 0 count i i d first (omega arith), get_or-map-range_with_len f 0 count j j d last (omega arith)) (each i j before)

-- the rules of a policy in a direction
record IsOf (tier : Tier) (policy : ℕ) (direction : Direction) (rule : RuleRef) : Type 0 where
  in_tier : rule.tier ≡ tier
  of_policy : rule.policy ≡ policy
  towards : rule.direction ≡ direction

-- those of policies from a place on
record IsFrom (tier : Tier) (policy : ℕ) (rule : RuleRef) : Type 0 where
  in_tier : rule.tier ≡ tier
  from : policy ≤ rule.policy

same_tier : (one other : RuleRef) (tier : Tier) → one.tier ≡ tier → other.tier ≡ tier → tier_number one.tier ≡ tier_number other.tier
same_tier one other tier is is' = ap tier_number (is ∙ sym is')

module _ (lists : EstateLists) (tier : Tier) where
  abbrev of_direction : ℕ → Direction → List RuleRef
  of_direction policy direction = rules_from tier policy direction (rule_count_at lists tier direction policy)

  direction_of : (policy : ℕ) (direction : Direction) → All (IsOf tier policy direction) (of_direction policy direction)
  direction_of policy direction = numbered_all (IsOf tier policy direction) (λ place. record { tier = tier; policy = policy; direction = direction; place = place })
      (rule_count_at lists tier direction policy) (λ n below. record { in_tier = refl; of_policy = refl; towards = refl })

  direction_pairs : (policy : ℕ) (direction : Direction) → AllPairs StandsBefore (of_direction policy direction)
  direction_pairs policy direction = numbered_pairs StandsBefore (λ place. record { tier = tier; policy = policy; direction = direction; place = place }) (rule_count_at lists tier direction policy)
      (λ m n less. inr (refl, inr (refl, inr (refl, less))))

  -- ingress stands before egress
  policy_pairs : (policy : ℕ) → AllPairs StandsBefore (rules_of_policy lists tier policy)
  policy_pairs policy =
      AllPairs-append StandsBefore (IsOf tier policy Ingress) (IsOf tier policy Egress)
      (λ one other is is'. inr (
        same_tier one other tier is.in_tier is'.in_tier,
        inr (
          is.of_policy ∙ sym is'.of_policy,
          inl (let low : direction_number one.direction ≡ 0 = ap direction_number is.towards in let high : direction_number other.direction ≡ 1 =
              ap direction_number is'.towards in omega (arith, low, high)),
        ),
      ))
      (of_direction policy Ingress) (of_direction policy Egress) (direction_pairs policy Ingress) (direction_pairs policy Egress) (direction_of policy Ingress) (direction_of policy Egress)

  policy_from : (policy : ℕ) → All (IsFrom tier policy) (rules_of_policy lists tier policy)
  policy_from policy =
      All-append (IsFrom tier policy) (of_direction policy Ingress) (of_direction policy Egress)
      (All-weaker (IsOf tier policy Ingress) (IsFrom tier policy) (λ rule is. record { in_tier = is.in_tier; from = omega (arith, is.of_policy) }) (of_direction policy Ingress)
      (direction_of policy Ingress))
      (All-weaker (IsOf tier policy Egress) (IsFrom tier policy) (λ rule is. record { in_tier = is.in_tier; from = omega (arith, is.of_policy) }) (of_direction policy Egress)
      (direction_of policy Egress))

  later_from : (policy count : ℕ) → All (IsFrom tier policy) (flat_map (rules_of_policy lists tier) (range_with_len policy count))
  later_from policy zero = All-nil (IsFrom tier policy)
  later_from policy (suc count) =
      All-append (IsFrom tier policy) (rules_of_policy lists tier policy) (flat_map (rules_of_policy lists tier) (range_with_len (policy + 1) count)) (policy_from policy)
      (All-weaker (IsFrom tier (policy + 1)) (IsFrom tier policy) (λ rule is. record { in_tier = is.in_tier; from = omega (arith, is.from) })
      (flat_map (rules_of_policy lists tier) (range_with_len (policy + 1) count)) (later_from (policy + 1) count))

  -- the rules of a policy are of its place
  policy_at : (policy : ℕ) → All (λ rule. (rule.tier ≡ tier) × (rule.policy ≡ policy)) (rules_of_policy lists tier policy)
  policy_at policy =
      All-append (λ rule. (rule.tier ≡ tier) × (rule.policy ≡ policy)) (of_direction policy Ingress) (of_direction policy Egress)
      (All-weaker (IsOf tier policy Ingress) (λ rule. (rule.tier ≡ tier) × (rule.policy ≡ policy)) (λ rule is. (is.in_tier, is.of_policy)) (of_direction policy Ingress) (direction_of policy Ingress))
      (All-weaker (IsOf tier policy Egress) (λ rule. (rule.tier ≡ tier) × (rule.policy ≡ policy)) (λ rule is. (is.in_tier, is.of_policy)) (of_direction policy Egress) (direction_of policy Egress))

  policies_pairs : (policy count : ℕ) → AllPairs StandsBefore (flat_map (rules_of_policy lists tier) (range_with_len policy count))
  policies_pairs policy zero = AllPairs-nil StandsBefore
  policies_pairs policy (suc count) =
      AllPairs-append StandsBefore (λ rule. (rule.tier ≡ tier) × (rule.policy ≡ policy)) (IsFrom tier (policy + 1))
      (λ one other is is'. inr (same_tier one other tier is.0 is'.in_tier, inl (let at : one.policy ≡ policy = is.1 in omega (arith, at, is'.from))))
      (rules_of_policy lists tier policy) (flat_map (rules_of_policy lists tier) (range_with_len (policy + 1) count)) (policy_pairs policy) (policies_pairs (policy + 1) count) (policy_at policy)
      (later_from (policy + 1) count)

  tier_pairs : AllPairs StandsBefore (rules_of_tier lists tier)
  tier_pairs = policies_pairs 0 (policy_count lists tier)

  of_tier : All (λ rule. rule.tier ≡ tier) (rules_of_tier lists tier)
  of_tier = All-weaker (IsFrom tier 0) (λ rule. rule.tier ≡ tier) (λ rule is. is.in_tier) (rules_of_tier lists tier) (later_from 0 (policy_count lists tier))

-- the tiers one after another
pub rules_in_order : (lists : EstateLists) → AllPairs StandsBefore (all_rules lists)
unfolding all_rules
rules_in_order lists =
    AllPairs-append StandsBefore (λ rule. tier_number rule.tier < 2) (λ rule. rule.tier ≡ Base)
    (λ one other low is. inl (let last : tier_number other.tier ≡ 2 = ap tier_number is in omega (arith, low, last)))
    (rules_of_tier lists Admin ++ rules_of_tier lists Net) (rules_of_tier lists Base)
    (AllPairs-append StandsBefore (λ rule. rule.tier ≡ Admin) (λ rule. rule.tier ≡ Net)
    (λ one other is is'. inl (let first : tier_number one.tier ≡ 0 = ap tier_number is in let second : tier_number other.tier ≡ 1 = ap tier_number is' in omega (arith, first, second)))
    (rules_of_tier lists Admin) (rules_of_tier lists Net) (tier_pairs lists Admin) (tier_pairs lists Net) (of_tier lists Admin) (of_tier lists Net))
    (tier_pairs lists Base)
    (All-append (λ rule. tier_number rule.tier < 2) (rules_of_tier lists Admin) (rules_of_tier lists Net)
    (All-weaker (λ rule. rule.tier ≡ Admin) (λ rule. tier_number rule.tier < 2) (λ rule is. let first : tier_number rule.tier ≡ 0 = ap tier_number is in omega (arith, first))
    (rules_of_tier lists Admin) (of_tier lists Admin))
    (All-weaker (λ rule. rule.tier ≡ Net) (λ rule. tier_number rule.tier < 2) (λ rule is. let second : tier_number rule.tier ≡ 1 = ap tier_number is in omega (arith, second)) (rules_of_tier lists Net)
    (of_tier lists Net)))
    (of_tier lists Base)

-- and so do those that are not used
pub unused_in_order : (lists : EstateLists) → AllPairs StandsBefore (unused_of lists)
unfolding unused_of
unused_in_order lists = AllPairs-filter StandsBefore (λ rule. not (is_used lists rule)) (all_rules lists) (rules_in_order lists)
