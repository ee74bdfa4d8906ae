-- Where no policy is listed no rule is looked at. For `counted_rows`.
use Rattle.std.proofs.Common.{◌≡◌, ℕ, ◌+◌, ◌*◌, ◌≤◌, length, List, [], ◌∷◌, arith, map, refl}
use Rattle.np_model.specs.declared.lists.EstateLists.{EstateLists}
use Rattle.np_fold.specs.Prelude.{Folding, folding_of}
use Rattle.np_test_fold.specs.Rules.{HasNoPolicies, due_for_all}
use Rattle.np_model.specs.declared.direction.Direction.{Direction}
use Rattle.np_model.specs.declared.direction.Direction.TheVariants.{Egress, Ingress}
use Rattle.np_table.specs.Prelude.{greatest, most_rules, rules_of}

rules_of-none : (lists : EstateLists) (folding : Folding) (direction : Direction) (workload : ℕ) → HasNoPolicies lists → rules_of lists folding direction workload ≡ 0
rules_of-none lists folding direction workload none = rw (none.admin, none.net, none.baseline)

greatest-zeros : (f : ℕ → ℕ) (ns : List ℕ) → ((n : ℕ) → f n ≡ 0) → greatest (map f ns) ≡ 0
greatest-zeros f [] zero = refl
greatest-zeros f (n ∷ ns) zero = rw (zero n, greatest-zeros f ns zero)

most_rules-none : (lists : EstateLists) (folding : Folding) → HasNoPolicies lists → most_rules lists folding ≡ 0
unfolding most_rules
most_rules-none lists folding none = greatest-zeros _ _ (λ workload. rw (rules_of-none lists folding Ingress workload none, rules_of-none lists folding Egress workload none))

pub none_looked_at : (lists : EstateLists) (before after : ℕ) → HasNoPolicies lists → before ≤ after → after ≤ before + due_for_all lists → after ≡ before
none_looked_at lists before after none least most =
    let folding = folding_of lists in
    let bound : after ≤ before + (4 * length folding.workloads * folding.kind_count + 2 * length folding.workloads) * 0 = rw (most_rules-none lists folding none) at most in
    omega (arith, bound)
