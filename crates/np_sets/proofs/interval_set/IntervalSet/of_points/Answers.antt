use Rattle.std.proofs.Common.{sym, rules}
use Rattle.std.proofs.lemmas.List.Sorted.{IsNonDecreasingBy-from_sort_by_key, list_any-IsPermutation}
use Rattle.np_sets.proofs.interval_set.IntervalSet.of_points.Goals as goal

pub point_ranges-requires : goal.point_ranges-requires
point_ranges-requires g c = (
  search rules,
  rw c.deref.ensures.value (IsNonDecreasingBy-from_sort_by_key g.P.Point.number_of _ c.sort_unstable_by_key.ensures.sorted (λ a r f k. search rules)),
)

pub returns-clause-members : goal.returns-clause-members
returns-clause-members g c =
    λ p. rw (c.in_ok-ranges.ensures.members (g.P.Point.number_of p), c.deref.ensures.value) (sym (list_any-IsPermutation _ _ _ c.sort_unstable_by_key.ensures.permutation))
