use Rattle.std.proofs.Common.{sym, ◌∙◌}
use Rattle.np_sets.proofs.Alike.{are_alike-apart, are_alike-left_ended, are_alike-right_ended}
use Rattle.np_sets.proofs.same.same_ranges.Goals as goal

pub returns-in_default-split_first : goal.returns-in_default-split_first
returns-in_default-split_first g c =
    sym (are_alike-right_ended g.P.Point.number_of _ _ _ _ c.in-Some.ensures.cases.0 c.in_default-split_first.ensures.cases) ∙ c.loop-first.invariant

pub returns-then-not-same_range : goal.returns-then-not-same_range
returns-then-not-same_range g c =
    sym (are_alike-apart g.P.Point.number_of _ _ _ _ _ _ c.in-Some.ensures.cases.0 c.in-Some-split_first.ensures.cases.0 (cc)) ∙ c.loop-first.invariant

pub returns : goal.returns
returns g c = c.is_empty.ensures ∙ are_alike-left_ended g.P.Point.number_of _ _ c.in_default.ensures.cases ∙ c.loop-first.invariant
