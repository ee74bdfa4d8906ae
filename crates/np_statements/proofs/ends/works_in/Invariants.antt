use Rattle.std.proofs.Common.{◌≡◌}
use Rattle.std.specs.Prelude.{filter}
use Rattle.std.specs.List.{range_with_len}
use Rattle.np_statements.specs.Prelude.{is_work_in_namespace}
use Rattle.np_statements.proofs.ends.works_in.Given as goal

-- the works so far are those of the numbers so far
abbrev pub invariant-loop-work : goal.invariant-loop-work
invariant-loop-work l = l.works ≡ filter (is_work_in_namespace l.folded l.name) (range_with_len 0 l.work)
