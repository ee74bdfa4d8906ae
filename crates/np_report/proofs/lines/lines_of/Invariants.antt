use Rattle.std.proofs.Common.{◌≡◌, ◌++◌, drop}
use Rattle.np_report.proofs.lines.lines_of.Given as goal
use Rattle.np_report.specs.Prelude.{lines_of}

-- the lines so far and those of the rows that are left are all of them
abbrev pub invariant-loop-row : goal.invariant-loop-row
invariant-loop-row g l =
    l.lines.items ++ lines_of g.F.Form.bytes l.has_rows (drop l.row-index l.rows) ≡ lines_of g.F.Form.bytes l.fn.has_rows l.fn.rows
