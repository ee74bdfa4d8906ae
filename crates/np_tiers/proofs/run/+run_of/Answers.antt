use Rattle.std.proofs.Common.{◌≡◌, ◌/◌, ◌++◌, length}
use Rattle.std.proofs.lemmas.List.{take-append-drop}
use Rattle.np_tiers.proofs.Runs.{run_of_halves}
use Rattle.np_tiers.proofs.run.+run_of.Goals as goal

pub returns-in_ok-run-in_default : goal.returns-in_ok-run-in_default
returns-in_ok-run-in_default g t c =
    let parts = c.args.parts.now in
    let front = c.split_at.result.0.now in
    let back = c.split_at.result.1.now in
    let split : front ++ back ≡ parts = rw (c.split_at.ensures.front, c.split_at.ensures.back) (take-append-drop (length parts / 2) parts) in
    run_of_halves g.S.Cells.has g.P.TierRule.set_of g.P.TierRule.action_of parts front back c.in_ok-run-in_default.run' split
    (c.in_ok-run-in_default.ensures _ _ c.in_ok-run_of-in_default.ensures c.in_ok-run_of-in_default-2.ensures)
