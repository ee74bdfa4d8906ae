use Rattle.std.proofs.Common.{ap, codes, ◌∙◌}
use Rattle.np_command_sample.proofs.CountLemmas.{count_lines-joined}
use Rattle.np_command_sample.proofs.report.summary.Goals as goal
use Rattle.np_command_sample.specs.Prelude.{count_line}

pub returns : goal.returns
returns c =
    c.in_ok-format.ensures.ok
    ∙ count_lines-joined c.args.workloads c.args.tally.now _ _ _ _
    (c.in_ok-workloads.ensures ∙ ap (count_line (codes "workloads")) c.from.ensures)
    (c.in_ok-pairs.ensures ∙ ap (count_line (codes "pair rows")) c.pairs.ensures)
    (c.in_ok-addresses.ensures ∙ ap (count_line (codes "address rows")) c.addresses.ensures)
    (c.in_ok-controllers.ensures ∙ ap (count_line (codes "ingress rows")) c.controllers.ensures)
