use Rattle.std.proofs.Common.{ap, ◌∙◌, arith}
use Rattle.std.specs.Net.Text.{longest_zero_run}
use Rattle.np_addr.proofs.TextLemmas.{shortened_text-run}
use Rattle.np_addr.proofs.print.print_ipv6.Goals as goal

pub returns : goal.returns
returns c =
    rw (c.in_ok-push_groups-3.ensures, c.in_ok-push_str.ensures.bytes, c.in_ok-push_groups-2.ensures, c.new-text.ensures.bytes, c.groups_of-groups.ensures)
    (shortened_text-run _ c.longest_zero_run-start.result (c.longest_zero_run-start.ensures.run ∙ ap longest_zero_run c.groups_of-groups.ensures) (omega arith))
