use Rattle.std.proofs.Common.{sym, ◌∙◌}
use Rattle.np_statements.proofs.BrokenLemmas.{broken-is, not_broken, packet-places}
use Rattle.np_statements.proofs.checking.broken_of.Goals as goal

pub returns-in_default-clause-broken : goal.returns-in_default-clause-broken
returns-in_default-clause-broken c = not_broken c.args.checker.now c.args.asked_line (sym c.in_ok-packet.ensures.counterexample ∙ c.in_default.is)

pub returns-clause-broken : goal.returns-clause-broken
returns-clause-broken c = broken-is c.args.checker.now c.args.asked_line c.in-Some.packet c.broken_verdict-allowed.result c.requires
    (sym c.in_ok-packet.ensures.counterexample ∙ c.in-Some.is) c.broken_verdict-allowed.ensures

pub returns-clause-places : goal.returns-clause-places
returns-clause-places c = packet-places c.args.checker.now c.args.asked_line.question c.in-Some.packet c.requires (sym c.in_ok-packet.ensures.counterexample ∙ c.in-Some.is)
