use Rattle.std.proofs.lemmas.Result.{IfOk-weaker}
use Rattle.np_rules.proofs.Protocols.{of_each}
use Rattle.np_rules.proofs.port_sets.named_at.Goals as goal
use Rattle.np_rules.specs.Prelude.{end_view, has_named}

pub returns : goal.returns
returns c =
    IfOk-weaker c.with_named-2.result _ _
    (λ made with_sctp spot. rw (with_sctp spot, c.in_ok-more.ensures spot, c.in_ok-tcp.ensures spot) (of_each spot.proto (has_named c.args.name.now spot (end_view c.args.end.now))))
    c.with_named-2.ensures
