use Rattle.std.proofs.Common.{sym, ◌∙◌}
use Rattle.np_statements.proofs.AllPodsLemmas.{hold-together, pods-asked}
use Rattle.np_statements.proofs.all_pods.hold_together.Goals as goal

pub counterexample_of-requires : goal.counterexample_of-requires
counterexample_of-requires c = rw (c.requires, c.in_ok-any_pod.ensures, c.in_ok-any_pod-2.ensures) (pods-asked c.args.folded.now c.args.wanted c.in_ok-joined_conns.field-0)

pub returns-in-Ok-None-clause-hold : goal.returns-in-Ok-None-clause-hold
returns-in-Ok-None-clause-hold c = λ held.
    let found = rw (c.requires, c.in_ok-any_pod.ensures, c.in_ok-any_pod-2.ensures) at c.in-Ok-None.ensures.counterexample in
    hold-together c.args.folded.now c.args.wanted c.in_ok-joined_conns.field-0 c.args.lines.now (sym found ∙ c.in-Ok-None.field-0-is) c.in_ok-joined_conns.ensures
