use Rattle.np_rules.proofs.SameSideLemmas.{alike-own}
use Rattle.np_rules.specs.Prelude.{pod_view}
use Rattle.np_rules.proofs.same_sides.is_alike_for_net.Goals as goal

pub returns : goal.returns
returns c =
    rw (c.selects_both-here.ensures, c.own_policies-own.ensures.own, c.selects_both-there.ensures, c.own_policies-others.ensures.own)
    (alike-own c.args.policies.now (pod_view c.args.pod.now) (pod_view c.args.other.now))
