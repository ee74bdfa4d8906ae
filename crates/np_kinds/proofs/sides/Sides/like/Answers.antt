use Rattle.std.proofs.Common.{sym, subst}
use Rattle.np_kinds.proofs.KindNumbers.{kind-there}
use Rattle.np_kinds.proofs.sides.Sides.like.Goals as goal
use Rattle.np_kinds.specs.Prelude.{IsWorkload, KnownSides}

pub kind_of-kind-requires : goal.kind_of-kind-requires
kind_of-kind-requires c =
    kind-there c.self.inside.folded.now c.workloads.result.now c.args.workload c.workloads.ensures.value
    (rw c.workloads.ensures.value (subst (λ (sides : KnownSides). IsWorkload sides.lists c.args.workload) (sym c.self.view_is) c.requires.workload))
