use Rattle.std.proofs.Common.{ap, sym, ◌∙◌}
use Rattle.np_fold.specs.Prelude.{Folding}
use Rattle.np_fold.proofs.MemberLemmas.{number-by_name}
use Rattle.np_fold.proofs.workloads.Workloads.by_name.Goals as goal

pub returns-in-Some : goal.returns-in-Some
returns-in-Some c =
    sym c.in-Some.is ∙ c.get_index_of.ensures.index
    ∙ number-by_name c.args.name.now c.args.self.now c.self.inside.by_name.entries (ap (λ (folding : Folding). folding.workloads) c.self.view_is)

pub returns-in-None : goal.returns-in-None
returns-in-None c =
    sym c.in-None.is ∙ c.get_index_of.ensures.index
    ∙ number-by_name c.args.name.now c.args.self.now c.self.inside.by_name.entries (ap (λ (folding : Folding). folding.workloads) c.self.view_is)
