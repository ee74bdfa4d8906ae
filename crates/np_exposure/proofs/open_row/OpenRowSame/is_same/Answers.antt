use Rattle.std.proofs.Common.{ap}
use Rattle.np_exposure.proofs.SameLemmas.{rows-differ}
use Rattle.np_exposure.specs.Prelude.{ExposureRow}
use Rattle.np_exposure.proofs.open_row.OpenRowSame.is_same.Goals as goal

pub returns-else-are_same : goal.returns-else-are_same
returns-else-are_same c =
    rows-differ c.args.self.now c.args.other.now c.self.inside.backwards.items c.other.inside.backwards.items c.deref.result.now c.deref-2.result.now c.are_same.result c.if-are_same.false
    c.are_same.ensures c.deref.ensures.value c.deref-2.ensures.value
    (ap (λ (row : ExposureRow). row.requirements) c.self.view_is) (ap (λ (row : ExposureRow). row.requirements) c.other.view_is)
