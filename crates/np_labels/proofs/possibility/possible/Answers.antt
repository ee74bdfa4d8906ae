use Rattle.std.specs.Ordering.{nat_cmp}
use Rattle.std.specs.Cmp.Lexicographic.{slice_cmp}
use Rattle.std.specs.BTreeMap.{get}
use Rattle.std.proofs.lemmas.Result.{IfOk-weaker}
use Rattle.np_labels.proofs.MeetsAll.{met_from_settled, none_from_settled}
use Rattle.np_labels.proofs.possibility.possible.Goals as goal

pub returns-clause-met : goal.returns-clause-met
returns-clause-met c =
    IfOk-weaker c.settle.result _ _ (λ found. met_from_settled c.args.all.now (get (slice_cmp nat_cmp) c.in_ok-demands_of.field-0) found c.in_ok-demands_of.ensures) c.settle.ensures

pub returns-clause-none : goal.returns-clause-none
returns-clause-none c =
    IfOk-weaker c.settle.result _ _ (λ found. none_from_settled c.args.all.now (get (slice_cmp nat_cmp) c.in_ok-demands_of.field-0) found c.in_ok-demands_of.ensures) c.settle.ensures
