use Rattle.np_flatten.proofs.DifferLemmas.{same-told}
use Rattle.np_flatten.proofs.differ.are_same.Goals as goal

pub returns : goal.returns
returns c = same-told c.args.one.now c.args.other.now c.same.result c.same.ensures.answer
