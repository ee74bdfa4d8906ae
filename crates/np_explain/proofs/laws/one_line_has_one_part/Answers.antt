use Rattle.np_explain.proofs.PartLineLemmas.{part_line-one}
use Rattle.np_explain.proofs.laws.one_line_has_one_part.Goals as goal

pub returns : goal.returns
returns c direction a b well well' named named' same = part_line-one direction a b well well' named named' same
