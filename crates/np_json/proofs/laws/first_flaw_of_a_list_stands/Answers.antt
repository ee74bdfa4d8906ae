use Rattle.std.proofs.Common.{zero-add}
use Rattle.np_json.proofs.ShapeLemmas.{each_item-first_flaw}
use Rattle.np_json.proofs.laws.first_flaw_of_a_list_stands.Goals as goal

pub returns : goal.returns
returns g c = λ shape before others item flaw all is. rw zero-add at (each_item-first_flaw (g.T.Shape.reads shape) 0 before others item flaw all is)
