use Rattle.std.proofs.Common.{rules}
use Rattle.serde_json.proofs.Views.{view-Array}
use Rattle.np_items.proofs.InputLemmas.{values-items_of}
use Rattle.np_items.proofs.list.items_of.Goals as goal

pub returns-in-Array : goal.returns-in-Array
returns-in-Array c = rw (c.in-Array.is, view-Array c.in-Array.items, values-items_of, c.from_vec.ensures) (search rules)
