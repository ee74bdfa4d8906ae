-- Maps of labels.
use Rattle.std.specs.Prelude.{List, map, Ok}
use Rattle.serde_json.specs.Data.{Data}
use Rattle.np_json.specs.Prelude.{Read, labels, ◌>>=◌}
use Rattle.np_labels.specs.Prelude.{labels_of, pair_of}
use Rattle.np_objects.specs.Types.{Pair}

-- an object from texts to texts, each a label
unfoldable pub label_map : Data → Read (List Pair)
label_map value = do Ok (labels_of (map pair_of (← labels value)))
