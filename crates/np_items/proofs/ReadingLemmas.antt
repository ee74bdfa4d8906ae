-- Readings of one list after another. For `all_values` and `each_item`.
use Rattle.std.proofs.Common.{List, ◌++◌, Ok, Err}
use Rattle.np_items.specs.Prelude.{ItemsReading}

-- what was read, and then what is read of the rest
abbrev pub after : {A : Type 0} → List A → ItemsReading (List A) → ItemsReading (List A)
after front (Ok more) = Ok (front ++ more)
after front (Err fault) = Err fault
