-- Whether an end has a port of a name.
use Rattle.std.specs.Prelude.{ℕ, List, Bool, false}
use Rattle.std.specs.List.{list_any}
use Rattle.std.specs.Str.{bytes_eq}
use Rattle.np_rules.specs.model.Ends.{ModelEnd, pod, address}

abbrev pub has_name : List ℕ → ModelEnd → Bool
has_name name (pod p) = list_any (λ port. bytes_eq port.name name) p.ports
has_name name (address a) = false
