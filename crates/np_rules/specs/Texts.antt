-- What directions and verdicts are called in reports.
use Rattle.std.specs.Prelude.{ℕ, List, ◌++◌, Bool, true, false, codes, decimal}
use Rattle.np_conns.specs.Prelude.{proto_name}
use Rattle.np_rules.specs.Types.{PortSpot}

abbrev pub verdict_text : Bool → List ℕ
verdict_text true = codes "Allow"
verdict_text false = codes "Deny"

-- `PROTOCOL port : Allow`
abbrev pub said_text : PortSpot → Bool → List ℕ
said_text spot allowed = proto_name spot.proto ++ codes " " ++ decimal spot.port ++ codes " : " ++ verdict_text allowed
