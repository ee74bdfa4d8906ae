-- Shapes of single values, and of the maps of labels.
use Rattle.std.specs.Prelude.{ℤ, ℕ, pos, negsuc, List, Bool, ◌&&◌, nat_le, if◌then◌else◌, Option, Ok}
use Rattle.std.specs.List.{list_all}
use Rattle.serde_json.specs.Data.{Data}
use Rattle.serde_json.specs.Find.{as_str, as_bool}
use Rattle.np_conns.specs.Prelude.{proto_named}
use Rattle.np_conns.specs.declared.proto.Proto.{Proto}
use Rattle.np_json.specs.Members.{as_whole, as_pairs}
use Rattle.np_json.specs.Shapes.{Read, ◌>>=◌, or_refuse, passing, refuse}
use Rattle.np_model.specs.Prelude.{is_label, is_name, is_word}
use Rattle.np_json.specs.Types.{BadField, BadName, BadPort, BadProtocol}

-- a value of the type that is asked for, else BadField
abbrev pub of_type : {A : Type 0} → Option A → Read A
of_type found = or_refuse BadField found

abbrev pub text : Data → Read (List ℕ)
text value = of_type (as_str value)

abbrev pub whole : Data → Read ℤ
whole value = of_type (as_whole value)

abbrev pub flag : Data → Read Bool
flag value = of_type (as_bool value)

-- a text that is a name, else BadName
unfoldable pub name : Data → Read (List ℕ)
name value = passing is_name BadName (text value)

-- a text that is a word, else BadField
unfoldable pub word : Data → Read (List ℕ)
word value = passing is_word BadField (text value)

-- a port's number, if the number is from 1 to 65535
abbrev pub port_number : ℤ → Read ℕ
port_number (pos n) = if nat_le 1 n && nat_le n 65535 then Ok n else refuse BadPort
port_number (negsuc n) = refuse BadPort

-- a whole number from 1 to 65535, else BadPort
unfoldable pub port : Data → Read ℕ
port value = whole value >>= port_number

-- a text that names a protocol, else BadProtocol
unfoldable pub protocol_name : Data → Read Proto
protocol_name value = do or_refuse BadProtocol (proto_named (← text value))

-- an object from texts to texts that are labels, else BadField
unfoldable pub labels : Data → Read (List (List ℕ × List ℕ))
labels value = passing (list_all is_label) BadField (of_type (as_pairs value))
