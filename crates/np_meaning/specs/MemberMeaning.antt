-- What single members of an object in JSON say.
use Rattle.std.specs.Prelude.{◌≡◌, ℕ, ℤ, List, [], ◌∷◌, Option, unwrap_or, codes}
use Rattle.serde_json.specs.Data.{Data, object, Members, no_members}
use Rattle.serde_json.specs.Find.{as_object, as_str}
use Rattle.np_conns.specs.Prelude.{proto_named}
use Rattle.np_json.specs.Prelude.{as_whole, member_of}
use Rattle.np_meaning.specs.Types.{Proto, Tcp}

-- the object of a member, and one without members where it is missing
abbrev pub object_at : List ℕ → Data → Data
object_at name value = unwrap_or (member_of name value) (object no_members)

-- the text of a member, and the empty text where there is none
abbrev pub text_at : List ℕ → Data → List ℕ
text_at name value = unwrap_or (as_str (object_at name value)) []

-- the whole number of a member, if it is one
abbrev pub number_at : List ℕ → Data → Option ℤ
number_at name value = as_whole (object_at name value)

-- the entries of a member, and none where it is missing
abbrev pub entries_at : List ℕ → Data → Members
entries_at name value = unwrap_or (as_object (object_at name value)) no_members

-- the version and the kind of an object
abbrev pub IsOfKind : List ℕ → List ℕ → Data → Type 0
IsOfKind version kind value = (text_at (codes "apiVersion") value ≡ version) × (text_at (codes "kind") value ≡ kind)

-- the namespace that `metadata` names, and `default` where that is missing or empty
abbrev pub named_or_default : List ℕ → List ℕ
named_or_default [] = codes "default"
named_or_default (byte ∷ bytes) = byte ∷ bytes

-- the member `spec`, and an object without members where it is missing
abbrev pub spec_of : Data → Data
spec_of policy = unwrap_or (member_of (codes "spec") policy) (object no_members)

-- the protocol that `protocol` names, and TCP where it is missing
abbrev pub protocol_of : Data → Proto
protocol_of entry = unwrap_or (proto_named (text_at (codes "protocol") entry)) Tcp
