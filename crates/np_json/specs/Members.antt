-- Members of JSON objects.
use Rattle.std.specs.Prelude.{ℤ, ℕ, List, [], ◌∷◌, Bool, if◌then◌else◌, is_some, Option, Some, None, option_map, option_and_then}
use Rattle.serde_json.specs.Data.{Data, null, boolean, number, string, array, object, Items, Members, no_members, member}
use Rattle.serde_json.specs.Find.{get, as_i64, as_null, as_number, as_str, as_bool, as_array, as_object}
use Rattle.np_json.specs.declared.field.Field.{Field}
use Rattle.np_json.specs.declared.field.Field.TheVariants.{Missing, Wrong, Given}
use Rattle.np_json.specs.declared.field.NumberOrText.{NumberOrText}
use Rattle.np_json.specs.declared.field.NumberOrText.TheVariants.{Number, Text}

-- a value that is null counts as missing
abbrev pub unless_null : Data → Option Data
unless_null value = if is_some (as_null value) then None else Some value

-- the member of that name, and None where it is absent or null; a value that is no object has no members
abbrev pub member_of : List ℕ → Data → Option Data
member_of name value = option_and_then unless_null (get name value)

-- a field with its value seen by f
abbrev pub field_map : {A B : Type 0} → (A → B) → Field A → Field B
field_map f Missing = Missing
field_map f Wrong = Wrong
field_map f (Given x) = Given (f x)

-- what a value is, where it may be of another type
abbrev pub as_field : {A : Type 0} → Option A → Field A
as_field None = Wrong
as_field (Some x) = Given x

-- a fact of the value, if there is one
abbrev pub IfGiven : {A : Type 0} → Field A → (A → Type 0) → Type 0
IfGiven Missing P = Unit {0}
IfGiven Wrong P = Unit {0}
IfGiven (Given x) P = P x

-- a member by what `reads` takes
abbrev pub field_by : {A : Type 0} → (Data → Option A) → Option Data → Field A
field_by reads None = Missing
field_by reads (Some value) = as_field (reads value)

-- a number without a fraction and an exponent that fits 64 bits
abbrev pub as_whole : Data → Option ℤ
as_whole value = option_and_then as_i64 (as_number value)

-- an object as it is
abbrev pub as_itself : Data → Option Data
as_itself value = option_map (λ _. value) (as_object value)

-- the members, where they are all texts
abbrev pub pairs_of_members : Members → Option (List (List ℕ × List ℕ))
pairs_of_members no_members = Some []
pairs_of_members (member key value ms) = option_and_then (λ text. option_map (λ pairs. (key, text) ∷ pairs) (pairs_of_members ms)) (as_str value)

-- the members of an object, where they are all texts
abbrev pub as_pairs : Data → Option (List (List ℕ × List ℕ))
as_pairs value = option_and_then pairs_of_members (as_object value)

-- a whole number or a text
pub data Scalar : Type 0 where
  whole : ℤ → Scalar
  text : List ℕ → Scalar

abbrev pub plain : NumberOrText → Scalar
plain (Number n) = whole n
plain (Text s) = text s.now

abbrev pub as_scalar : Data → Option Scalar
as_scalar null = None
as_scalar (boolean b) = None
as_scalar (number n) = option_map whole (as_i64 n)
as_scalar (string s) = Some (text s)
as_scalar (array items) = None
as_scalar (object ms) = None

abbrev pub text_of : List ℕ → Data → Field (List ℕ)
text_of name value = field_by as_str (member_of name value)

abbrev pub whole_of : List ℕ → Data → Field ℤ
whole_of name value = field_by as_whole (member_of name value)

abbrev pub flag_of : List ℕ → Data → Field Bool
flag_of name value = field_by as_bool (member_of name value)

abbrev pub list_of : List ℕ → Data → Field Items
list_of name value = field_by as_array (member_of name value)

abbrev pub object_of : List ℕ → Data → Field Data
object_of name value = field_by as_itself (member_of name value)

abbrev pub scalar_of : List ℕ → Data → Field Scalar
scalar_of name value = field_by as_scalar (member_of name value)

abbrev pub pairs_of : List ℕ → Data → Field (List (List ℕ × List ℕ))
pairs_of name value = field_by as_pairs (member_of name value)
