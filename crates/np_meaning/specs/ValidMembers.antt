-- What members of a valid object may be (Kubernetes API conventions; "Object Names and IDs", "Labels and Selectors"; API reference,
-- ObjectMeta). A member that is null counts as missing, as the conventions have it.
use Rattle.std.specs.Prelude.{◌≡◌, ◌≤◌, ◌⊎◌, ℕ, ◌-◌, ◌==◌, ◌&&◌, ◌||◌, nat_le, List, [], ◌++◌, length, slice_index, Bool, true, Some, codes, ⊤}
use Rattle.std.specs.List.{list_all}
use Rattle.serde_json.specs.Data.{Data, Items, no_items, item, Members, no_members, member}
use Rattle.serde_json.specs.Find.{as_array, as_bool, as_object, as_str}
use Rattle.np_json.specs.Prelude.{member_of}

-- ---- types

abbrev pub IsObject : Data → Type 0
IsObject value = (members : Members) × (as_object value ≡ Some members)

abbrev pub IsFlag : Data → Type 0
IsFlag value = (flag : Bool) × (as_bool value ≡ Some flag)

-- a text that is so
abbrev pub IsText : (List ℕ → Type 0) → Data → Type 0
IsText Is value = (text : List ℕ) × (as_str value ≡ Some text) × Is text

-- any text
abbrev pub IsAny : List ℕ → Type 0
IsAny text = ⊤

-- that very text
abbrev pub IsThe : List ℕ → List ℕ → Type 0
IsThe one text = text ≡ one

-- a list of which each item is so
abbrev pub AreAll : (Data → Type 0) → Items → Type 0
AreAll Is no_items = ⊤
AreAll Is (item value items) = Is value × AreAll Is items

abbrev pub IsListOf : (Data → Type 0) → Data → Type 0
IsListOf Is value = (items : Items) × (as_array value ≡ Some items) × AreAll Is items

-- an object of which each entry is so
abbrev pub AreEntries : (List ℕ → Data → Type 0) → Members → Type 0
AreEntries Is no_members = ⊤
AreEntries Is (member key value members) = Is key value × AreEntries Is members

abbrev pub IsMapOf : (List ℕ → Data → Type 0) → Data → Type 0
IsMapOf Is value = (members : Members) × (as_object value ≡ Some members) × AreEntries Is members

-- ---- members

-- the member is there, and so
abbrev pub Has : List ℕ → (Data → Type 0) → Data → Type 0
Has name Is value = (found : Data) × (member_of name value ≡ Some found) × Is found

-- the member is so, where it is there
abbrev pub MayHave : List ℕ → (Data → Type 0) → Data → Type 0
MayHave name Is value = (found : Data) → member_of name value ≡ Some found → Is found

-- ---- names

abbrev pub is_lower_alphanumeric : ℕ → Bool
is_lower_alphanumeric byte = (nat_le 97 byte && nat_le byte 122) || (nat_le 48 byte && nat_le byte 57)

abbrev pub is_alphanumeric : ℕ → Bool
is_alphanumeric byte = is_lower_alphanumeric byte || (nat_le 65 byte && nat_le byte 90)

-- the first and the last byte pass
abbrev pub begins_and_ends : (ℕ → Bool) → List ℕ → Bool
begins_and_ends passes text = passes (slice_index text 0) && passes (slice_index text (length text - 1))

-- a letter in lower case, a digit, `-` (45) or `.` (46)
abbrev pub is_subdomain_byte : ℕ → Bool
is_subdomain_byte byte = is_lower_alphanumeric byte || (byte == 45 || byte == 46)

-- a DNS subdomain name, as most names of objects
pub record IsSubdomain (text : List ℕ) : Type 0 where
  pub some : 1 ≤ length text
  pub short : length text ≤ 253
  pub bytes : list_all is_subdomain_byte text ≡ true
  pub ends : begins_and_ends is_lower_alphanumeric text ≡ true

-- a letter in lower case, a digit or `-`
abbrev pub is_label_byte : ℕ → Bool
is_label_byte byte = is_lower_alphanumeric byte || byte == 45

-- a DNS label name, as that of a namespace
pub record IsDnsLabel (text : List ℕ) : Type 0 where
  pub some : 1 ≤ length text
  pub short : length text ≤ 63
  pub bytes : list_all is_label_byte text ≡ true
  pub ends : begins_and_ends is_lower_alphanumeric text ≡ true

-- ---- labels

-- a letter, a digit, `-`, `_` (95) or `.`
abbrev pub is_segment_byte : ℕ → Bool
is_segment_byte byte = is_alphanumeric byte || (byte == 45 || (byte == 95 || byte == 46))

-- what stands behind the prefix of a key, and a value that is not empty
pub record IsSegment (text : List ℕ) : Type 0 where
  pub some : 1 ≤ length text
  pub short : length text ≤ 63
  pub bytes : list_all is_segment_byte text ≡ true
  pub ends : begins_and_ends is_alphanumeric text ≡ true

-- the prefix of a key, and its name
pub record IsPrefixed (text : List ℕ) : Type 0 where
  pub before : List ℕ
  pub after : List ℕ
  pub prefix : IsSubdomain before
  pub name : IsSegment after
  pub spelled : text ≡ before ++ codes "/" ++ after

abbrev pub IsLabelKey : List ℕ → Type 0
IsLabelKey text = IsSegment text ⊎ IsPrefixed text

abbrev pub IsLabelValue : List ℕ → Type 0
IsLabelValue text = (text ≡ []) ⊎ IsSegment text

abbrev pub IsLabel : List ℕ → Data → Type 0
IsLabel key value = IsLabelKey key × IsText IsLabelValue value

-- ---- objects

-- the version and the kind of an object
pub record IsTyped (asked_version asked_kind : List ℕ) (value : Data) : Type 0 where
  pub object : IsObject value
  pub version : Has (codes "apiVersion") (IsText (IsThe asked_version)) value
  pub kind : Has (codes "kind") (IsText (IsThe asked_kind)) value

-- the metadata of an object that is in no namespace
pub record IsClusterMeta (IsName : List ℕ → Type 0) (value : Data) : Type 0 where
  pub object : IsObject value
  pub name : Has (codes "name") (IsText IsName) value
  pub labels : MayHave (codes "labels") (IsMapOf IsLabel) value

-- a Namespace, of which the metadata alone says something of connections
pub record IsValidNamespace (value : Data) : Type 0 where
  pub type : IsTyped (codes "v1") (codes "Namespace") value
  pub metadata : Has (codes "metadata") (IsClusterMeta IsDnsLabel) value
