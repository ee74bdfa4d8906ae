-- Values whose texts are ASCII and whose numbers are small and not negative. Their text is UTF-8, and it is read back. For TextLemmas.
use Rattle.std.proofs.Common.{◌≡◌, ℕ, ◌^◌, ◌≤◌, List, [], ◌∷◌, Bool, true, false, ◌&&◌, nat_lt, IsUtf8, Some, decimal, refl, arith, ltb-true}
use Rattle.std.proofs.lemmas.Bool.{and_parts}
use Rattle.std.proofs.lemmas.Fmt.{IsAscii-decimal}
use Rattle.std.proofs.lemmas.Str.{IsUtf8-append, IsUtf8-from_ascii}
use Rattle.std.specs.List.{AllByRecursion}
use Rattle.json.specs.Print.{quoted}
use Rattle.json.specs.Tree as tree
use Rattle.json.specs.Tree.{HasNumbers, ItemsHaveNumbers, MembersHaveNumbers}
use Rattle.json.proofs.Printed.Decimals.{IsNumber-decimal}
use Rattle.json.proofs.Printed.Utf8.{are_ascii, IsUtf8-are_ascii, IsUtf8-quoted, IsUtf8-boolean}
use Rattle.serde_json.specs.Data.{Num, unsigned, negative, float, Data, null, boolean, number, string, array, object, Items, no_items, item, Members, no_members, member}
use Rattle.serde_json.specs.Read.{of_json, of_items, read}
use Rattle.serde_json.specs.View.{items_of}
use Rattle.serde_json.specs.Written.{compact_text, items_outline, items_text, members_outline, members_text, outline}
use Rattle.np_written.proofs.TextLemmas.{IsUtf8-comma, read-same_tokens}
use Rattle.np_base.proofs.Texts.{IsUtf8-byte}

-- a whole number that is not negative and fits 64 bits
abbrev pub is_plain_number : Num → Bool
is_plain_number (unsigned n) = nat_lt n (2 ^ 64)
is_plain_number (negative z) = false
is_plain_number (float x) = false

abbrev mutual
  pub is_plain : Data → Bool
  is_plain null = true
  is_plain (boolean b) = true
  is_plain (number n) = is_plain_number n
  is_plain (string s) = are_ascii s
  is_plain (array ds) = are_plain_items ds
  is_plain (object ms) = are_plain_members ms

  pub are_plain_items : Items → Bool
  are_plain_items no_items = true
  are_plain_items (item d ds) = is_plain d && are_plain_items ds

  pub are_plain_members : Members → Bool
  are_plain_members no_members = true
  are_plain_members (member k d ms) = are_ascii k && (is_plain d && are_plain_members ms)

abbrev pub IsPlain : Data → Type 0
IsPlain value = is_plain value ≡ true

pub all_plain_items : (values : List Data) → AllByRecursion IsPlain values → are_plain_items (items_of values) ≡ true
all_plain_items [] all = refl
all_plain_items (value ∷ values) all = rw all.0 (all_plain_items values all.1)

-- ---- UTF-8

number_utf8 : (n : ℕ) → nat_lt n (2 ^ 64) ≡ true → IsUtf8 (decimal n)
number_utf8 n small = IsUtf8-from_ascii (decimal n) (IsAscii-decimal n (ltb-true n (2 ^ 64) small))

mutual
  pub IsUtf8-compact_text : (d : Data) → is_plain d ≡ true → IsUtf8 (compact_text d)
  IsUtf8-compact_text null plain = IsUtf8-are_ascii _ refl
  IsUtf8-compact_text (boolean b) plain = IsUtf8-boolean b
  IsUtf8-compact_text (number (unsigned n)) plain = number_utf8 n plain
  IsUtf8-compact_text (number (negative z)) plain = cc
  IsUtf8-compact_text (number (float x)) plain = cc
  IsUtf8-compact_text (string s) plain = IsUtf8-quoted s (IsUtf8-are_ascii s plain)
  IsUtf8-compact_text (array ds) plain = IsUtf8-byte 91 refl _ (IsUtf8-items_text false ds plain)
  IsUtf8-compact_text (object ms) plain = IsUtf8-byte 123 refl _ (IsUtf8-members_text false ms plain)

  IsUtf8-items_text : (later : Bool) (ds : Items) → are_plain_items ds ≡ true → IsUtf8 (items_text later ds)
  IsUtf8-items_text later no_items plain = IsUtf8-are_ascii _ refl
  IsUtf8-items_text later (item d ds) plain =
      let parts = and_parts (is_plain d) (are_plain_items ds) plain in
      IsUtf8-comma later _ (IsUtf8-append (compact_text d) (items_text true ds) (IsUtf8-compact_text d parts.0) (IsUtf8-items_text true ds parts.1))

  IsUtf8-members_text : (later : Bool) (ms : Members) → are_plain_members ms ≡ true → IsUtf8 (members_text later ms)
  IsUtf8-members_text later no_members plain = IsUtf8-are_ascii _ refl
  IsUtf8-members_text later (member k d ms) plain =
      let parts = and_parts (are_ascii k) (is_plain d && are_plain_members ms) plain in
      let rest = and_parts (is_plain d) (are_plain_members ms) parts.1 in
      IsUtf8-comma later _ (IsUtf8-append (quoted k) _ (IsUtf8-quoted k (IsUtf8-are_ascii k parts.0))
      (IsUtf8-byte 58 refl _ (IsUtf8-append (compact_text d) (members_text true ms) (IsUtf8-compact_text d rest.0) (IsUtf8-members_text true ms rest.1))))

-- ---- numbers

mutual
  has_numbers : (d : Data) → is_plain d ≡ true → HasNumbers (outline d)
  has_numbers null plain = tt
  has_numbers (boolean b) plain = tt
  has_numbers (number (unsigned n)) plain = IsNumber-decimal n (ltb-true n (2 ^ 64) plain)
  has_numbers (number (negative z)) plain = cc
  has_numbers (number (float x)) plain = cc
  has_numbers (string s) plain = tt
  has_numbers (array ds) plain = items_have_numbers ds plain
  has_numbers (object ms) plain = members_have_numbers ms plain

  items_have_numbers : (ds : Items) → are_plain_items ds ≡ true → ItemsHaveNumbers (items_outline ds)
  items_have_numbers no_items plain = tt
  items_have_numbers (item d ds) plain =
      let parts = and_parts (is_plain d) (are_plain_items ds) plain in
      (has_numbers d parts.0, items_have_numbers ds parts.1)

  members_have_numbers : (ms : Members) → are_plain_members ms ≡ true → MembersHaveNumbers (members_outline ms)
  members_have_numbers no_members plain = tt
  members_have_numbers (member k d ms) plain =
      let parts = and_parts (are_ascii k) (is_plain d && are_plain_members ms) plain in
      let rest = and_parts (is_plain d) (are_plain_members ms) parts.1 in
      (has_numbers d rest.0, members_have_numbers ms rest.1)

-- ---- reading back

-- a plain value that does not nest deep is read of its text, where its outline gives it
pub read-compact_text : (d : Data) → is_plain d ≡ true → tree.depth (outline d) ≤ 127 → of_json (outline d) ≡ Some d → read (compact_text d) ≡ Some d
read-compact_text d plain shallow gives = read-same_tokens d (compact_text d) (has_numbers d plain) shallow gives refl

-- an outline of items gives them, where it gives each
abbrev pub IsGiven : Data → Type 0
IsGiven value = of_json (outline value) ≡ Some value

pub all_given : (values : List Data) → AllByRecursion IsGiven values → of_items (items_outline (items_of values)) ≡ Some (items_of values)
all_given [] all = refl
all_given (value ∷ values) all = rw (all.0, all_given values all.1) refl

-- items nest no deeper than each does
pub all_shallow : (most : ℕ) (values : List Data) → AllByRecursion (λ value. tree.depth (outline value) ≤ most) values → tree.items_depth (items_outline (items_of values)) ≤ most
all_shallow most [] all = omega arith
all_shallow most (value ∷ values) all = let rest = all_shallow most values all.1 in let first = all.0 in omega arith
