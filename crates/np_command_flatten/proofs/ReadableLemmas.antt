-- Values whose text is UTF-8, and is read as them. For ListLemmas and PrintedLemmas.
use Rattle.std.proofs.Common.{◌≡◌, ℕ, suc, ◌^◌, ◌<◌, ◌≤◌, List, [], ◌∷◌, ◌++◌, Bool, true, false, ◌&&◌, IsUtf8, Some, map, decimal, refl, sym, ap, ◌∙◌, arith, append_assoc, append-nil}
use Rattle.std.proofs.lemmas.Bool.{and_parts}
use Rattle.std.proofs.lemmas.Fmt.{IsAscii-decimal}
use Rattle.std.proofs.lemmas.List.{map-append}
use Rattle.std.proofs.lemmas.Str.{IsUtf8-append, IsUtf8-from_ascii}
use Rattle.std.specs.List.{AllByRecursion, list_all}
use Rattle.json.specs.Lex.{tokens}
use Rattle.json.specs.Print.{quoted}
use Rattle.json.specs.Tree as tree
use Rattle.json.specs.Tree.{HasNumbers, ItemsHaveNumbers, MembersHaveNumbers}
use Rattle.json.proofs.Printed.Decimals.{IsNumber-decimal}
use Rattle.json.proofs.Printed.Utf8.{are_ascii, IsUtf8-are_ascii, IsUtf8-quoted}
use Rattle.serde_json.specs.Data.{Data, Items, member, number, put, string, unsigned}
use Rattle.serde_json.specs.Read.{of_items, of_json, of_members}
use Rattle.serde_json.specs.View.{items_of}
use Rattle.serde_json.specs.Written.{compact_text, items_outline, items_text, members_outline, members_text, outline}
use Rattle.serde_json.proofs.Numbers.{number_of-decimal}
use Rattle.np_written.proofs.TextLemmas.{IsUtf8-comma, read-same_tokens}
use Rattle.np_written.specs.Values.{members_with, object_with, list_with}
use Rattle.np_base.proofs.Texts.{IsUtf8-byte}
use Rattle.np_items.specs.Prelude.{json_of}
use Rattle.np_items.proofs.InputLemmas.{json_of-read}
use Rattle.np_labels.specs.Prelude.{is_ascending}
use Rattle.np_command_flatten.proofs.OrderLemmas.{IsAbove, above-before}

-- a value whose text is UTF-8, whose numbers are written as numbers, which its outline gives, and which nests so deep at
-- most
pub record IsReadable (most : ℕ) (value : Data) : Type 0 where
  pub utf8 : IsUtf8 (compact_text value)
  pub numbers : HasNumbers (outline value)
  pub given : of_json (outline value) ≡ Some value
  pub shallow : tree.depth (outline value) ≤ most

pub deeper : (most more : ℕ) (value : Data) → most ≤ more → IsReadable most value → IsReadable more value
deeper most more value within readable = let shallow = readable.shallow in record { utf8 = readable.utf8; numbers = readable.numbers; given = readable.given; shallow = omega arith }

-- ---- texts and numbers

pub string-readable : (most : ℕ) (text : List ℕ) → IsUtf8 text → IsReadable most (string text)
string-readable most text utf8 = record { utf8 = IsUtf8-quoted text utf8; numbers = tt; given = refl; shallow = omega arith }

pub number-readable : (most n : ℕ) → n < 2 ^ 64 → IsReadable most (number (unsigned n))
number-readable most n small = record {
  utf8 = IsUtf8-from_ascii (decimal n) (IsAscii-decimal n small);
  numbers = IsNumber-decimal n small;
  given = rw (number_of-decimal n small) refl;
  shallow = omega arith;
}

-- ---- lists

-- the same of the items of a list
record AreReadable (most : ℕ) (items : Items) : Type 0 where
  utf8 : (later : Bool) → IsUtf8 (items_text later items)
  numbers : ItemsHaveNumbers (items_outline items)
  given : of_items (items_outline items) ≡ Some items
  shallow : tree.items_depth (items_outline items) ≤ most

items-readable : (most : ℕ) (values : List Data) → AllByRecursion (IsReadable most) values → AreReadable most (items_of values)
items-readable most [] all = record { utf8 = λ later. IsUtf8-are_ascii _ refl; numbers = tt; given = refl; shallow = omega arith }
items-readable most (value ∷ values) all =
    let first = all.0 in
    let rest = items-readable most values all.1 in
    record {
      utf8 = λ later. IsUtf8-comma later _ (IsUtf8-append (compact_text value) (items_text true (items_of values)) first.utf8 (rest.utf8 true));
      numbers = (first.numbers, rest.numbers);
      given = rw (first.given, rest.given) refl;
      shallow = omega arith;
    }

pub list-readable : (most : ℕ) (values : List Data) → AllByRecursion (IsReadable most) values → IsReadable (suc most) (list_with values)
list-readable most values all =
    let items = items-readable most values all in
    record { utf8 = IsUtf8-byte 91 refl _ (items.utf8 false); numbers = items.numbers; given = rw items.given refl; shallow = omega arith }

-- ---- objects

abbrev pub Entry : Type 0
Entry = List ℕ × Data

abbrev names_of : List Entry → List (List ℕ)
names_of entries = map (λ entry. entry.0) entries

-- whether the names are ASCII, and ascend
abbrev pub are_names : List Entry → Bool
are_names entries = list_all are_ascii (names_of entries) && is_ascending (names_of entries)

abbrev pub AllReadable : ℕ → List Entry → Type 0
AllReadable most entries = AllByRecursion (λ entry. IsReadable most entry.1) entries

-- a member whose name is above those before it goes last
put-last : (before : List Entry) (entry : Entry) → IsAbove entry.0 (names_of before) → put entry.0 entry.1 (members_with before) ≡ members_with (before ++ entry ∷ [])
put-last [] entry above = refl
put-last (first ∷ before) entry above = rw above.0 (ap (member first.0 first.1) (put-last before entry above.1))

members-given : (before entries : List Entry) → is_ascending (names_of before ++ names_of entries) ≡ true → AllByRecursion (λ entry. of_json (outline entry.1) ≡ Some entry.1) entries →
    of_members (members_outline (members_with entries)) (members_with before) ≡ Some (members_with (before ++ entries))
members-given before [] ascending all = ap (λ (entries : List Entry). Some (members_with entries)) (sym (append-nil before))
members-given before (entry ∷ entries) ascending all =
    let moved = append_assoc before (entry ∷ []) entries in
    let names = ap (λ (front : List (List ℕ)). front ++ names_of entries) (map-append (λ (one : Entry). one.0) before (entry ∷ [])) ∙ append_assoc (names_of before) (entry.0 ∷ [])
    (names_of entries) in
    let rest = members-given (before ++ entry ∷ []) entries (rw names ascending) all.1 in
    rw (all.0, put-last before entry (above-before (names_of before) (names_of entries) entry.0 ascending)) (rest ∙ ap (λ (entries : List Entry). Some (members_with entries)) moved)

-- the same of the members of an object
record HasReadable (most : ℕ) (entries : List Entry) : Type 0 where
  utf8 : (later : Bool) → IsUtf8 (members_text later (members_with entries))
  numbers : MembersHaveNumbers (members_outline (members_with entries))
  given : AllByRecursion (λ entry. of_json (outline entry.1) ≡ Some entry.1) entries
  shallow : tree.members_depth (members_outline (members_with entries)) ≤ most

members-readable : (most : ℕ) (entries : List Entry) → list_all are_ascii (names_of entries) ≡ true → AllReadable most entries → HasReadable most entries
members-readable most [] names all = record { utf8 = λ later. IsUtf8-are_ascii _ refl; numbers = tt; given = tt; shallow = omega arith }
members-readable most (entry ∷ entries) names all =
    let ascii = and_parts (are_ascii entry.0) (list_all are_ascii (names_of entries)) names in
    let first = all.0 in
    let rest = members-readable most entries ascii.1 all.1 in
    record {
      utf8 = λ later. IsUtf8-comma later _ (IsUtf8-append (quoted entry.0) _ (IsUtf8-quoted entry.0 (IsUtf8-are_ascii entry.0 ascii.0))
          (IsUtf8-byte 58 refl _ (IsUtf8-append (compact_text entry.1) (members_text true (members_with entries)) first.utf8 (rest.utf8 true))));
      numbers = (first.numbers, rest.numbers);
      given = (first.given, rest.given);
      shallow = omega arith;
    }

pub object-readable : (most : ℕ) (entries : List Entry) → are_names entries ≡ true → AllReadable most entries → IsReadable (suc most) (object_with entries)
object-readable most entries names all =
    let tests = and_parts (list_all are_ascii (names_of entries)) (is_ascending (names_of entries)) names in
    let members = members-readable most entries tests.0 all in
    record {
      utf8 = IsUtf8-byte 123 refl _ (members.utf8 false);
      numbers = members.numbers;
      given = rw (members-given [] entries tests.1 members.given) refl;
      shallow = omega arith;
    }

-- ---- reading back

-- a value that does not nest deep is read of a text in UTF-8 that has the tokens of its own
pub json_of-same_tokens : (most : ℕ) (value : Data) (text : List ℕ) → most ≤ 127 → IsReadable most value → IsUtf8 text → tokens text ≡ tokens (compact_text value) → json_of text ≡ Some value
json_of-same_tokens most value text within readable utf8 same =
    let shallow = readable.shallow in
    json_of-read text value utf8 (read-same_tokens value text readable.numbers (omega arith) readable.given same)
