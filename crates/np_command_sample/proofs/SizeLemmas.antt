-- How many bytes the text of a sample has at most. For `samples_have_few_bytes`.
use Rattle.std.proofs.Common.{ℕ, ◌+◌, ◌*◌, ◌/◌, ◌%◌, ◌^◌, ◌<◌, ◌≤◌, List, [], ◌∷◌, ◌++◌, length, nat_lt, Bool, true, false, cond, codes, decimal, arith, length-append}
use Rattle.std.specs.List.{AllByRecursion}
use Rattle.std.specs.Char.{digit_char}
use Rattle.std.proofs.lemmas.Fmt.{length-decimal-le}
use Rattle.json.specs.Print.{escape, escape_byte, escape_letter, quoted, token_text}
use Rattle.json.specs.Token.{Token}
use Rattle.serde_json.specs.Data.{Data, null, boolean, number, string, array, object, Items, no_items, item, Members, no_members, member}
use Rattle.serde_json.specs.View.{items_of}
use Rattle.serde_json.specs.Written.{comma_if, compact_text, items_text, members_text, number_text}
use Rattle.np_sample.specs.Prelude.{namespace_count, next_of, sample_admin_policy, sample_namespace, sample_net_policy, sample_objects, sample_pod, sample_port, sample_text, sample_value}
use Rattle.np_sample.proofs.ObjectLemmas.{all-objects}
use Rattle.np_command_sample.proofs.ReadingLemmas.{length-objects}
use Rattle.np_command_sample.proofs.RowCountLemmas.{length-flat_map-le}

-- ---- a value

-- a byte stands in a string as at most six
length-escape_byte : (x : ℕ) → length (escape_byte x) ≤ 6
unfolding escape_byte
length-escape_byte x = by (nat_lt 0 (escape_letter x)) (nat_lt x 32)
  where
    by : (short control : Bool) →
        length (cond short (92 ∷ escape_letter x ∷ []) (cond control (92 ∷ 117 ∷ 48 ∷ 48 ∷ digit_char (x / 16) ∷ digit_char (x % 16) ∷ []) (x ∷ []))) ≤ 6
    by true control = omega arith
    by false true = omega arith
    by false false = omega arith

length-quoted : (s : List ℕ) → length (quoted s) ≤ 6 * length s + 2
length-quoted s = omega (arith, length-append (escape s) (34 ∷ []), length-flat_map-le escape_byte 6 length-escape_byte s)

length-comma_if : (later : Bool) → length (comma_if later) ≤ 1
length-comma_if true = omega arith
length-comma_if false = omega arith

length-boolean : (b : Bool) → length (token_text (Token.boolean b)) ≤ 5
length-boolean true = omega arith
length-boolean false = omega arith

-- an upper bound of the bytes of a value's text: its brackets, quotes, colons and commas, each number as long as it is, and
-- six for each byte of a string
abbrev mutual
  most_bytes : Data → ℕ
  most_bytes null = 4
  most_bytes (boolean b) = 5
  most_bytes (number n) = length (number_text n)
  most_bytes (string s) = 6 * length s + 2
  most_bytes (array ds) = 1 + most_bytes_of_items ds
  most_bytes (object ms) = 1 + most_bytes_of_members ms

  most_bytes_of_items : Items → ℕ
  most_bytes_of_items no_items = 1
  most_bytes_of_items (item d ds) = 1 + (most_bytes d + most_bytes_of_items ds)

  most_bytes_of_members : Members → ℕ
  most_bytes_of_members no_members = 1
  most_bytes_of_members (member k d ms) = 6 * length k + 4 + (most_bytes d + most_bytes_of_members ms)

mutual
  length-compact_text : (d : Data) → length (compact_text d) ≤ most_bytes d
  length-compact_text null = omega arith
  length-compact_text (boolean b) = length-boolean b
  length-compact_text (number n) = omega arith
  length-compact_text (string s) = length-quoted s
  length-compact_text (array ds) = omega (arith, length-items_text false ds)
  length-compact_text (object ms) = omega (arith, length-members_text false ms)

  length-items_text : (later : Bool) (ds : Items) → length (items_text later ds) ≤ most_bytes_of_items ds
  length-items_text later no_items = omega arith
  length-items_text later (item d ds) =
      let value = length-compact_text d in
      let others = length-items_text true ds in
      omega (
        arith,
        length-append (comma_if later) (compact_text d ++ items_text true ds),
        length-append (compact_text d) (items_text true ds),
        length-comma_if later,
        value,
        others,
      )

  length-members_text : (later : Bool) (ms : Members) → length (members_text later ms) ≤ most_bytes_of_members ms
  length-members_text later no_members = omega arith
  length-members_text later (member k d ms) =
      let value = length-compact_text d in
      let others = length-members_text true ms in
      omega (
        arith,
        length-append (comma_if later) (quoted k ++ 58 ∷ (compact_text d ++ members_text true ms)),
        length-append (quoted k) (58 ∷ (compact_text d ++ members_text true ms)),
        length-append (compact_text d) (members_text true ms),
        length-comma_if later,
        length-quoted k,
        value,
        others,
      )

-- ---- objects of the sample

abbrev IsSmall : Data → Type 0
IsSmall value = most_bytes value ≤ 5000

digits-few : (n : ℕ) → n < 10000 → length (decimal n) ≤ 4
digits-few n small = length-decimal-le 4 n (omega arith) (omega (arith, small)) (omega (arith, small))

small-namespace : (j : ℕ) → j < namespace_count → IsSmall (sample_namespace j)
small-namespace j within = let digits = digits-few j (omega arith) in omega arith

small-pod : (i : ℕ) → i < 1000 → IsSmall (sample_pod i)
small-pod i within =
    let app = digits-few (i % 7) (omega arith) in
    let name = digits-few i (omega arith) in
    let space = digits-few (i % 5) (omega arith) in
    let port = digits-few (sample_port i) (omega arith) in
    omega arith

small-policy : (j : ℕ) → j < namespace_count → IsSmall (sample_net_policy j)
small-policy j within =
    let own = digits-few j (omega arith) in
    let next = digits-few (next_of j) (omega arith) in
    let port = digits-few 443 (omega arith) in
    let block = length-append (decimal j) (codes ".0.0/16") in
    omega arith

small-admin : IsSmall sample_admin_policy
small-admin = let priority = digits-few 10 (omega arith) in omega arith

-- ---- the whole

many_small : (values : List Data) → AllByRecursion IsSmall values → most_bytes_of_items (items_of values) ≤ 5001 * length values + 1
many_small [] all = omega arith
many_small (value ∷ values) all = let here = all.0 in omega (arith, here, many_small values all.1)

pub length-sample_text : (n : ℕ) → n ≤ 1000 → length (sample_text n) ≤ 32 * 2 ^ 20
unfolding sample_text
length-sample_text n few =
    let values = sample_objects n in
    let each = all-objects IsSmall n small-namespace (λ i within. small-pod i (omega arith)) small-policy small-admin in
    let text = length-compact_text (sample_value n) in
    let all = many_small values each in
    omega (arith, few, text, all, length-objects n)
