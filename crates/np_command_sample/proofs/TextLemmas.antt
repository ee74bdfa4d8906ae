-- The text of the sample is read as its value. For ReadingLemmas.
use Rattle.std.proofs.Common.{◌≡◌, ℕ, suc, ◌%◌, ◌^◌, ◌<◌, ◌≤◌, List, [], ◌∷◌, ◌++◌, true, nat_lt, codes, Some, decimal, refl, arith, lt-ltb}
use Rattle.std.proofs.lemmas.Fmt.{IsAscii-decimal}
use Rattle.std.proofs.lemmas.Bool.{and_parts}
use Rattle.std.specs.Str.{IsAscii}
use Rattle.json.specs.Tree as tree
use Rattle.json.proofs.Printed.Utf8.{are_ascii}
use Rattle.serde_json.specs.Data.{Data}
use Rattle.serde_json.specs.Read.{of_json}
use Rattle.serde_json.specs.Written.{compact_text, outline}
use Rattle.serde_json.proofs.Numbers.{number_of-decimal}
use Rattle.np_items.specs.Prelude.{json_of}
use Rattle.np_items.proofs.InputLemmas.{json_of-read}
use Rattle.np_sample.specs.Prelude.{namespace_count, next_of, sample_admin_policy, sample_namespace, sample_net_policy, sample_objects, sample_pod, sample_port, sample_text, sample_value}
use Rattle.np_sample.proofs.ObjectLemmas.{all-objects}
use Rattle.np_command_sample.proofs.PlainLemmas.{all_given, all_plain_items, all_shallow, is_plain, IsGiven, IsPlain, IsUtf8-compact_text, read-compact_text}

-- ---- plain

are_ascii-from_IsAscii : (s : List ℕ) → IsAscii s → are_ascii s ≡ true
are_ascii-from_IsAscii [] ascii = refl
are_ascii-from_IsAscii (x ∷ s) ascii = rw (lt-ltb x 128 (ascii 0), are_ascii-from_IsAscii s (λ i. ascii (suc i))) refl

are_ascii-append : (s t : List ℕ) → are_ascii s ≡ true → are_ascii t ≡ true → are_ascii (s ++ t) ≡ true
are_ascii-append [] t front rest = rest
are_ascii-append (x ∷ s) t front rest =
    let parts = and_parts (nat_lt x 128) (are_ascii s) front in
    rw (parts.0, are_ascii-append s t parts.1 rest) refl

ascii_digits : (n : ℕ) → n < 2 ^ 64 → are_ascii (decimal n) ≡ true
ascii_digits n small = are_ascii-from_IsAscii (decimal n) (IsAscii-decimal n small)

plain_namespace : (j : ℕ) → j < namespace_count → IsPlain (sample_namespace j)
plain_namespace j within = rw (ascii_digits j (omega arith)) refl

plain_pod : (i : ℕ) → i < 2 ^ 64 → IsPlain (sample_pod i)
plain_pod i small = rw (ascii_digits (i % 7) (omega arith), ascii_digits i small, ascii_digits (i % 5) (omega arith), lt-ltb (sample_port i) (2 ^ 64) (omega arith)) refl

plain_policy : (j : ℕ) → j < namespace_count → IsPlain (sample_net_policy j)
plain_policy j within =
    let digits = ascii_digits j (omega arith) in
    rw (digits, ascii_digits (next_of j) (omega arith), are_ascii-append (decimal j) (codes ".0.0/16") digits refl) refl

-- ---- numbers

given_pod : (i : ℕ) → IsGiven (sample_pod i)
given_pod i = rw (number_of-decimal (sample_port i) (omega arith)) refl

given_policy : (j : ℕ) → IsGiven (sample_net_policy j)
given_policy j = rw (number_of-decimal 443 (omega arith)) refl

given_admin : IsGiven sample_admin_policy
given_admin = rw (number_of-decimal 10 (omega arith)) refl

-- ---- the whole

abbrev IsShallow : Data → Type 0
IsShallow value = tree.depth (outline value) ≤ 20

pub json_of-sample_text : (n : ℕ) → n ≤ 1000 → json_of (sample_text n) ≡ Some (sample_value n)
unfolding sample_text
json_of-sample_text n few =
    let values = sample_objects n in
    let plains = all-objects IsPlain n plain_namespace (λ i within. plain_pod i (omega arith)) plain_policy refl in
    let givens = all-objects IsGiven n (λ j within. refl) (λ i within. given_pod i) (λ j within. given_policy j) given_admin in
    let shallows = all-objects IsShallow n (λ j within. omega arith) (λ i within. omega arith) (λ j within. omega arith) (omega arith) in
    let plain : is_plain (sample_value n) ≡ true = rw (all_plain_items values plains) refl in
    let given : of_json (outline (sample_value n)) ≡ Some (sample_value n) = rw (all_given values givens) refl in
    let shallow = all_shallow 20 values shallows in
    json_of-read (compact_text (sample_value n)) (sample_value n) (IsUtf8-compact_text (sample_value n) plain) (read-compact_text (sample_value n) plain (omega arith) given)
