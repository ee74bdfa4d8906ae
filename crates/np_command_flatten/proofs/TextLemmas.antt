-- The texts of policies are UTF-8: words are ASCII, and so are blocks of addresses. For PrintedLemmas.
use Rattle.std.proofs.Common.{◌≡◌, ℕ, zero, suc, ◌+◌, ◌/◌, ◌%◌, ◌^◌, ◌<◌, ◌≤◌, List, [], ◌∷◌, ◌++◌, true, false, not, ◌&&◌, ◌==◌, nat_lt, flat_map, length, take, drop, IsUtf8, codes, decimal, refl, arith, lit≤}
use Rattle.std.proofs.lemmas.Bool.{and_parts, cond_both, lt-ltb}
use Rattle.std.proofs.lemmas.Bool.Decides.{nat_tests}
use Rattle.std.proofs.lemmas.Fmt.{IsAscii-decimal, digits_is_IsNumeral}
use Rattle.std.proofs.lemmas.Str.{IsUtf8-append, IsUtf8-from_ascii}
use Rattle.std.specs.Char.{digit_value}
use Rattle.std.specs.List.{AllByRecursion}
use Rattle.std.specs.Net.Text.{longest_zero_run}
use Rattle.std.specs.Str.Parse.{AllDigits}
use Rattle.json.proofs.Printed.Utf8.{are_ascii, IsUtf8-are_ascii}
use Rattle.np_addr.specs.AddressText.{groups_of}
use Rattle.np_addr.specs.Prelude.{address_text, base_of, bits_of, cidr_text, group_text, groups_text, low_groups, shortened_text}
use Rattle.np_command_flatten.specs.Prelude.{Address, Cidr}
use Rattle.np_addr.specs.declared.address.Address.TheVariants.{Four, Six}
use Rattle.np_model.specs.Prelude.{has_slash, is_name, is_word, is_word_byte}

-- ---- words

word_byte-ascii : (byte : ℕ) → is_word_byte byte ≡ true → byte < 128
word_byte-ascii byte is = grind (arith, nat_tests)

word-ascii : (text : List ℕ) → is_word text ≡ true → are_ascii text ≡ true
word-ascii [] is = refl
word-ascii (byte ∷ text) is =
    let parts = and_parts (is_word_byte byte) (is_word text) is in
    rw (lt-ltb byte 128 (word_byte-ascii byte parts.0), word-ascii text parts.1) refl

pub word-utf8 : (text : List ℕ) → is_word text ≡ true → IsUtf8 text
word-utf8 text is = IsUtf8-are_ascii text (word-ascii text is)

pub name-utf8 : (text : List ℕ) → is_name text ≡ true → IsUtf8 text
name-utf8 text is =
    let some = and_parts (not (length text == 0) && is_word text) (not (has_slash text)) is in
    word-utf8 text (and_parts (not (length text == 0)) (is_word text) some.0).1

-- ---- addresses

decimal-utf8 : (n : ℕ) → n < 2 ^ 64 → IsUtf8 (decimal n)
decimal-utf8 n small = IsUtf8-from_ascii (decimal n) (IsAscii-decimal n small)

digit-ascii : (digit : ℕ) → digit_value digit < 16 → digit < 128
digit-ascii digit is = grind arith

digits-ascii : (digits : List ℕ) → AllDigits 16 digits → are_ascii digits ≡ true
digits-ascii [] all = refl
digits-ascii (digit ∷ digits) all = rw (lt-ltb digit 128 (digit-ascii digit all.0), digits-ascii digits all.1) refl

abbrev IsGroup : ℕ → Type 0
IsGroup group = group < 65536

group-utf8 : (group : ℕ) → IsGroup group → IsUtf8 (group_text group)
group-utf8 group small = IsUtf8-are_ascii (group_text group) (digits-ascii (group_text group) (digits_is_IsNumeral 16 false (lit≤ tt) (lit≤ tt) group (omega arith)).0.1)

behind-utf8 : (separator : List ℕ) → IsUtf8 separator → (groups : List ℕ) → AllByRecursion IsGroup groups → IsUtf8 (flat_map (λ group. separator ++ group_text group) groups)
behind-utf8 separator is [] all = IsUtf8-are_ascii [] refl
behind-utf8 separator is (group ∷ groups) all =
    IsUtf8-append (separator ++ group_text group) _ (IsUtf8-append separator (group_text group) is (group-utf8 group all.0)) (behind-utf8 separator is groups all.1)

groups-utf8 : (groups : List ℕ) → AllByRecursion IsGroup groups → IsUtf8 (groups_text groups)
groups-utf8 [] all = IsUtf8-are_ascii [] refl
groups-utf8 (group ∷ groups) all = IsUtf8-append (group_text group) _ (group-utf8 group all.0) (behind-utf8 (codes ":") (IsUtf8-are_ascii (codes ":") refl) groups all.1)

low-small : (count n : ℕ) → AllByRecursion IsGroup (low_groups count n)
low-small zero n = tt
low-small (suc below) n = (omega arith, low-small below n)

take-small : (count : ℕ) (groups : List ℕ) → AllByRecursion IsGroup groups → AllByRecursion IsGroup (take count groups)
take-small zero groups all = tt
take-small (suc count) [] all = tt
take-small (suc count) (group ∷ groups) all = (all.0, take-small count groups all.1)

drop-small : (count : ℕ) (groups : List ℕ) → AllByRecursion IsGroup groups → AllByRecursion IsGroup (drop count groups)
drop-small zero groups all = all
drop-small (suc count) [] all = tt
drop-small (suc count) (group ∷ groups) all = drop-small count groups all.1

shortened-utf8 : (groups : List ℕ) → AllByRecursion IsGroup groups → IsUtf8 (shortened_text groups)
unfolding shortened_text
shortened-utf8 groups all =
    let run = longest_zero_run groups in
    let front = groups-utf8 (take run.0 groups) (take-small run.0 groups all) in
    let back = groups-utf8 (drop (run.0 + run.1) groups) (drop-small (run.0 + run.1) groups all) in
    let cut = IsUtf8-append (groups_text (take run.0 groups) ++ codes "::") _ (IsUtf8-append _ (codes "::") front (IsUtf8-are_ascii (codes "::") refl)) back in
    cond_both (nat_lt 1 run.1) _ (groups_text groups) IsUtf8 (λ yes. cut) (λ no. groups-utf8 groups all)

dotted-utf8 : (part : ℕ) (rest : List ℕ) → part < 256 → IsUtf8 rest → IsUtf8 (46 ∷ (decimal part ++ rest))
dotted-utf8 part rest small utf8 = IsUtf8-append (codes ".") (decimal part ++ rest) (IsUtf8-are_ascii (codes ".") refl) (IsUtf8-append (decimal part) rest (decimal-utf8 part (omega arith)) utf8)

address-utf8 : (address : Address) → IsUtf8 (address_text address)
address-utf8 (Four n) =
    let fourth = dotted-utf8 (n % 256) [] (omega arith) (IsUtf8-are_ascii [] refl) in
    let third = dotted-utf8 (n / 256 % 256) _ (omega arith) fourth in
    IsUtf8-append (decimal (n / 16777216 % 256)) _ (decimal-utf8 (n / 16777216 % 256) (omega arith)) (dotted-utf8 (n / 65536 % 256) _ (omega arith) third)
address-utf8 (Six n) = shortened-utf8 (groups_of n) (low-small 8 n)

pub block-utf8 : (block : Cidr) → bits_of block ≤ 128 → IsUtf8 (cidr_text block)
block-utf8 block within =
    IsUtf8-append (address_text (base_of block) ++ codes "/") (decimal (bits_of block))
    (IsUtf8-append (address_text (base_of block)) (codes "/") (address-utf8 (base_of block)) (IsUtf8-are_ascii (codes "/") refl)) (decimal-utf8 (bits_of block) (omega arith))
