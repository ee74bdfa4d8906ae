-- Words and names.
use Rattle.std.specs.Prelude.{ℕ, List, Bool, not, ◌&&◌, ◌||◌, ◌==◌, nat_le, length, codes}
use Rattle.std.specs.List.{list_all, list_any}
use Rattle.np_model.specs.declared.direction.Direction.{Direction}
use Rattle.np_model.specs.declared.direction.Direction.TheVariants.{Ingress, Egress}

-- an ASCII letter or digit
abbrev pub is_letter_or_digit : ℕ → Bool
is_letter_or_digit byte = nat_le 65 byte && nat_le byte 90 || nat_le 97 byte && nat_le byte 122 || nat_le 48 byte && nat_le byte 57

-- `-`, `_`, `.`, `/` or `:`
abbrev pub is_mark : ℕ → Bool
is_mark byte = byte == 45 || byte == 95 || byte == 46 || byte == 47 || byte == 58

abbrev pub is_word_byte : ℕ → Bool
is_word_byte byte = is_letter_or_digit byte || is_mark byte

-- letters, digits and marks alone
abbrev pub is_word : List ℕ → Bool
is_word text = list_all is_word_byte text

abbrev pub has_slash : List ℕ → Bool
has_slash text = list_any (λ byte. byte == 47) text

-- a word that is not empty and has no `/`
abbrev pub is_name : List ℕ → Bool
is_name text = not (length text == 0) && is_word text && not (has_slash text)

-- whether a pair may be a label: a key that is a word and not empty, and a value that is a word
abbrev pub is_label : List ℕ × List ℕ → Bool
is_label pair = not (length pair.0 == 0) && is_word pair.0 && is_word pair.1

-- a word that is not empty: what the key of a label may be, or the name of a policy
abbrev pub is_whole_word : List ℕ → Bool
is_whole_word s = not (length s == 0) && is_word s

-- the word for a direction, which names the member of a policy that lists its rules too
abbrev pub direction_text : Direction → List ℕ
direction_text Ingress = codes "ingress"
direction_text Egress = codes "egress"
