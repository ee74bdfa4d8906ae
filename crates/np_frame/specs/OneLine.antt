-- A text in one line.
use Rattle.std.specs.Prelude.{◌≡◌, ◌++◌, ℕ, List, [], ◌∷◌, Bool, true, chars, codes, encode_utf8_all, flat_map, if◌then◌else◌, not}
use Rattle.std.specs.Char.{is_control}
use Rattle.std.specs.Char.Escape.{escape_default}
use Rattle.std.specs.List.{list_all}

-- a character as it stands in one line: a control character as Rust writes it in a string, as `\n`, `\u{1b}` or `\u{85}`
abbrev pub in_one_line : ℕ → List ℕ
in_one_line c = if is_control c then escape_default c else c ∷ []

-- the text of these characters, each so
unfoldable pub one_line : List ℕ → List ℕ
one_line text = encode_utf8_all (flat_map in_one_line (chars text))

abbrev pub is_shown : ℕ → Bool
is_shown c = not (is_control c)

-- The text is one line with its line feed: no other character of it is a control character.
pub record IsOneLine (text : List ℕ) : Type 0 where
  pub shown : List ℕ
  pub all_shown : list_all is_shown shown ≡ true
  pub line : text ≡ encode_utf8_all shown ++ codes "\n"
