-- A line feed behind a JSON value changes none of its tokens. For ListLemmas.
use Rattle.std.proofs.Common.{◌≡◌, ℕ, List, [], ◌∷◌, ◌++◌, Bool, true, false, codes, refl, sym, ap, ap₂, ◌∙◌, append_assoc, append-nil}
use Rattle.json.specs.Lex.{between, comma, colon, lex, punctuate, fresh, string_token, token, tokens}
use Rattle.json.specs.Print.{escape, quoted}
use Rattle.json.specs.Token.{begin_array, begin_object, end_array, end_object}
use Rattle.json.specs.Token as tokens
use Rattle.json.specs.Tree.{HasNumbers, ItemsHaveNumbers, MembersHaveNumbers}
use Rattle.json.specs.Word.{ends_word, word}
use Rattle.json.proofs.Printed.Numbers.{in_word-ended, lex-number}
use Rattle.json.proofs.Printed.Strings.{content-escape, lex-escape}
use Rattle.serde_json.specs.Data.{Data, array, boolean, item, Items, member, Members, no_items, no_members, null, number, object, string}
use Rattle.serde_json.specs.Written.{comma_if, compact_text, items_outline, items_text, members_outline, members_text, number_text, outline}

-- two texts that may stand behind a value, and have the same lexemes
record AreAlike (text other : List ℕ) : Type 0 where
  ends : ends_word text ≡ true
  other_ends : ends_word other ≡ true
  same : lex between text ≡ lex between other

lex-quoted : (s rest : List ℕ) → lex between (quoted s ++ rest) ≡ token (tokens.string s) ∷ lex between rest
unfolding lex
lex-quoted s rest =
    ap (λ l. lex between (34 ∷ l)) (append_assoc (escape s) (34 ∷ []) rest) ∙ ap₂ (λ o l. token (string_token o) ∷ l) (content-escape s rest) (lex-escape s rest)

comma-alike : (later : Bool) (text other : List ℕ) → lex between text ≡ lex between other → lex between (comma_if later ++ text) ≡ lex between (comma_if later ++ other)
unfolding lex
comma-alike true text other same = ap (λ l. comma ∷ l) same
comma-alike false text other same = same

items-end : (items : Items) (rest : List ℕ) → ends_word (items_text true items ++ rest) ≡ true
items-end no_items rest = refl
items-end (item value items) rest = refl

members-end : (members : Members) (rest : List ℕ) → ends_word (members_text true members ++ rest) ≡ true
members-end no_members rest = refl
members-end (member name value others) rest = refl

mutual
  unfolding lex word

  value-alike : (value : Data) → HasNumbers (outline value) → (text other : List ℕ) → AreAlike text other → lex between (compact_text value ++ text) ≡ lex between (compact_text value ++ other)
  value-alike null numbers text other alike = rw (alike.ends, alike.other_ends, in_word-ended text alike.ends, in_word-ended other alike.other_ends, alike.same) refl
  value-alike (boolean true) numbers text other alike = rw (alike.ends, alike.other_ends, in_word-ended text alike.ends, in_word-ended other alike.other_ends, alike.same) refl
  value-alike (boolean false) numbers text other alike = rw (alike.ends, alike.other_ends, in_word-ended text alike.ends, in_word-ended other alike.other_ends, alike.same) refl
  value-alike (number n) numbers text other alike =
      lex-number (number_text n) text numbers alike.ends ∙ ap (λ l. token (tokens.number (number_text n)) ∷ l) alike.same ∙ sym (lex-number (number_text n) other numbers alike.other_ends)
  value-alike (string s) numbers text other alike = lex-quoted s text ∙ ap (λ l. token (tokens.string s) ∷ l) alike.same ∙ sym (lex-quoted s other)
  value-alike (array items) numbers text other alike = ap (λ l. token begin_array ∷ l) (items-alike false items numbers text other alike)
  value-alike (object members) numbers text other alike = ap (λ l. token begin_object ∷ l) (members-alike false members numbers text other alike)

  items-alike : (later : Bool) (items : Items) → ItemsHaveNumbers (items_outline items) → (text other : List ℕ) → AreAlike text other →
      lex between (items_text later items ++ text) ≡ lex between (items_text later items ++ other)
  items-alike later no_items numbers text other alike = ap (λ l. token end_array ∷ l) alike.same
  items-alike later (item value items) numbers text other alike =
      let rest = items_text true items in
      let behind : AreAlike (rest ++ text) (rest ++ other) = record { ends = items-end items text; other_ends = items-end items other; same = items-alike true items numbers.1 text other alike } in
      let both = ap (lex between) (append_assoc (compact_text value) rest text) ∙ value-alike value numbers.0 (rest ++ text) (rest ++ other) behind ∙ ap (lex between)
      (sym (append_assoc (compact_text value) rest other)) in
      ap (lex between) (append_assoc (comma_if later) (compact_text value ++ rest) text)
      ∙ comma-alike later ((compact_text value ++ rest) ++ text) ((compact_text value ++ rest) ++ other) both
      ∙ ap (lex between) (sym (append_assoc (comma_if later) (compact_text value ++ rest) other))

  members-alike : (later : Bool) (members : Members) → MembersHaveNumbers (members_outline members) → (text other : List ℕ) → AreAlike text other →
      lex between (members_text later members ++ text) ≡ lex between (members_text later members ++ other)
  members-alike later no_members numbers text other alike = ap (λ l. token end_object ∷ l) alike.same
  members-alike later (member name value members) numbers text other alike =
      let rest = members_text true members in
      let behind : AreAlike (rest ++ text) (rest ++ other) = record
      { ends = members-end members text; other_ends = members-end members other; same = members-alike true members numbers.1 text other alike } in
      let both = ap (lex between) (append_assoc (compact_text value) rest text) ∙ value-alike value numbers.0 (rest ++ text) (rest ++ other) behind ∙ ap (lex between)
      (sym (append_assoc (compact_text value) rest other)) in
      let named : lex between ((quoted name ++ 58 ∷ (compact_text value ++ rest)) ++ text) ≡ lex between ((quoted name ++ 58 ∷ (compact_text value ++ rest)) ++ other) =
      ap (lex between) (append_assoc (quoted name) (58 ∷ (compact_text value ++ rest)) text)
      ∙ lex-quoted name (58 ∷ ((compact_text value ++ rest) ++ text))
      ∙ ap (λ l. token (tokens.string name) ∷ colon ∷ l) both
      ∙ sym (lex-quoted name (58 ∷ ((compact_text value ++ rest) ++ other)))
      ∙ ap (lex between) (sym (append_assoc (quoted name) (58 ∷ (compact_text value ++ rest)) other)) in
      ap (lex between) (append_assoc (comma_if later) (quoted name ++ 58 ∷ (compact_text value ++ rest)) text)
      ∙ comma-alike later ((quoted name ++ 58 ∷ (compact_text value ++ rest)) ++ text) ((quoted name ++ 58 ∷ (compact_text value ++ rest)) ++ other) named
      ∙ ap (lex between) (sym (append_assoc (comma_if later) (quoted name ++ 58 ∷ (compact_text value ++ rest)) other))

pub tokens-line : (value : Data) → HasNumbers (outline value) → tokens (compact_text value ++ codes "\n") ≡ tokens (compact_text value)
unfolding lex
tokens-line value numbers =
    ap (punctuate fresh) (value-alike value numbers (codes "\n") [] (record { ends = refl; other_ends = refl; same = refl }) ∙ ap (lex between) (append-nil (compact_text value)))
