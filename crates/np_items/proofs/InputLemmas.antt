-- Inputs, and what the code gives of them. For `items_of`, `value_of` and crates above.
use Rattle.std.proofs.Common.{◌≡◌, ℕ, List, [], ◌∷◌, Some, None, refl, ap}
use Rattle.std.proofs.lemmas.Bool.{cond_both}
use Rattle.std.proofs.lemmas.Str.{IsUtf8-from_is_utf8, is_utf8-from_IsUtf8}
use Rattle.std.specs.Str.{IsUtf8, is_utf8}
use Rattle.serde_json.specs.Data.{Data}
use Rattle.serde_json.specs.Read.{read}
use Rattle.serde_json.specs.View.{items_of}
use Rattle.np_items.specs.Prelude.{json_of, values}

pub json_of-read : (text : List ℕ) (value : Data) → IsUtf8 text → read text ≡ Some value → json_of text ≡ Some value
unfolding json_of
json_of-read text value utf8 reads = rw (is_utf8-from_IsUtf8 text utf8) reads

pub json_of-none : (text : List ℕ) → (IsUtf8 text → read text ≡ None) → json_of text ≡ None
unfolding json_of
json_of-none text none = cond_both (is_utf8 text) (read text) None (λ found. found ≡ None) (λ yes. none (IsUtf8-from_is_utf8 text yes)) (λ no. refl)

-- the values of a list's items are its values
pub values-items_of : (listed : List Data) → values (items_of listed) ≡ listed
values-items_of [] = refl
values-items_of (first ∷ others) = ap (λ (more : List Data). first ∷ more) (values-items_of others)
