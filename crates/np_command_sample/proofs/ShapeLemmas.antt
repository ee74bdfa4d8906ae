-- What shapes read of texts and numbers that are as they ask. For ItemLemmas.
use Rattle.std.proofs.Common.{◌≡◌, ◌≢◌, ℕ, suc, List, [], ◌∷◌, length, true, Ok, refl, arith, ne_eqb}
use Rattle.serde_json.specs.Data.{object, string, member, no_members}
use Rattle.np_json.specs.Prelude.{labels, namespace, refuse_if}
use Rattle.np_model.specs.Prelude.{is_label, is_name}

pub namespace-of : (c : ℕ) (s : List ℕ) → is_name (c ∷ s) ≡ true → namespace (string (c ∷ s)) ≡ Ok (c ∷ s)
unfolding namespace refuse_if
namespace-of c s is =
    let some : suc (length s) ≢ 0 = λ none. omega arith in
    rw (ne_eqb (suc (length s)) 0 some, is) refl

-- one label
pub labels-of : (key value : List ℕ) → is_label (key, value) ≡ true → labels (object (member key (string value) no_members)) ≡ Ok ((key, value) ∷ [])
unfolding labels refuse_if
labels-of key value is = rw is refl
