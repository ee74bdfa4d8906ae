-- What holds of each listed key. For crates above.
use Rattle.std.proofs.Common.{◌≡◌, ℕ, List, [], ◌∷◌, true, refl}
use Rattle.std.specs.Cmp.Lexicographic.{bytes_decides}
use Rattle.std.specs.List.{AllByRecursion}
use Rattle.std.specs.Str.{bytes_eq}
use Rattle.std.proofs.Math.Bool.{or-true}
use Rattle.np_labels.specs.Prelude.{is_listed}

-- what is so of each listed key is so of all keys of the list
pub All-from_listed : (P : List ℕ → Type 0) (keys : List (List ℕ)) → ((key : List ℕ) → is_listed keys key ≡ true → P key) → AllByRecursion P keys
All-from_listed P [] each = tt
All-from_listed P (first ∷ keys) each =
    (each first (rw ((bytes_decides first first).1 refl) refl), All-from_listed P keys (λ key here. each key (rw here (or-true (bytes_eq first key)))))
