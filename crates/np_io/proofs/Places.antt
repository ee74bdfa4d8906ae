-- Where a name stands among those that a source in memory holds, before and after a change. For `MemInputsInputs::begin`.
use Rattle.std.proofs.Common.{◌≡◌, ℕ, zero, suc, ◌+◌, ◌<◌, List, [], ◌∷◌, ◌++◌, Bool, true, false, cond, Option, Some, None, length, get_or, set, refl, ap, ◌∙◌, arith, add-zero}
use Rattle.std.specs.List.{position_from, slice_get}
use Rattle.std.proofs.lemmas.Iterator.Adapters.{position_from-zero}
use Rattle.std.proofs.lemmas.List.Quantifiers.{position-Some}
use Rattle.std.proofs.lemmas.Option.{slice_get-get_or}
use Rattle.std.proofs.lemmas.Slice.Eq.{bytes_eq-Decides}
use Rattle.np_io.specs.declared.held.Held.{Held}
use Rattle.np_io.specs.Prelude.{is_named, name_at, place_of}

-- a search that goes on from its first element as another one does
goes_on : {A : Type 0} (b : Bool) (here found behind behind' : Option A) → cond b here behind ≡ found → (behind ≡ found → behind' ≡ found) → cond b here behind' ≡ found
goes_on true here found behind behind' ends next = ends
goes_on false here found behind behind' ends next = next ends

-- a search that ends at a place still ends there with one more element behind
pub position_from-push_found : {X : Type 0} (t : X → Bool) (i : ℕ) (xs : List X) (x : X) (place : ℕ) → position_from t i xs ≡ Some place → position_from t i (xs ++ x ∷ []) ≡ Some place
position_from-push_found t i [] x place found = cc
position_from-push_found t i (y ∷ ys) x place found =
    goes_on (t y) _ _ _ _ found (λ behind. position_from-push_found t (i + 1) ys x place behind)

-- nothing is found before the first element, where it is not found there or behind it
none_behind : {A : Type 0} (b : Bool) (here : A) (behind behind' new : Option A) → cond b (Some here) behind ≡ None → (behind ≡ None → behind' ≡ new) → cond b (Some here) behind' ≡ new
none_behind true here behind behind' new none next = cc
none_behind false here behind behind' new none next = next none

-- a search that finds nothing ends at one more element behind, if it passes
pub position_from-push_none : {X : Type 0} (t : X → Bool) (i : ℕ) (xs : List X) (x : X) → position_from t i xs ≡ None → position_from t i (xs ++ x ∷ []) ≡ cond (t x) (Some (i + length xs)) None
position_from-push_none t i [] x none = rw add-zero refl
position_from-push_none t i (y ∷ ys) x none =
    let same : i + 1 + length ys ≡ i + length (y ∷ ys) = omega arith in
    none_behind (t y) _ _ _ _ none (λ behind. position_from-push_none t (i + 1) ys x behind ∙ ap (λ n. cond (t x) (Some n) None) same)

-- a search goes as before where one element gives way to another that is tested alike
pub position_from-set : {X : Type 0} (t : X → Bool) (i : ℕ) (xs : List X) (k : ℕ) (x y : X) → slice_get xs k ≡ Some x → t y ≡ t x → position_from t i (set xs k y) ≡ position_from t i xs
position_from-set t i [] k x y at_k alike = cc
position_from-set t i (z ∷ zs) zero x y at_k alike =
    let same : t y ≡ t z = cc in
    ap (λ b. cond b (Some i) (position_from t (i + 1) zs)) same
position_from-set t i (z ∷ zs) (suc k) x y at_k alike =
    ap (λ behind. cond (t z) (Some i) behind) (position_from-set t (i + 1) zs k x y at_k alike)

-- what stands at the place of a name is held under it
pub held_at : (held : List Held) (name : List ℕ) (place : ℕ) → place_of held name ≡ Some place → (h : Held) × (slice_get held place ≡ Some h) × (h.name ≡ name) × (place < length held)
held_at held name place found =
    let nothing : Held = record { name = []; bytes = [] } in
    let some = position-Some (is_named name) held place nothing (position_from-zero (is_named name) held ∙ found) in
    let h = get_or held place nothing in
    (h, slice_get-get_or held place nothing some.0, (bytes_eq-Decides h.name name).0 some.1, some.0)

-- the name at its place
pub name_at-place_of : (held : List Held) (name : List ℕ) (place : ℕ) → place_of held name ≡ Some place → name_at held place ≡ name
name_at-place_of held name place found =
    let at_place = held_at held name place found in
    rw at_place.1 at_place.2
