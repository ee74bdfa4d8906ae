-- A source in memory that is given more bytes: in place of those of a name that it holds, or under a new name. For `MemInputs::add`.
use Rattle.std.proofs.Common.{◌≡◌, ◌≢◌, ℕ, zero, suc, ◌+◌, ◌<◌, List, [], ◌∷◌, ◌++◌, Bool, true, false, cond, Option, Some, None, length, set, refl, sym, ap, ◌∙◌, arith, zero-add}
use Rattle.std.specs.List.{slice_get, slice_index}
use Rattle.std.specs.Option.{option_map_or}
use Rattle.std.specs.Str.{bytes_eq}
use Rattle.std.proofs.lemmas.List.{get_or_append_left, get_or_push}
use Rattle.std.proofs.lemmas.Slice.Eq.{bytes_eq-Decides}
use Rattle.np_base.proofs.Lists.{slice_get-push_other, slice_get-push_same}
use Rattle.np_io.specs.declared.held.Held.{Held}
use Rattle.np_io.specs.Prelude.{bytes_at, is_named, place_of}
use Rattle.np_io.proofs.Places.{position_from-push_found, position_from-push_none, position_from-set, held_at}

slice_get-set_same : {X : Type 0} (xs : List X) (k : ℕ) (x y : X) → slice_get xs k ≡ Some x → slice_get (set xs k y) k ≡ Some y
slice_get-set_same [] k x y at_k = cc
slice_get-set_same (z ∷ zs) zero x y at_k = refl
slice_get-set_same (z ∷ zs) (suc k) x y at_k = slice_get-set_same zs k x y at_k

slice_get-set_other : {X : Type 0} (xs : List X) (k q : ℕ) (y : X) → q ≢ k → slice_get (set xs k y) q ≡ slice_get xs q
slice_get-set_other [] k q y elsewhere = refl
slice_get-set_other (z ∷ zs) zero zero y elsewhere = absurd (elsewhere refl)
slice_get-set_other (z ∷ zs) zero (suc q) y elsewhere = refl
slice_get-set_other (z ∷ zs) (suc k) zero y elsewhere = refl
slice_get-set_other (z ∷ zs) (suc k) (suc q) y elsewhere = slice_get-set_other zs k q y (λ here. elsewhere (ap suc here))

-- a name keeps its place where other bytes are put in place of those of a name
same_places : (held : List Held) (place : ℕ) (old new : Held) (other : List ℕ) → slice_get held place ≡ Some old → new.name ≡ old.name → place_of (set held place new) other ≡ place_of held other
same_places held place old new other at_place alike =
    position_from-set (is_named other) 0 held place old new at_place (ap (λ name. bytes_eq name other) alike)

-- the name then has the new bytes
pub replaced_here : (held : List Held) (name : List ℕ) (place : ℕ) (old new : Held) → place_of held name ≡ Some place → slice_get held place ≡ Some old → new.name ≡ old.name →
    option_map_or (bytes_at (set held place new)) (place_of (set held place new) name) [] ≡ new.bytes
replaced_here held name place old new found at_place alike =
    rw (same_places held place old new name at_place alike, found, slice_get-set_same held place old new at_place) refl

-- bytes at a place other than that of the name stay
other_bytes : (held : List Held) (name other : List ℕ) (place : ℕ) (new : Held) → place_of held name ≡ Some place → other ≢ name → (found : Option ℕ) → place_of held other ≡ found →
    option_map_or (bytes_at (set held place new)) found [] ≡ option_map_or (bytes_at held) found []
other_bytes held name other place new named unlike None found = refl
other_bytes held name other place new named unlike (Some q) found =
    let there = held_at held name place named in
    let here = held_at held other q found in
    let elsewhere : q ≢ place = λ same. unlike (let both : Some here.0 ≡ Some there.0 = sym here.1 ∙ ap (slice_get held) same ∙ there.1 in cc) in
    ap (λ o. option_map_or (λ h. h.bytes) o []) (slice_get-set_other held place q new elsewhere)

-- every other name keeps its bytes
pub replaced_others : (held : List Held) (name : List ℕ) (place : ℕ) (old new : Held) → place_of held name ≡ Some place → slice_get held place ≡ Some old → new.name ≡ old.name → (other : List ℕ) →
    other ≢ name → option_map_or (bytes_at (set held place new)) (place_of (set held place new) other) [] ≡ option_map_or (bytes_at held) (place_of held other) []
replaced_others held name place old new named at_place alike other unlike =
    ap (λ o. option_map_or (bytes_at (set held place new)) o []) (same_places held place old new other at_place alike) ∙ other_bytes held name other place new named unlike (place_of held other) refl

-- every name keeps its count of faults
pub replaced_faults : (held : List Held) (place : ℕ) (old new : Held) (faults : List ℕ) (shared : ℕ) → slice_get held place ≡ Some old → new.name ≡ old.name → (other : List ℕ) →
    option_map_or (slice_index faults) (place_of (set held place new) other) shared ≡ option_map_or (slice_index faults) (place_of held other) shared
replaced_faults held place old new faults shared at_place alike other =
    ap (λ o. option_map_or (slice_index faults) o shared) (same_places held place old new other at_place alike)

-- a name that is not held comes last
new_place : (held : List Held) (h : Held) → place_of held h.name ≡ None → place_of (held ++ h ∷ []) h.name ≡ Some (length held)
new_place held h none =
    position_from-push_none (is_named h.name) 0 held h none ∙ rw ((bytes_eq-Decides h.name h.name).1 refl, zero-add) refl

-- a new name has its bytes
pub pushed_here : (held : List Held) (h : Held) → place_of held h.name ≡ None → option_map_or (bytes_at (held ++ h ∷ [])) (place_of (held ++ h ∷ []) h.name) [] ≡ h.bytes
pushed_here held h none = rw (new_place held h none, slice_get-push_same held h) refl

-- a test that holds only of equal lists fails at unequal ones
unlike_names : (h : Held) (other : List ℕ) → other ≢ h.name → is_named other h ≡ false
unlike_names h other unlike = false_or (bytes_eq h.name other) (bytes_eq-Decides h.name other).0
  where
    false_or : (b : Bool) → (b ≡ true → h.name ≡ other) → b ≡ false
    false_or true equal = absurd (unlike (sym (equal refl)))
    false_or false equal = refl

-- every other name keeps its bytes
pub pushed_others : (held : List Held) (h : Held) (other : List ℕ) (found : Option ℕ) → place_of held other ≡ found → other ≢ h.name →
    option_map_or (bytes_at (held ++ h ∷ [])) (place_of (held ++ h ∷ []) other) [] ≡ option_map_or (bytes_at held) (place_of held other) []
pushed_others held h other None none unlike =
    rw (none, position_from-push_none (is_named other) 0 held h none, unlike_names h other unlike) refl
pushed_others held h other (Some q) found unlike =
    let within = (held_at held other q found).3 in
    rw (found, position_from-push_found (is_named other) 0 held h q found, slice_get-push_other held h q within) refl

-- every name keeps its count of faults, where that of a new one starts at the shared one
pub pushed_faults : (held : List Held) (h : Held) (faults : List ℕ) (shared : ℕ) → length faults ≡ length held → (other : List ℕ) (found : Option ℕ) → place_of held other ≡ found →
    option_map_or (slice_index (faults ++ shared ∷ [])) (place_of (held ++ h ∷ []) other) shared ≡ option_map_or (slice_index faults) (place_of held other) shared
pushed_faults held h faults shared counted other None none =
    rw (none, position_from-push_none (is_named other) 0 held h none) (last_or_shared (is_named other h))
  where
    last_or_shared : (b : Bool) → option_map_or (slice_index (faults ++ shared ∷ [])) (cond b (Some (0 + length held)) None) shared ≡ shared
    last_or_shared true = rw zero-add (get_or_push faults shared 0 (length held) counted)
    last_or_shared false = refl
pushed_faults held h faults shared counted other (Some q) found =
    let within : q < length faults = omega (arith, (held_at held other q found).3) in
    rw (found, position_from-push_found (is_named other) 0 held h q found) (get_or_append_left faults (shared ∷ []) 0 q within)
