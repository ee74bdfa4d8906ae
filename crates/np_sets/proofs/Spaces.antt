-- What a list of ranges has and another has not. For `subtract_ranges`.
use Rattle.std.proofs.Common.{◌≡◌, ℕ, List, Bool, true, false, not, ◌&&◌, refl}
use Rattle.std.proofs.lemmas.Bool.{false≢true}
use Rattle.np_base.specs.Ranges.{holds, IsAscending}
use Rattle.np_base.specs.declared.range.Range.{Range}
use Rattle.np_sets.specs.Space.{is_between}
use Rattle.np_sets.specs.Laws.{holds-between}

less : (a b space : Bool) → (a ≡ true → space ≡ true) → (a && (space && not b)) ≡ (a && not b)
less false b space within = refl
less true b true within = refl
less true b false within = absurd (false≢true (within refl))

-- what both a list and the complement of another have, the list has and the other has not
pub holds-less : {P : Type 0} (number_of : P → ℕ) (low high : ℕ) (left right others made : List (Range P)) (n : ℕ) → IsAscending number_of low high left →
    holds number_of others n ≡ (is_between low high n && not (holds number_of right n)) → holds number_of made n ≡ (holds number_of left n && holds number_of others n) →
    holds number_of made n ≡ (holds number_of left n && not (holds number_of right n))
holds-less number_of low high left right others made n ascends lacks shares =
    rw (shares, lacks) (less (holds number_of left n) (holds number_of right n) (is_between low high n) (holds-between number_of low high left n ascends))
