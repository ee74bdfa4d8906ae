-- What lists of ranges hold. For `complement_ranges`, `join_ranges` and `point_ranges`.
use Rattle.std.proofs.Common.{◌≡◌, ℕ, List, [], ◌∷◌, ◌++◌, Bool, ◌||◌}
use Rattle.std.proofs.Math.Bool.{or-false}
use Rattle.np_base.specs.Ranges.{is_within, holds}
use Rattle.np_base.specs.declared.range.Range.{Range}
use Rattle.np_base.proofs.Bools.{or-leftwards}

-- a range more at the end holds its own numbers more
pub holds-push : {P : Type 0} (number_of : P → ℕ) (ranges : List (Range P)) (range : Range P) (n : ℕ) →
    holds number_of (ranges ++ range ∷ []) n ≡ (holds number_of ranges n || is_within number_of range n)
holds-push number_of [] range n = or-false (is_within number_of range n)
holds-push number_of (first ∷ ranges) range n = rw (holds-push number_of ranges range n) (or-leftwards (is_within number_of first n) (holds number_of ranges n) (is_within number_of range n))

-- what is taken from the rest and added to what is made changes nothing of the whole
pub or_moved : (made made' part rest rest' whole : Bool) → made' ≡ (made || part) → rest ≡ (part || rest') → (made || rest) ≡ whole → (made' || rest') ≡ whole
or_moved made made' part rest rest' whole adds parts is_whole = rw (adds, ← or-leftwards made part rest', ← parts) is_whole

-- where the rest is what is added, the whole is made
pub or_ended : (made made' part rest whole : Bool) → made' ≡ (made || part) → rest ≡ part → (made || rest) ≡ whole → made' ≡ whole
or_ended made made' part rest whole adds is_part is_whole = rw (adds, ← is_part) is_whole
