-- The places that marks name. For `carve_base` and `carve_net`.
use Rattle.std.proofs.Common.{◌≡◌, ◌≢◌, ℕ, ◌+◌, ◌<◌, Option, Some, None, ap, subst, ◌∙◌, arith}
use Rattle.np_tiers.specs.Prelude.{Admin, Base, Free, Isolated, Mark, Net}

-- the place of the part below the admin tier that decides, if one does
abbrev pub lower_place : Mark → Option ℕ
lower_place (Admin place) = None
lower_place (Net pass place) = Some place
lower_place (Isolated pass) = None
lower_place (Base pass place) = Some place
lower_place (Free pass) = None

-- there is a place, and it is below n
abbrev pub IsBelow : Option ℕ → ℕ → Type 0
IsBelow None n = ⊥
IsBelow (Some place) n = place < n

pub IsBelow-more : (place : Option ℕ) (n : ℕ) → IsBelow place n → IsBelow place (n + 1)
IsBelow-more None n below = below
IsBelow-more (Some place) n below = omega arith

-- the place itself is below the next
pub IsBelow-next : (place : Option ℕ) (n : ℕ) → place ≡ Some n → IsBelow place (n + 1)
IsBelow-next None n is = cc
IsBelow-next (Some place) n is = let same : place ≡ n = cc in omega arith

below_itself : (n : ℕ) → n < n → ⊥
below_itself n before = omega arith

-- a mark of an earlier place differs from one of this place
pub apart_at : (place_of : Mark → Option ℕ) (n : ℕ) (a b : Mark) → IsBelow (place_of a) n → place_of b ≡ Some n → a ≢ b
apart_at place_of n a b below here same = below_itself n (subst (λ (place : Option ℕ). IsBelow place n) (ap place_of same ∙ here) below)

-- a mark of some place differs from one of none
pub apart_at_end : (place_of : Mark → Option ℕ) (n : ℕ) (a b : Mark) → IsBelow (place_of a) n → place_of b ≡ None → a ≢ b
apart_at_end place_of n a b below none same = subst (λ (place : Option ℕ). IsBelow place n) (ap place_of same ∙ none) below
