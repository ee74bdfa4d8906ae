-- Lists of ranges of numbers that say which ports pass at each number of a space.
use Rattle.std.specs.Prelude.{ℕ, zero, suc, ◌≡◌, ◌≢◌, ◌≤◌, ◌+◌, ◌-◌, List, [], ◌∷◌, map, Bool, ◌&&◌, nat_le, Option, Some, None, if◌then◌else◌}
use Rattle.np_table.specs.Types.{Piece, PortSpot}
use Rattle.np_conns.specs.Prelude.{Conns, are_same_conns, conns_of}

-- ---- ranges

-- a range of numbers, ends included, and the connections that pass at each of them
pub record Stretch : Type 0 where
  pub lo : ℕ
  pub hi : ℕ
  pub conns : Conns

abbrev pub is_within : ℕ → Stretch → Bool
is_within n stretch = nat_le stretch.lo n && nat_le n stretch.hi

-- ---- the right list: the fewest stretches of a space such that the same passes at all numbers of each

-- A stretch begins at a number and is not empty, at each of its numbers its connections pass and no others, and they
-- are not those of the stretch before it.
pub record IsNext (passes : ℕ → PortSpot → Bool) (from : ℕ) (before : Option Conns) (stretch : Stretch) : Type 0 where
  pub start : stretch.lo ≡ from
  pub filled : stretch.lo ≤ stretch.hi
  pub conns : (n : ℕ) → stretch.lo ≤ n → n ≤ stretch.hi → conns_of (passes n) ≡ stretch.conns
  pub differs : before ≢ Some stretch.conns

-- the first stretch begins at a number, each next one begins one past the end of the one before, and the last ends one below `to`
abbrev pub AreRight : (ℕ → PortSpot → Bool) → ℕ → ℕ → Option Conns → List Stretch → Type 0
AreRight passes from to before [] = from ≡ to
AreRight passes from to before (stretch ∷ stretches) = IsNext passes from before stretch × AreRight passes (stretch.hi + 1) to (Some stretch.conns) stretches

-- The stretches are the right list of a space: they cover it in ascending order without gaps, and neighbours differ.
abbrev pub IsRight : (ℕ → PortSpot → Bool) → ℕ → ℕ → List Stretch → Type 0
IsRight passes low high stretches = AreRight passes low (high + 1) None stretches

-- ---- the walk that builds it

-- a number alone
abbrev pub stretch_at : (ℕ → PortSpot → Bool) → ℕ → Stretch
stretch_at passes n = record { lo = n; hi = n; conns = conns_of (passes n) }

-- On through so many more numbers: the last stretch grows where the same connections pass, and a new one begins where
-- they change.
abbrev pub walk_on : (ℕ → PortSpot → Bool) → Stretch → ℕ → List Stretch
walk_on passes last zero = last ∷ []
walk_on passes last (suc count) =
    if are_same_conns (conns_of (passes (last.hi + 1))) last.conns
    then walk_on passes (record last { hi = last.hi + 1 }) count
    else last ∷ walk_on passes (stretch_at passes (last.hi + 1)) count

-- From the least number of a space to the greatest: the fewest stretches, in ascending order and without gaps, such
-- that the same connections pass at all numbers of each. It is the right list of the space.
unfoldable pub walk : (ℕ → PortSpot → Bool) → ℕ → ℕ → List Stretch
walk passes low high = walk_on passes (stretch_at passes low) (high - low)

-- ---- pieces

abbrev pub stretch_of : {P : Type 0} → (P → ℕ) → Piece P Conns → Stretch
stretch_of number_of piece = record { lo = number_of piece.lo; hi = number_of piece.hi; conns = piece.value }

abbrev pub stretches_of : {P : Type 0} → (P → ℕ) → List (Piece P Conns) → List Stretch
stretches_of number_of pieces = map (stretch_of number_of) pieces
