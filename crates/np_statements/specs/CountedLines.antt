-- Where the lines of a file stand, and how they are counted.
use Rattle.std.specs.Prelude.{ℕ, ◌≡◌, ◌⊎◌, ◌+◌, ◌==◌, List, [], ◌∷◌, ◌++◌, if◌then◌else◌}

-- how many line feeds (10) bytes have
abbrev pub line_feeds : List ℕ → ℕ
line_feeds [] = 0
line_feeds (byte ∷ bytes) = if byte == 10 then line_feeds bytes + 1 else line_feeds bytes

-- The line of a number stands in a file, whose lines are counted from 1: between the beginning or a line feed, and a
-- line feed or the end; it has none itself, and there are as many before it as lines.
pub record IsLineOf (bytes : List ℕ) (number : ℕ) (line : List ℕ) : Type 0 where
  pub before : List ℕ
  pub after : List ℕ
  pub spelled : bytes ≡ before ++ (line ++ after)
  pub begins : (before ≡ []) ⊎ ((front : List ℕ) × (before ≡ front ++ 10 ∷ []))
  pub ends : (after ≡ []) ⊎ ((rest : List ℕ) × (after ≡ 10 ∷ rest))
  pub plain : line_feeds line ≡ 0
  pub counted : number ≡ line_feeds before + 1
