-- Where a side of a line ends.
use Rattle.std.specs.Prelude.{◌≡◌, ◌≢◌, ℕ, ◌≤◌, List, [], ◌∷◌, ◌++◌, ◌⊎◌, codes, length}
use Rattle.std.specs.List.{AllByRecursion}
use Rattle.np_statements.specs.StatementGrammar.{Lacks}

-- A mark begins and ends with a space, and has no other. The tail is the mark without its first space.
pub record IsMark (mark tail : List ℕ) : Type 0 where
  pub middle : List ℕ
  pub first : mark ≡ 32 ∷ tail
  pub last : tail ≡ middle ++ 32 ∷ []
  pub inner : AllByRecursion (λ c. c ≢ 32) middle

-- the text is that of a workload whose name lacks the mark, or it begins with another letter and lacks the mark
abbrev pub IsSide : List ℕ → List ℕ → Type 0
IsSide mark end =
    ((name : List ℕ) × (end ≡ codes "workload " ++ name) × Lacks name mark)
    ⊎ ((c : ℕ) × (others : List ℕ) × (end ≡ c ∷ others) × (c ≢ 119) × Lacks end mark)

-- such a text may stand before the mark, where what is behind it does not begin with the mark's tail
pub record IsBefore (mark tail end rest : List ℕ) : Type 0 where
  pub side : IsSide mark end
  pub apart : (more : List ℕ) → rest ≢ tail ++ more

-- the mark stands in the text before what is behind, and nowhere earlier
pub record IsBehindFirst (mark text behind : List ℕ) : Type 0 where
  pub front : List ℕ
  pub spelled : text ≡ front ++ (mark ++ behind)
  pub first : (front' behind' : List ℕ) → text ≡ front' ++ (mark ++ behind') → length front ≤ length front'

-- the text without its beginning, where it begins so
abbrev pub IsWithout : List ℕ → List ℕ → List ℕ → Type 0
IsWithout beginning text rest = (text ≡ beginning ++ rest) ⊎ ((rest ≡ text) × ((more : List ℕ) → text ≢ beginning ++ more))
