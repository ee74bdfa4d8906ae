-- How many of some texts are equal, as a walk over them counts.
use Rattle.std.specs.Prelude.{ℕ, ◌+◌, ◌≡◌, List, [], ◌++◌, ◌==◌, filter, length, codes, decimal, if◌then◌else◌}
use Rattle.std.specs.Cmp.Lexicographic.{slice_cmp}
use Rattle.std.specs.Map.{lookup}
use Rattle.std.specs.Option.{unwrap_or}
use Rattle.std.specs.Ordering.{nat_cmp, is_eq}
use Rattle.std.specs.Str.{bytes_eq}

-- how often a text is among others
abbrev pub times : List ℕ → List (List ℕ) → ℕ
times text texts = length (filter (λ other. bytes_eq other text) texts)

-- the count that is noted of a text
abbrev pub noted : List (List ℕ × ℕ) → List ℕ → ℕ
noted entries text = unwrap_or (lookup (λ other. is_eq (slice_cmp nat_cmp text other)) entries) 0

-- the counts that are noted are those of the texts, at each text
abbrev pub HoldsCounts : List (List ℕ) → List (List ℕ × ℕ) → Type 0
HoldsCounts texts entries = (text : List ℕ) → noted entries text ≡ times text texts

-- the name of a thing whose wish `count` things have, `before` of them before it
abbrev pub with_number : List ℕ → ℕ → ℕ → List ℕ
with_number wish count before = wish ++ (if count == 1 then [] else codes "#" ++ decimal (1 + before))
