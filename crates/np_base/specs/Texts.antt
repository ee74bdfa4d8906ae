-- Texts, as lists of bytes.
use Rattle.std.specs.Prelude.{ℕ, List}
use Rattle.std.specs.Cmp.Lexicographic.{slice_cmp}
use Rattle.std.specs.Ordering.{nat_cmp}
use Rattle.std.specs.declared.cmp.Ordering.{Ordering}

-- the order of texts: by their bytes
abbrev pub compare_texts : List ℕ → List ℕ → Ordering
compare_texts = slice_cmp nat_cmp
