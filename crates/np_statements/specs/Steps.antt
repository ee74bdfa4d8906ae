-- Reading in steps: the first fault stands.
use Rattle.std.specs.Prelude.{Result, Ok, Err}

-- one step after another
infixl 10 ◌>>=◌
abbrev pub ◌>>=◌ : {A B E : Type 0} → Result A E → (A → Result B E) → Result B E
(Ok x) >>= rest = rest x
(Err fault) >>= rest = Err fault
