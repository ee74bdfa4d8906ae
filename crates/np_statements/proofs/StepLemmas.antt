-- Readings in steps. For `read_statements` and crates above.
use Rattle.std.proofs.Common.{◌≡◌, List, [], ◌++◌, Result, Ok, Err, refl}
use Rattle.np_statements.specs.Prelude.{◌>>=◌}

pub same_ok : {A E : Type 0} (a b : A) → ◌≡◌ {A = Result A E} (Ok a) (Ok b) → a ≡ b
same_ok a b same = cc

-- what two steps give, the first gives something for
pub then-ok : {A B E : Type 0} (step : Result A E) (rest : A → Result B E) (b : B) → (step >>= rest) ≡ Ok b → (a : A) × (step ≡ Ok a) × (rest a ≡ Ok b)
then-ok (Ok a) rest b is = (a, refl, is)
then-ok (Err fault) rest b is = cc

-- what is made so far, and then what is made of the rest
abbrev pub after : {X E : Type 0} → List X → Result (List X) E → Result (List X) E
after front (Ok more) = Ok (front ++ more)
after front (Err fault) = Err fault

pub after-none : {X E : Type 0} (made : Result (List X) E) → made ≡ after [] made
after-none (Ok more) = refl
after-none (Err fault) = refl
