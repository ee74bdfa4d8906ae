-- Answers about two spaces side by side, from the answers about each. For `BesideCells::is_empty` and `BesideCells::same`.
use Rattle.std.specs.Prelude.{◌≡◌, Bool, true, false, not, MatchBool}
use Rattle.np_base.specs.Beside.{by_side, equal_by_parts}
use Rattle.np_base.specs.declared.beside.Beside.{Beside}
use Rattle.np_base.specs.declared.beside.Which.{Which}
use Rattle.np_base.specs.declared.beside.Which.TheVariants.{First, Second}

-- what holds of the spots of either space holds of the spots of both
both_sides : {X Y : Type 0} (P : Which X Y → Type 0) → ((x : X) → P (First x)) → ((y : Y) → P (Second y)) → (spot : Which X Y) → P spot
both_sides P first second (First x) = first x
both_sides P first second (Second y) = second y

-- where no spot of the first space is in, the second tells whether there is a spot
pub empty_by_second : {X Y : Type 0} (f : X → Bool) (g : Y → Bool) (answer : Bool) → ((x : X) → f x ≡ false) → MatchBool answer ((y : Y) → g y ≡ false) ((y : Y) × (g y ≡ true)) →
    MatchBool answer ((spot : Which X Y) → by_side f g spot ≡ false) ((spot : Which X Y) × (by_side f g spot ≡ true))
empty_by_second f g true none_first none_second = both_sides (λ spot. by_side f g spot ≡ false) none_first none_second
empty_by_second f g false none_first some_second = (Second some_second.0, some_second.1)

-- a spot of the first space decides the answer
pub filled_by_first : {X Y : Type 0} (f : X → Bool) (g : Y → Bool) (answer : Bool) → answer ≡ false → (x : X) × (f x ≡ true) →
    MatchBool answer ((spot : Which X Y) → by_side f g spot ≡ false) ((spot : Which X Y) × (by_side f g spot ≡ true))
filled_by_first f g true said some_first = cc
filled_by_first f g false said some_first = (First some_first.0, some_first.1)

-- where the first parts are equal, the second tells whether the pairs are
pub same_by_second : {A B X Y : Type 0} (has_a : A → X → Bool) (has_b : B → Y → Bool) (a b : Beside A B) (answer : Bool) → a.first ≡ b.first →
    MatchBool answer (a.second ≡ b.second) ((y : Y) × (has_b a.second y ≡ not (has_b b.second y))) →
    MatchBool answer (a ≡ b) ((spot : Which X Y) × (by_side (has_a a.first) (has_b a.second) spot ≡ not (by_side (has_a b.first) (has_b b.second) spot)))
same_by_second has_a has_b a b true first second = equal_by_parts a b first second
same_by_second has_a has_b a b false first second = (Second second.0, second.1)

-- a spot of the first space that tells the sets apart decides the answer
pub apart_by_first : {A B X Y : Type 0} (has_a : A → X → Bool) (has_b : B → Y → Bool) (a b : Beside A B) (answer : Bool) → answer ≡ false → (x : X) × (has_a a.first x ≡ not (has_a b.first x)) →
    MatchBool answer (a ≡ b) ((spot : Which X Y) × (by_side (has_a a.first) (has_b a.second) spot ≡ not (by_side (has_a b.first) (has_b b.second) spot)))
apart_by_first has_a has_b a b true said first = cc
apart_by_first has_a has_b a b false said first = (First first.0, first.1)
