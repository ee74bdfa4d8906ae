-- Facts about two spaces side by side.
use Rattle.std.specs.Prelude.{◌≡◌, Bool, true}
use Rattle.std.proofs.Common.{ap, ◌∙◌}
use Rattle.np_base.specs.declared.beside.Beside.{Beside}
use Rattle.np_base.specs.declared.beside.Which.{Which}
use Rattle.np_base.specs.declared.beside.Which.TheVariants.{First, Second}

-- a test of the spots of either space
abbrev pub by_side : {X Y : Type 0} → (X → Bool) → (Y → Bool) → Which X Y → Bool
by_side f g (First x) = f x
by_side f g (Second y) = g y

-- what is in the space on either side is in the space of both
pub in_space_by_side : {X Y : Type 0} (f f' : X → Bool) (g g' : Y → Bool) → ((x : X) → f x ≡ true → f' x ≡ true) → ((y : Y) → g y ≡ true → g' y ≡ true) → (spot : Which X Y) → by_side f g spot ≡ true → by_side f' g' spot ≡ true
in_space_by_side f f' g g' first second (First x) held = first x held
in_space_by_side f f' g g' first second (Second y) held = second y held

-- two pairs of equal parts are equal
pub equal_by_parts : {A B : Type 0} (a b : Beside A B) → a.first ≡ b.first → a.second ≡ b.second → a ≡ b
equal_by_parts {A} {B} a b first second =
    let with_first : A → Beside A B = λ x. record { first = x; second = a.second } in
    let with_second : B → Beside A B = λ y. record { first = b.first; second = y } in
    ap with_first first ∙ ap with_second second

-- sets with the same members on both sides are equal
pub equal_by_sides : {A B X Y : Type 0} (has_a : A → X → Bool) (has_b : B → Y → Bool) (a b : Beside A B) → (((x : X) → has_a a.first x ≡ has_a b.first x) → a.first ≡ b.first) → (((y : Y) → has_b a.second y ≡ has_b b.second y) → a.second ≡ b.second) → ((spot : Which X Y) → by_side (has_a a.first) (has_b a.second) spot ≡ by_side (has_a b.first) (has_b b.second) spot) → a ≡ b
equal_by_sides has_a has_b a b first second alike = equal_by_parts a b (first (λ x. alike (First x))) (second (λ y. alike (Second y)))
