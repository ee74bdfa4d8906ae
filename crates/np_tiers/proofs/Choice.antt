-- A function at a choice. For Tiers and Verdicts.
use Rattle.std.proofs.Common.{◌≡◌, Bool, true, false, if◌then◌else◌, refl}

pub at_choice : {A B : Type 0} (f : A → B) (b : Bool) (x y : A) → f (if b then x else y) ≡ (if b then f x else f y)
at_choice f true x y = refl
at_choice f false x y = refl
