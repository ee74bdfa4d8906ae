-- Tests that are joined. For crates above.
use Rattle.std.proofs.Common.{◌≡◌, Bool, true, false, not, ◌||◌, refl, ◌&&◌, ℕ, ◌==◌, sym}
use Rattle.std.proofs.lemmas.Bool.{true≢false, false≢true, eq-eqb, eqb-true}
use Rattle.std.specs.Cmp.{both_ways}

-- no test is its own opposite
pub not_itself : (x : Bool) → x ≡ not x → ⊥
not_itself true same = true≢false same
not_itself false same = false≢true same

-- the last of three tests may stand before the second
pub or-last : (a b c : Bool) → ((a || b) || c) ≡ ((a || c) || b)
or-last true b c = refl
or-last false true true = refl
or-last false true false = refl
or-last false false true = refl
or-last false false false = refl

-- three tests may be joined from the left
pub and-leftwards : (a b c : Bool) → (a && (b && c)) ≡ ((a && b) && c)
and-leftwards true b c = refl
and-leftwards false b c = refl

pub or-leftwards : (x y z : Bool) → (x || (y || z)) ≡ ((x || y) || z)
or-leftwards true y z = refl
or-leftwards false y z = refl

-- two tests do not both hold where the second does not
pub not_both : (a b : Bool) → b ≡ false → not (a && b) ≡ true
not_both true b is = rw is refl
not_both false b is = refl

-- numbers are compared either way round
pub eq-swap : (a b : ℕ) → (a == b) ≡ (b == a)
eq-swap a b = both_ways (a == b) (b == a) (λ h. eq-eqb b a (sym (eqb-true a b h))) (λ h. eq-eqb a b (sym (eqb-true b a h)))
