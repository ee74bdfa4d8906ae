-- Lists of which some item passes, and tests. For `add_service`.
use Prim.Native.Nat.{zero}
use Rattle.std.proofs.Common.{◌≡◌, ◌<◌, ℕ, List, [], ◌∷◌, Bool, true, false, ◌&&◌, ◌||◌, length, get_or, suc, arith, refl, sym, ap, ◌∙◌}
use Rattle.std.proofs.Math.ListN.{set}
use Rattle.std.specs.Cmp.Lexicographic.{bytes_decides}
use Rattle.std.specs.List.{list_any}
use Rattle.std.specs.Str.{bytes_eq}
use Rattle.std.proofs.Math.Bool.{or_assoc}
use Rattle.std.specs.Cmp.{both_ways}
use Rattle.np_base.proofs.Bools.{or-last}

-- ---- tests

pub or-swap : (a b c d : Bool) → ((a || b) || (c || d)) ≡ ((a || c) || (b || d))
or-swap true b c d = refl
or-swap false true true d = refl
or-swap false true false d = refl
or-swap false false c d = refl

-- a test of two that holds is one of these
pub and-or : (a o n g : Bool) → ((a && (o || n)) && g) ≡ (((a && o) && g) || ((a && n) && g))
and-or false o n g = refl
and-or true true n true = refl
and-or true true true false = refl
and-or true true false false = refl
and-or true false n g = refl

-- nothing more
pub or-nothing : (before none : Bool) → none ≡ false → before ≡ (before || none)
or-nothing true none is = refl
or-nothing false none is = sym is

pub bytes-swap : (a b : List ℕ) → bytes_eq a b ≡ bytes_eq b a
bytes-swap a b = both_ways (bytes_eq a b) (bytes_eq b a) (λ h. (bytes_decides b a).1 (sym ((bytes_decides a b).0 h))) (λ h. (bytes_decides a b).1 (sym ((bytes_decides b a).0 h)))

-- ---- lists

pub list_any-none : {X : Type 0} (f : X → Bool) (xs : List X) → ((x : X) → f x ≡ false) → list_any f xs ≡ false
list_any-none f [] none = refl
list_any-none f (x ∷ xs) none = ap (λ (b : Bool). b || list_any f xs) (none x) ∙ list_any-none f xs none

-- a test that holds where one of two does
pub list_any-or : {X : Type 0} (f g both : X → Bool) (xs : List X) → ((x : X) → both x ≡ (f x || g x)) → list_any both xs ≡ (list_any f xs || list_any g xs)
list_any-or f g both [] is = refl
list_any-or f g both (x ∷ xs) is = ap (λ (b : Bool). b || list_any both xs) (is x) ∙ ap (λ (b : Bool). (f x || g x) || b) (list_any-or f g both xs is) ∙ or-swap (f x) (g x) (list_any f xs)
    (list_any g xs)

-- an item in the place of another passes where that does, or where more holds
pub list_any-set : {X : Type 0} (f : X → Bool) (xs : List X) (i : ℕ) (x y : X) (more : Bool) → i < length xs → x ≡ get_or xs i x → f y ≡ (f x || more) →
    list_any f (set xs i y) ≡ (list_any f xs || more)
list_any-set f [] i x y more within is passes = absurd (omega (arith, within))
list_any-set {X} f (z ∷ zs) zero x y more within is passes =
    ap (λ (b : Bool). b || list_any f zs) (passes ∙ ap (λ (one : X). f one || more) is) ∙ or-last (f z) more (list_any f zs)
list_any-set f (z ∷ zs) (suc i) x y more within is passes =
    ap (λ (b : Bool). f z || b) (list_any-set f zs i x y more (omega (arith, within)) is passes) ∙ sym (or_assoc (f z) (list_any f zs) more)
