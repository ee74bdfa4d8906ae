-- Lists of which each item passes, by recursion over the list. For crates above.
use Rattle.std.proofs.Common.{List, [], ◌∷◌, ◌++◌, Bool, true, false, if◌then◌else◌}
use Rattle.std.specs.List.{AllByRecursion}

-- what passes more
pub All-weaker : {X : Type 0} (P Q : X → Type 0) → ((x : X) → P x → Q x) → (xs : List X) → AllByRecursion P xs → AllByRecursion Q xs
All-weaker P Q weaker [] all = tt
All-weaker P Q weaker (x ∷ xs) all = (weaker x all.0, All-weaker P Q weaker xs all.1)

-- the parts of two lists that are joined
pub All-parts : {X : Type 0} (P : X → Type 0) (xs ys : List X) → AllByRecursion P (xs ++ ys) → AllByRecursion P xs × AllByRecursion P ys
All-parts P [] ys all = (tt, all)
All-parts P (x ∷ xs) ys all =
    let parts = All-parts P xs ys all.1 in
    ((all.0, parts.0), parts.1)

-- two lists that are joined
pub All-append : {X : Type 0} (P : X → Type 0) (xs ys : List X) → AllByRecursion P xs → AllByRecursion P ys → AllByRecursion P (xs ++ ys)
All-append P [] ys left right = right
All-append P (x ∷ xs) ys left right = (left.0, All-append P xs ys left.1 right)

-- a list that is left out or not
pub All-if : {X : Type 0} (P : X → Type 0) (b : Bool) (xs : List X) → AllByRecursion P xs → AllByRecursion P (if b then xs else [])
All-if P true xs all = all
All-if P false xs all = tt
