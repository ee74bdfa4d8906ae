-- Lists of which facts hold in pairs, or of some element. For RightPrefixes and crates above.
use Rattle.std.proofs.Common.{zero, ◌+◌, List, [], ◌∷◌, ◌++◌, length, AllPairs, Any, refl, ◌∙◌, arith}
use Rattle.std.proofs.lemmas.List.{get_or_append_left, get_or-append-add, length-append}

pub AllPairs-nil : {X : Type 0} (R : X → X → Type 0) → AllPairs R []
AllPairs-nil R = λ i j d before within. absurd (omega arith)

pub AllPairs-weaker : {X : Type 0} (R S : X → X → Type 0) → ((x y : X) → R x y → S x y) → (xs : List X) → AllPairs R xs → AllPairs S xs
AllPairs-weaker R S weaker xs pairs = λ i j d before within. weaker _ _ (pairs i j d before within)

pub Any-cons : {X : Type 0} (P : X → Type 0) (x : X) (xs : List X) → P x → Any P (x ∷ xs)
Any-cons P x xs held = (zero, x, omega arith, refl, held)

pub Any-weaker : {X : Type 0} (P Q : X → Type 0) → ((x : X) → P x → Q x) → (xs : List X) → Any P xs → Any Q xs
Any-weaker P Q weaker xs (k, x, within, is, held) = (k, x, within, is, weaker x held)

pub Any-append_left : {X : Type 0} (P : X → Type 0) (xs ys : List X) → Any P xs → Any P (xs ++ ys)
Any-append_left P xs ys (k, x, within, is, held) =
    (k, x, omega (arith, length-append xs ys), get_or_append_left xs ys x k within ∙ is, held)

pub Any-append_right : {X : Type 0} (P : X → Type 0) (xs ys : List X) → Any P ys → Any P (xs ++ ys)
Any-append_right P xs ys (k, x, within, is, held) =
    (length xs + k, x, omega (arith, length-append xs ys), get_or-append-add xs ys k x ∙ is, held)
