-- Lists related place by place. For `admin_parts`, `base_parts` and 2 more.
use Rattle.std.proofs.Common.{◌≡◌, ℕ, ◌+◌, ◌<◌, List, [], ◌∷◌, ◌++◌, length, take, get_or, map, refl, sym, ap, subst, ◌∙◌, append_assoc}
use Rattle.std.proofs.lemmas.List.{take_more, map-append}
use Rattle.np_rules.specs.Prelude.{Pairwise}

-- images of images
pub map-map : {A B C : Type 0} (f : A → B) (g : B → C) (xs : List A) → map g (map f xs) ≡ map (λ x. g (f x)) xs
map-map f g [] = refl
map-map f g (x ∷ xs) = ap (λ ys. g (f x) ∷ ys) (map-map f g xs)

-- what holds of two empty lists, and of one more related pair, holds of related lists
pub Pairwise-ind : {A B : Type 0} (R : A → B → Type 0) (C : List A → List B → Type 0) → C [] [] → ((x : A) (y : B) (xs : List A) (ys : List B) → R x y → C xs ys → C (x ∷ xs) (y ∷ ys)) →
    (xs : List A) (ys : List B) → Pairwise R xs ys → C xs ys
Pairwise-ind R C none more [] [] related = none
Pairwise-ind R C none more [] (y ∷ ys) related = absurd related
Pairwise-ind R C none more (x ∷ xs) [] related = absurd related
Pairwise-ind R C none more (x ∷ xs) (y ∷ ys) related = more x y xs ys related.0 (Pairwise-ind R C none more xs ys related.1)

-- one after another
pub Pairwise-append : {A B : Type 0} (R : A → B → Type 0) (xs : List A) (ys : List B) (xs' : List A) (ys' : List B) → Pairwise R xs ys → Pairwise R xs' ys' → Pairwise R (xs ++ xs') (ys ++ ys')
Pairwise-append R xs ys xs' ys' front back = Pairwise-ind R (λ fronts others. Pairwise R (fronts ++ xs') (others ++ ys')) back (λ x y fronts others here rest. (here, rest)) xs ys front

-- one more at the end of both
pub Pairwise-push : {A B : Type 0} (R : A → B → Type 0) (xs : List A) (ys : List B) (x : A) (y : B) → Pairwise R xs ys → R x y → Pairwise R (xs ++ x ∷ []) (ys ++ y ∷ [])
Pairwise-push R xs ys x y related here = Pairwise-append R xs ys (x ∷ []) (y ∷ []) related (here, tt)

-- where the second list is that of images, its items are related by their images
pub Pairwise-map : {A B C : Type 0} (R : A → C → Type 0) (f : B → C) (xs : List A) (ys : List B) → Pairwise R xs (map f ys) → Pairwise (λ x y. R x (f y)) xs ys
Pairwise-map R f [] [] related = tt
Pairwise-map R f [] (b ∷ ys) related = absurd related
Pairwise-map R f (a ∷ xs) [] related = absurd related
Pairwise-map R f (a ∷ xs) (b ∷ ys) related = (related.0, Pairwise-map R f xs ys related.1)

-- after so many items of the second list, one more
pub Pairwise-next : {A B : Type 0} (R : A → B → Type 0) (xs : List A) (before ys : List B) (i : ℕ) (x : A) (y : B) (made : List A) → i < length ys → y ≡ get_or ys i y → made ≡ xs ++ x ∷ [] →
    Pairwise R xs (before ++ take i ys) → R x y → Pairwise R made (before ++ take (i + 1) ys)
Pairwise-next {A} {B} R xs before ys i x y made within is pushed related here =
    let item : B → List B = λ b. take i ys ++ b ∷ [] in
    let front : before ++ take (i + 1) ys ≡ (before ++ take i ys) ++ y ∷ [] = ap (λ bs. before ++ bs) (take_more ys i y within ∙ ap item (sym is)) ∙ sym (append_assoc before (take i ys) (y ∷ [])) in
    subst (λ (made' : List A). Pairwise R made' (before ++ take (i + 1) ys)) (sym pushed)
    (subst (λ (bs : List B). Pairwise R (xs ++ x ∷ []) bs) (sym front) (Pairwise-push R xs (before ++ take i ys) x y related here))

-- the same where the second list is that of images
pub Pairwise-next-map : {A B C : Type 0} (R : A → C → Type 0) (f : B → C) (xs : List A) (before : List C) (ys : List B) (i : ℕ) (x : A) (y : B) (made : List A) → i < length ys → y ≡ get_or ys i y →
    made ≡ xs ++ x ∷ [] → Pairwise R xs (before ++ map f (take i ys)) → R x (f y) → Pairwise R made (before ++ map f (take (i + 1) ys))
Pairwise-next-map {A} {B} {C} R f xs before ys i x y made within is pushed related here =
    let item : B → List B = λ b. take i ys ++ b ∷ [] in
    let front : before ++ map f (take (i + 1) ys) ≡ (before ++ map f (take i ys)) ++ f y ∷ [] = ap (λ bs. before ++ map f bs) (take_more ys i y within ∙ ap item (sym is)) ∙ ap (λ cs. before ++ cs)
    (map-append f (take i ys) (y ∷ [])) ∙ sym (append_assoc before (map f (take i ys)) (f y ∷ [])) in
    subst (λ (made' : List A). Pairwise R made' (before ++ map f (take (i + 1) ys))) (sym pushed)
    (subst (λ (cs : List C). Pairwise R (xs ++ x ∷ []) cs) (sym front) (Pairwise-push R xs (before ++ map f (take i ys)) x (f y) related here))
