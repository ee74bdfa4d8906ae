-- Lists in one order, with the same elements, are equal. For OnePrefixList and crates above.
use Rattle.std.proofs.Common.{◌≡◌, zero, suc, ◌⊎◌, List, [], ◌∷◌, AllPairs, Contains, refl, sym, ap, subst, ◌∙◌, inl, inr, arith}
use Rattle.std.proofs.lemmas.List.Elements.{All-contains}
use Rattle.np_base.proofs.Lists.{AllPairs-head, AllPairs-tail, Contains-later}

pub Contains-cases : {X : Type 0} (x y : X) (ys : List X) → Contains (y ∷ ys) x → (y ≡ x) ⊎ Contains ys x
Contains-cases x y ys (zero, within, is) = inl is
Contains-cases x y ys (suc k, within, is) = inr (k, omega arith, is)

pub Contains-first : {X : Type 0} (x : X) (xs : List X) → Contains (x ∷ xs) x
Contains-first x xs = (zero, omega arith, refl)

module _ {X : Type 0} (R : X → X → Type 0) (one_way : (x y : X) → R x y → R y x → ⊥) where
  -- both first elements are in the other list, and none comes before the other
  same_first : (x y : X) (xs ys : List X) → AllPairs R (x ∷ xs) → AllPairs R (y ∷ ys) → Contains (y ∷ ys) x → Contains (x ∷ xs) y → x ≡ y
  same_first x y xs ys in_xs in_ys has_x has_y =
      elim (Contains-cases x y ys has_x) [
        | inl same ↦ sym same
        | inr later ↦ elim (Contains-cases y x xs has_y) [
          | inl same ↦ same
          | inr after ↦ absurd (one_way x y (All-contains (R x) xs y (AllPairs-head R x xs in_xs) after) (All-contains (R y) ys x (AllPairs-head R y ys in_ys) later))
        ]
      ]

  -- what is behind the first element of one list is behind that of the other
  still_later : (x y z : X) (xs ys : List X) → x ≡ y → AllPairs R (x ∷ xs) → Contains xs z → Contains (y ∷ ys) z → Contains ys z
  still_later x y z xs ys same in_xs later has_z =
      elim (Contains-cases z y ys has_z) [
        | inl is ↦
            let before : R x z = All-contains (R x) xs z (AllPairs-head R x xs in_xs) later in
            let itself : R x x = subst (λ (w : X). R x w) (sym (same ∙ is)) before in
            absurd (one_way x x itself itself)
        | inr held ↦ held
      ]

  pub same_elements_same_lists : (xs ys : List X) → AllPairs R xs → AllPairs R ys → ((z : X) → Contains xs z → Contains ys z) → ((z : X) → Contains ys z → Contains xs z) → xs ≡ ys
  same_elements_same_lists [] [] in_xs in_ys there back = refl
  same_elements_same_lists [] (y ∷ ys) in_xs in_ys there back = absurd (omega (arith, (back y (Contains-first y ys)).1))
  same_elements_same_lists (x ∷ xs) [] in_xs in_ys there back = absurd (omega (arith, (there x (Contains-first x xs)).1))
  same_elements_same_lists (x ∷ xs) (y ∷ ys) in_xs in_ys there back =
      let same = same_first x y xs ys in_xs in_ys (there x (Contains-first x xs)) (back y (Contains-first y ys)) in
      let rest = same_elements_same_lists xs ys (AllPairs-tail R x xs in_xs) (AllPairs-tail R y ys in_ys)
      (λ z later. still_later x y z xs ys same in_xs later (there z (Contains-later z x xs later)))
      (λ z later. still_later y x z ys xs (sym same) in_ys later (back z (Contains-later z y ys later))) in
      ap (λ (z : X). z ∷ xs) same ∙ ap (λ (zs : List X). y ∷ zs) rest
