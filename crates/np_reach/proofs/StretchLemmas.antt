-- Pods that stand together. For `is_alike` and `stretches`.
use lib.Pointwise.{pointwise}
use Rattle.std.proofs.Common.{◌≡◌, ℕ, nat_eq, true, ◌&&◌, zero, suc, ◌+◌, ◌<◌, ◌≤◌, ◌-◌, List, [], ◌∷◌, ◌++◌, Some, flat_map, get_or, length, slice_get, take, drop, arith, refl, sym, ap, subst, inl, inr, ◌∙◌}
use Rattle.std.specs.Prelude.{All}
use Rattle.std.specs.Cmp.Lexicographic.{bytes_decides}
use Rattle.std.proofs.Math.Seq.{take-add}
use Rattle.std.proofs.lemmas.Bool.{and_parts, cases_lt, false≢true}
use Rattle.std.proofs.lemmas.Grind.{flat_map-append}
use Rattle.std.proofs.lemmas.List.{append-nil, drop_more, length-take-le, take_all}
use Rattle.std.proofs.lemmas.Option.{none-some, same_Some}
use Rattle.np_labels.specs.declared.pair.Pair.{Pair}
use Rattle.np_reach.proofs.SpokenLemmas.{in_back, in_front}

-- one stretch more
pub stretch_more : {S X : Type 0} (pods_of : S → List X) (made new : List S) (stretch : S) (pods rest own : List X) (from count : ℕ) → new ≡ made ++ stretch ∷ [] → pods_of stretch ≡ own →
    rest ≡ drop from pods → own ≡ take count rest → flat_map pods_of made ≡ take from pods → flat_map pods_of new ≡ take (from + count) pods
stretch_more {S} {X} pods_of made new stretch pods rest own from count pushed is rest_is own_is so_far =
    ap (flat_map pods_of) pushed
    ∙ flat_map-append pods_of made (stretch ∷ [])
    ∙ ap (λ (front : List X). front ++ flat_map pods_of (stretch ∷ [])) so_far
    ∙ ap (λ (last : List X). take from pods ++ last) (append-nil (pods_of stretch) ∙ is ∙ own_is ∙ ap (take count) rest_is)
    ∙ sym (take-add from count pods)

-- which begins where those before it end
pub follow_more : {S X : Type 0} (pods_of : S → List X) (from_of : S → ℕ) (made new : List S) (stretch : S) (pods : List X) (from : ℕ) → new ≡ made ++ stretch ∷ [] → from_of stretch ≡ from →
    flat_map pods_of made ≡ take from pods → from ≤ length pods → ((k : ℕ) (s : S) → slice_get made k ≡ Some s → from_of s ≡ length (flat_map pods_of (take k made))) → (k : ℕ) (s : S) →
    slice_get new k ≡ Some s → from_of s ≡ length (flat_map pods_of (take k new))
follow_more {S} {X} pods_of from_of made new stretch pods from pushed is so_far within follow k s at =
    elim (cases_lt k (length made)) [
      | inl low ↦ follow k s (sym (in_front made (stretch ∷ []) k low) ∙ here) ∙ ap (λ (all : List S). length (flat_map pods_of all)) (sym (front k (omega (arith, low))))
      | inr up ↦ last (k - length made) (omega (arith, up))
    ]
  where
    here : slice_get (made ++ stretch ∷ []) k ≡ Some s
    here = ap (λ (all : List S). slice_get all k) (sym pushed) ∙ at

    take_front : (xs ys : List S) (n : ℕ) → n ≤ length xs → take n (xs ++ ys) ≡ take n xs
    take_front xs ys zero low = refl
    take_front [] ys (suc n) low = absurd (omega (arith, low))
    take_front (x ∷ xs) ys (suc n) low = ap (λ (rest : List S). x ∷ rest) (take_front xs ys n (omega (arith, low)))

    front : (n : ℕ) → n ≤ length made → take n new ≡ take n made
    front n low = ap (take n) pushed ∙ take_front made (stretch ∷ []) n low

    last : (j : ℕ) → k ≡ length made + j → from_of s ≡ length (flat_map pods_of (take k new))
    last zero place =
        let same : stretch ≡ s = same_Some stretch s (sym (in_back made (stretch ∷ []) k 0 place) ∙ here) in
        let count : k ≡ length made = omega (arith, place) in
        ap from_of (sym same) ∙ is
        ∙ sym (ap (λ (all : List S). length (flat_map pods_of all)) (front k (omega (arith, count)) ∙ take_all k made (omega (arith, count))) ∙ ap length so_far ∙ length-take-le from pods within)
    last (suc j) place = absurd (none-some s (sym (in_back made (stretch ∷ []) k (suc j) place) ∙ here))

-- what holds of an item and of some behind it holds of all of these
pub first_and : {X : Type 0} (P : X → Type 0) (xs rest others own : List X) (from count : ℕ) (one : X) → from < length xs → one ≡ get_or xs from one → rest ≡ drop from xs →
    others ≡ drop (from + 1) xs → own ≡ take (1 + count) rest → P one → All P (take count others) → All P own
first_and {X} P xs rest others own from count one within at rest_is others_is own_is here behind =
    subst (All P) (sym (own_is ∙ ap (take (1 + count)) (rest_is ∙ drop_more xs from one within ∙ ap (λ (first : X). first ∷ drop (from + 1) xs) (sym at) ∙ ap (λ (more : List X). one ∷ more)
    (sym others_is)) ∙ ap (λ (n : ℕ). take n (one ∷ others)) (let same : 1 + count ≡ suc count = omega arith in same))) all
  where
    all : All P (one ∷ take count others)
    all zero d low = here
    all (suc k) d low = behind k d (omega (arith, low))

-- equal labels
pub same_pairs : (xs ys : List Pair) → pointwise (λ (a b : Pair). pointwise nat_eq a.key b.key && pointwise nat_eq a.value b.value) xs ys ≡ true → xs ≡ ys
same_pairs [] [] same = refl
same_pairs [] (y ∷ ys) same = absurd (false≢true same)
same_pairs (x ∷ xs) [] same = absurd (false≢true same)
same_pairs (x ∷ xs) (y ∷ ys) same =
    let parts = and_parts _ _ same in
    let both = and_parts _ _ parts.0 in
    let with_key : List ℕ → Pair = λ key. record { key = key; value = x.value } in
    let with_value : List ℕ → Pair = λ value. record { key = y.key; value = value } in
    ap (λ (first : Pair). first ∷ xs) (ap with_key ((bytes_decides x.key y.key).0 both.0) ∙ ap with_value ((bytes_decides x.value y.value).0 both.1))
    ∙ ap (λ (rest : List Pair). y ∷ rest) (same_pairs xs ys parts.1)
