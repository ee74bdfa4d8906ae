-- Where a side of a line ends. For `behind_first` and `behind_mark`.
use Rattle.std.proofs.Common.{◌≡◌, ◌≢◌, ℕ, ◌+◌, ◌≤◌, List, [], ◌∷◌, ◌++◌, ◌⊎◌, Option, Some, None, MatchOption, length, take, drop, codes, sym, ap, ◌∙◌, inl, inr, append_assoc, arith}
use Rattle.std.specs.Borrow.{Bor}
use Rattle.std.specs.List.{AllByRecursion}
use Rattle.std.specs.Str.Pattern.{FindsText}
use Rattle.std.proofs.Math.Seq.{drop-append_seam}
use Rattle.std.proofs.lemmas.Bool.{cases_lt}
use Rattle.std.proofs.lemmas.List.{append_cancel_left, length-append}
use Rattle.std.proofs.lemmas.Str.Pattern.{split_text_parts}
use Rattle.np_statements.specs.Prelude.{IsBefore, IsBehindFirst, IsMark, IsWithout, Lacks}

-- ---- the first place of a mark

-- where a mark stands in a text, it stands at a place
stands_at : (mark text before after : List ℕ) → text ≡ before ++ (mark ++ after) → drop (length before) text ≡ mark ++ after
stands_at mark text before after spelled = rw spelled (drop-append_seam before (mark ++ after))

fits : (mark text before after : List ℕ) → text ≡ before ++ (mark ++ after) → length before ≤ length text
fits mark text before after spelled = omega (arith, ap length spelled ∙ length-append before (mark ++ after))

-- what `split_once` finds
pub found_first : (mark text : List ℕ) (r : Option (Bor (List ℕ) × Bor (List ℕ))) →
    MatchOption r (FindsText mark text None) (λ x. (i : ℕ) × (j : ℕ) × FindsText mark text (Some (i, j)) × (x.0.now ≡ take i text) × (x.1.now ≡ drop j text) × (i ≤ j) × (length x.0.now ≡ i) ×
    (length x.1.now + j ≡ length text)) →
    MatchOption r (Lacks text mark) (λ x. IsBehindFirst mark text x.1.now)
found_first mark text None finds = λ before after spelled. finds (length before) (fits mark text before after spelled) after (stands_at mark text before after spelled)
found_first mark text (Some sides) finds =
    let (i, j, found, before_is, after_is, ordered, long, _) = finds in
    record {
      front = sides.0.now;
      spelled = split_text_parts mark text (Some sides) finds;
      first = λ before after spelled. elim (cases_lt (length before) i) [
        | inl earlier ↦ absurd (found.0 (length before) earlier after (stands_at mark text before after spelled))
        | inr later ↦ omega arith
      ];
    }

-- ---- a later place of the mark shares a space with the first

same_tail : (a b : ℕ) (xs ys : List ℕ) → a ∷ xs ≡ b ∷ ys → xs ≡ ys
same_tail a b xs ys same = cc

pub same_head : (a b : ℕ) (xs ys : List ℕ) → a ∷ xs ≡ b ∷ ys → a ≡ b
same_head a b xs ys same = cc

-- what is before a space, where no space is before another
to_space : (x middle behind other : List ℕ) → AllByRecursion (λ c. c ≢ 32) middle → x ++ 32 ∷ behind ≡ middle ++ 32 ∷ other → (behind ≡ other) ⊎ ((z : List ℕ) × (x ≡ middle ++ 32 ∷ z))
to_space [] [] behind other none same = inl (same_tail 32 32 behind other same)
to_space [] (m ∷ middle) behind other none same = absurd (none.0 (sym (same_head 32 m behind (middle ++ 32 ∷ other) same)))
to_space (c ∷ x) [] behind other none same = inr (x, ap (λ n. n ∷ x) (same_head c 32 (x ++ 32 ∷ behind) other same))
to_space (c ∷ x) (m ∷ middle) behind other none same =
    let head : c ≡ m = same_head c m (x ++ 32 ∷ behind) (middle ++ 32 ∷ other) same in
    elim (to_space x middle behind other none.1 (same_tail c m (x ++ 32 ∷ behind) (middle ++ 32 ∷ other) same)) [
      | inl equal ↦ inl equal
      | inr (z, longer) ↦ inr (z, ap (λ n. n ∷ x) head ∙ ap (λ xs. m ∷ xs) longer)
    ]

-- an end that lacks the mark, where the mark stands at the beginning
at_start : (mark tail x rest behind : List ℕ) → IsMark mark tail → Lacks x mark → x ++ (mark ++ rest) ≡ mark ++ behind → (behind ≡ rest) ⊎ (behind ≡ tail ++ rest)
at_start mark tail [] rest behind is lacks same = inl (sym (append_cancel_left mark rest behind same))
at_start mark tail (c ∷ x) rest behind is lacks same =
    let spelled : mark ≡ 32 ∷ (is.middle ++ 32 ∷ []) = is.first ∙ ap (λ xs. 32 ∷ xs) is.last in
    let whole : (ys : List ℕ) → mark ++ ys ≡ 32 ∷ (is.middle ++ 32 ∷ ys) = λ ys. ap (λ xs. xs ++ ys) spelled ∙ ap (λ xs. 32 ∷ xs) (append_assoc is.middle (32 ∷ []) ys) in
    let unfolded : (ys : List ℕ) → mark ++ ys ≡ 32 ∷ (tail ++ ys) = λ ys. ap (λ xs. xs ++ ys) is.first in
    let both : c ∷ (x ++ 32 ∷ (tail ++ rest)) ≡ 32 ∷ (is.middle ++ 32 ∷ behind) = ap (λ xs. c ∷ (x ++ xs)) (sym (unfolded rest)) ∙ same ∙ whole behind in
    let head : c ≡ 32 = same_head c 32 (x ++ 32 ∷ (tail ++ rest)) (is.middle ++ 32 ∷ behind) both in
    elim (to_space x is.middle (tail ++ rest) behind is.inner (same_tail c 32 (x ++ 32 ∷ (tail ++ rest)) (is.middle ++ 32 ∷ behind) both)) [
      | inl equal ↦ inr (sym equal)
      | inr (z, longer) ↦ absurd (lacks [] z (ap (λ n. n ∷ x) head ∙ ap (λ xs. 32 ∷ xs) longer ∙ sym (whole z)))
    ]

-- and where it stands first somewhere
pub after_first : (mark tail x rest front behind : List ℕ) → IsMark mark tail → Lacks x mark → length front ≤ length x → x ++ (mark ++ rest) ≡ front ++ (mark ++ behind) →
    (behind ≡ rest) ⊎ (behind ≡ tail ++ rest)
after_first mark tail x rest [] behind is lacks first same = at_start mark tail x rest behind is lacks same
after_first mark tail [] rest (f ∷ front) behind is lacks first same = absurd (omega arith)
after_first mark tail (c ∷ x) rest (f ∷ front) behind is lacks first same =
    after_first mark tail x rest front behind is (λ before after spelled. lacks (c ∷ before) after (ap (λ xs. c ∷ xs) spelled)) (omega arith)
    (same_tail c f (x ++ (mark ++ rest)) (front ++ (mark ++ behind)) same)

-- ---- the side of a line without `workload `

pub first_letter : (c : ℕ) (others more : List ℕ) → c ≢ 119 → c ∷ others ≡ codes "workload " ++ more → ⊥
first_letter c others more other same = other (same_head c 119 others _ same)

-- it lacks the mark, and stands before it
pub named_side : (mark tail text named end rest : List ℕ) → IsWithout (codes "workload ") text named → IsBefore mark tail end rest → text ≡ end ++ (mark ++ rest) →
    (x : List ℕ) × Lacks x mark × (named ≡ x ++ (mark ++ rest))
named_side mark tail text named end rest without is spelled =
    elim is.side [
      | inl (name, end_is, lacks) ↦
          let whole : text ≡ codes "workload " ++ (name ++ (mark ++ rest)) = spelled ∙ ap (λ xs. xs ++ (mark ++ rest)) end_is ∙ append_assoc (codes "workload ") name (mark ++ rest) in
          elim without [
            | inl begins ↦ (name, lacks, append_cancel_left (codes "workload ") named (name ++ (mark ++ rest)) (sym begins ∙ whole))
            | inr (same, never) ↦ absurd (never (name ++ (mark ++ rest)) whole)
          ]
      | inr (c, others, end_is, other, lacks) ↦
          elim without [
            | inl begins ↦ absurd (first_letter c (others ++ (mark ++ rest)) named other (sym (spelled ∙ ap (λ xs. xs ++ (mark ++ rest)) end_is) ∙ begins))
            | inr (same, never) ↦ (end, lacks, same ∙ spelled)
          ]
    ]

-- ---- what stands behind the mark

-- where the first mark is not the one, its tail stands before the rest
past_tail : (tail behind rest found : List ℕ) → ((more : List ℕ) → rest ≢ tail ++ more) → IsWithout tail behind found → (behind ≡ rest) ⊎ (behind ≡ tail ++ rest) → found ≡ rest
past_tail tail behind rest found apart without at =
    elim at [
      | inl here ↦ elim without [
        | inl begins ↦ absurd (apart found (sym here ∙ begins))
        | inr (same, never) ↦ same ∙ here
      ]
      | inr further ↦ elim without [
        | inl begins ↦ append_cancel_left tail found rest (sym begins ∙ further)
        | inr (same, never) ↦ absurd (never rest further)
      ]
    ]

-- behind the mark of an end stands what is found
pub behind_is : (mark tail text named behind found end rest : List ℕ) → IsMark mark tail → IsWithout (codes "workload ") text named → IsBehindFirst mark named behind → IsWithout tail behind found →
    IsBefore mark tail end rest → text ≡ end ++ (mark ++ rest) → found ≡ rest
behind_is mark tail text named behind found end rest marked named_first first found_last before spelled =
    let (x, lacks, side) = named_side mark tail text named end rest named_first before spelled in
    past_tail tail behind rest found before.apart found_last
    (after_first mark tail x rest first.front behind marked lacks (first.first x rest side) (sym side ∙ first.spelled))
