-- What two lists of ranges share. For `meet_ranges` and `take_overlap`.
use Rattle.std.proofs.Common.{◌≡◌, ℕ, ◌+◌, ◌≤◌, List, [], ◌∷◌, ◌++◌, Bool, true, false, ◌||◌, ◌&&◌, Option, Some, None, refl, sym, arith, inl, inr, ◌∙◌, append-nil}
use Rattle.std.specs.Prelude.{IfSome, option_to_list, ◌⊎◌}
use Rattle.std.proofs.lemmas.Bool.{and_parts, both_ways}
use Rattle.std.proofs.lemmas.Bool.Decides.{nat_tests}
use Rattle.std.proofs.Math.Bool.{or-false}
use Rattle.np_base.specs.Ranges.{is_within, holds, IsAscending}
use Rattle.np_base.specs.declared.range.Range.{Range}
use Rattle.np_base.proofs.Ranges.{holds-before, is_within-inside, IsAscending-earlier}
use Rattle.np_sets.specs.Growing.{IsAscendingUpTo}
use Rattle.np_sets.specs.Laws.{holds-from, within-end}
use Rattle.np_sets.specs.Steps.{IsShared, IsOverlap}
use Rattle.np_sets.proofs.Growing.{IsAscendingUpTo-push, IsAscending-from_up_to}
use Rattle.np_sets.proofs.Members.{holds-push}

-- the shared range has what both ranges have
holds-shared : {P : Type 0} (number_of : P → ℕ) (left right : Range P) (range : Option (Range P)) (n : ℕ) → IsShared number_of left right range →
    holds number_of (option_to_list range) n ≡ (is_within number_of left n && is_within number_of right n)
holds-shared number_of left right None n shares = grind (arith, nat_tests)
holds-shared number_of left right (Some range) n shares = grind (arith, nat_tests)

-- and ends within them
shared-filled : {P : Type 0} (number_of : P → ℕ) (left right : Range P) (range : Option (Range P)) (high : ℕ) → IsShared number_of left right range → number_of left.hi ≤ high →
    IfSome range (λ shared. (number_of shared.lo ≤ number_of shared.hi) × (number_of shared.hi ≤ high))
shared-filled number_of left right None high shares within = tt
shared-filled number_of left right (Some range) high shares within = (shares.2, omega arith)

-- numbers past the end of either range are past the shared one
shared-past : {P : Type 0} (number_of : P → ℕ) (left right : Range P) (range : Option (Range P)) (end : ℕ) (both : ℕ → Bool) → IsShared number_of left right range →
    ((number_of left.hi ≤ end) ⊎ (number_of right.hi ≤ end)) → ((n : ℕ) → both n ≡ true → end + 2 ≤ n) → IfSome range (λ shared. (n : ℕ) → both n ≡ true → number_of shared.hi + 2 ≤ n)
shared-past number_of left right None end both shares ends past = tt
shared-past number_of left right (Some range) end both shares ends past = λ n held. let after : end + 2 ≤ n = past n held in grind arith

share_left : (a b c d : Bool) → (a ≡ true → d ≡ false) → ((a || b) && (c || d)) ≡ ((a && c) || (b && (c || d)))
share_left true b true d apart = refl
share_left true true false d apart = refl
share_left true false false d apart = apart refl
share_left false b c d apart = refl

share_right : (a b c d : Bool) → (c ≡ true → b ≡ false) → ((a || b) && (c || d)) ≡ ((a && c) || ((a || b) && d))
share_right true b true d apart = refl
share_right true b false d apart = refl
share_right false true true d apart = absurd (both_ways true (apart refl) refl)
share_right false false true d apart = refl
share_right false b false d apart = refl

-- the first range of the left list ends first
pub IsOverlap-left : {P : Type 0} (number_of : P → ℕ) (low high : ℕ) (left right : List (Range P)) (a b : Range P) (a_rest b_rest : List (Range P)) (range : Option (Range P)) → left ≡ a ∷ a_rest →
    right ≡ b ∷ b_rest → IsAscending number_of low high left → IsAscending number_of low high right → IsShared number_of a b range → number_of a.hi ≤ number_of b.hi →
    IsOverlap number_of low high left right range a_rest right
IsOverlap-left number_of low high left right a b a_rest b_rest range is_left is_right in_left in_right shares ends =
    let in_a = rw is_left at in_left in
    let in_b = rw is_right at in_right in
    record {
      shorter = rw is_left (omega arith);
      members = λ n. rw (is_left, is_right, holds-shared number_of a b range n shares)
          (share_left (is_within number_of a n) (holds number_of a_rest n) (is_within number_of b n) (holds number_of b_rest n)
          (λ held. holds-before number_of (number_of b.hi + 2) high b_rest n in_b.3 (omega (arith, within-end number_of a n held))));
      left_ascends = IsAscending-earlier number_of (number_of a.hi + 2) low high a_rest (omega (arith, in_a.0, in_a.1)) in_a.3;
      right_ascends = in_right;
      filled = shared-filled number_of a b range high shares in_a.2;
      past = shared-past number_of a b range (number_of a.hi) (λ n. holds number_of a_rest n && holds number_of right n) shares (inl (omega arith))
          (λ n held. holds-from number_of (number_of a.hi + 2) high a_rest n in_a.3 (and_parts _ _ held).0);
    }

-- the first range of the right list ends first
pub IsOverlap-right : {P : Type 0} (number_of : P → ℕ) (low high : ℕ) (left right : List (Range P)) (a b : Range P) (a_rest b_rest : List (Range P)) (range : Option (Range P)) → left ≡ a ∷ a_rest →
    right ≡ b ∷ b_rest → IsAscending number_of low high left → IsAscending number_of low high right → IsShared number_of a b range → number_of b.hi ≤ number_of a.hi →
    IsOverlap number_of low high left right range left b_rest
IsOverlap-right number_of low high left right a b a_rest b_rest range is_left is_right in_left in_right shares ends =
    let in_a = rw is_left at in_left in
    let in_b = rw is_right at in_right in
    record {
      shorter = rw is_right (omega arith);
      members = λ n. rw (is_left, is_right, holds-shared number_of a b range n shares)
          (share_right (is_within number_of a n) (holds number_of a_rest n) (is_within number_of b n) (holds number_of b_rest n)
          (λ held. holds-before number_of (number_of a.hi + 2) high a_rest n in_a.3 (omega (arith, within-end number_of b n held))));
      left_ascends = in_left;
      right_ascends = IsAscending-earlier number_of (number_of b.hi + 2) low high b_rest (omega (arith, in_b.0, in_b.1)) in_b.3;
      filled = shared-filled number_of a b range high shares in_a.2;
      past = shared-past number_of a b range (number_of b.hi) (λ n. holds number_of left n && holds number_of b_rest n) shares (inr (omega arith))
          (λ n held. holds-from number_of (number_of b.hi + 2) high b_rest n in_b.3 (and_parts _ _ held).1);
    }

-- no list of ranges is made yet: the first may begin where both lists do
pub past-init : {P : Type 0} (number_of : P → ℕ) (low high : ℕ) (left right made : List (Range P)) → made ≡ [] → IsAscending number_of low high left → (n : ℕ) →
    (holds number_of left n && holds number_of right n) ≡ true → IsAscendingUpTo number_of low high made n
past-init number_of low high left right made none in_left n held = rw none (holds-from number_of low high left n in_left (and_parts _ _ held).0)

-- What is made, with the shared range put last.
pub record IsMadeTo {P : Type 0} (number_of : P → ℕ) (low high : ℕ) (left_rest right_rest made : List (Range P)) (range : Option (Range P)) (made_after : List (Range P)) : Type 0 where
  pub ascends : IsAscending number_of low high made_after
  pub past : (n : ℕ) → (holds number_of left_rest n && holds number_of right_rest n) ≡ true → IsAscendingUpTo number_of low high made_after n
  pub members : (n : ℕ) → holds number_of made_after n ≡ (holds number_of made n || holds number_of (option_to_list range) n)

-- the shared range, if there is one, follows what is made
pub IsMadeTo-push : {P : Type 0} (number_of : P → ℕ) (low high : ℕ) (left right : List (Range P)) (range : Option (Range P)) (left_rest right_rest made made_after : List (Range P)) →
    IsOverlap number_of low high left right range left_rest right_rest → IsAscending number_of low high made →
    ((n : ℕ) → (holds number_of left n && holds number_of right n) ≡ true → IsAscendingUpTo number_of low high made n) → made_after ≡ made ++ option_to_list range →
    IsMadeTo number_of low high left_rest right_rest made range made_after
IsMadeTo-push number_of low high left right None left_rest right_rest made made_after overlap ascends past adds =
    let same : made_after ≡ made = adds ∙ append-nil made in
    record {
      ascends = rw same ascends;
      past = λ n held. rw same (past n (rw (overlap.members n) held));
      members = λ n. rw same (sym (or-false (holds number_of made n)));
    }
IsMadeTo-push number_of low high left right (Some range) left_rest right_rest made made_after overlap ascends past adds =
    let shared = overlap.filled in
    let held : is_within number_of range (number_of range.lo) ≡ true = is_within-inside number_of range (number_of range.lo) (omega arith) shared.0 in
    let before : IsAscendingUpTo number_of low high made (number_of range.lo) = past (number_of range.lo) (rw (overlap.members (number_of range.lo), held)) in
    let follows : (n : ℕ) → number_of range.hi + 2 ≤ n → IsAscendingUpTo number_of low high made_after n = λ n after. rw adds
    (IsAscendingUpTo-push number_of low high n made range before shared.0 shared.1 after) in
    record {
      ascends = IsAscending-from_up_to number_of low high (number_of range.hi + 2) made_after (follows (number_of range.hi + 2) (omega arith));
      past = λ n held. follows n (overlap.past n held);
      members = λ n. rw (adds, holds-push number_of made range n, or-false (is_within number_of range n));
    }
