-- Admin policies of different names have different priorities where no neighbours in their order have one. For OnceLemmas.
use Rattle.std.proofs.Common.{◌≡◌, ◌≢◌, ℕ, ◌<◌, List, [], ◌∷◌, map, Bool, true, false, cond, Some, None, Ordering, Less, Equal, Greater, fold, refl, sym, ap, subst, ◌∙◌, eq-eqb, arith}
use Rattle.std.specs.Prelude.{AllPairs, IsPermutation, ◌==◌, ⊤}
use Rattle.std.specs.Cmp.{IsTotalOrder, Equal-is}
use Rattle.std.specs.Cmp.Lexicographic.{slice_cmp, bytes_decides}
use Rattle.std.specs.List.Sorted.{IsStrictlySortedBy}
use Rattle.std.specs.Map.{keys_of}
use Rattle.std.specs.Ordering.{MatchOrdering, nat_cmp, is_eq, ordering_reverse, ordering_then, eq_by_cmp}
use Rattle.std.proofs.lemmas.Cmp.{nat_cmp_total, nat_list_cmp_total, on_total, then_total, ranked}
use Rattle.std.proofs.lemmas.List.Sorted.{IsPermutation-map, IsPermutation-sym}
use Rattle.std.proofs.lemmas.Map.Keys.{IsDistinct-from_sorted, IsDistinct-IsPermutation}
use Rattle.std.proofs.lemmas.Map.Made.{AllPairs-from_IsDistinct}
use Rattle.std.proofs.lemmas.Map.Text.{is_eq-slice_cmp}
use Rattle.std.proofs.lemmas.Option.{none-some}
use Rattle.std.proofs.lemmas.Simd.{map-map}
use Rattle.np_reading.specs.Prelude.{AdminPolicy, Rank, compare_ranks, first_equal, rank_of, with_rank}
use Rattle.np_reading.proofs.KeptEntries.{keys-kept}
use Rattle.np_reading.proofs.LawfulEntries.{below-trans, sorted-insert_entry}
use Rattle.np_reading.proofs.LawfulPolicies.{nat_cmp-exact}

-- the ranks of admin policies, in their order
abbrev pub ranks : List AdminPolicy → List Rank
ranks admins = map (λ entry. entry.0) (fold with_rank [] admins)

compare_ranks-total : IsTotalOrder compare_ranks
compare_ranks-total = then_total (on_total (λ rank. rank.priority) nat_cmp_total) (on_total (λ rank. rank.name) nat_list_cmp_total)

-- an order that is no tie by the first
both_Equal : (first second : Ordering) → ordering_then first second ≡ Equal → (first ≡ Equal) × (second ≡ Equal)
both_Equal Equal second is = (refl, is)
both_Equal Less second is = cc
both_Equal Greater second is = cc

rank : ℕ → List ℕ → Rank
rank priority name = record { priority = priority; name = name }

compare_ranks-exact : (a b : Rank) → compare_ranks a b ≡ Equal → a ≡ b
unfolding rank
compare_ranks-exact a b is =
    let parts = both_Equal (nat_cmp a.priority b.priority) (slice_cmp nat_cmp a.name b.name) is in
    let named = (bytes_decides a.name b.name).0 (sym (is_eq-slice_cmp a.name b.name) ∙ ap is_eq parts.1) in
    ap (λ (p : ℕ). rank p a.name) (nat_cmp-exact a.priority b.priority parts.0) ∙ ap (λ (n : List ℕ). rank b.priority n) named

-- ---- the order of ranks

sorted-ranks : (entries : List (Rank × ⊤)) (admins : List AdminPolicy) → IsStrictlySortedBy compare_ranks (keys_of entries) → IsStrictlySortedBy compare_ranks (keys_of (fold with_rank entries admins))
sorted-ranks entries [] sorted = sorted
sorted-ranks entries (admin ∷ admins) sorted = sorted-ranks (with_rank entries admin) admins (sorted-insert_entry compare_ranks-total entries (rank_of admin) tt sorted)

-- what comes before by rank, and not at a tie of priorities
first_Less : (a b : Rank) → (a.priority == b.priority) ≡ false → compare_ranks a b ≡ Less → nat_cmp a.priority b.priority ≡ Less
first_Less a b apart below = by (nat_cmp a.priority b.priority) refl below
  where
    by : (o : Ordering) → nat_cmp a.priority b.priority ≡ o → ordering_then o (slice_cmp nat_cmp a.name b.name) ≡ Less → o ≡ Less
    by Less is found = refl
    by Equal is found = let same : (a.priority == b.priority) ≡ true = eq-eqb _ _ (nat_cmp-exact a.priority b.priority is) in cc
    by Greater is found = cc

-- where no neighbours are equal, the priorities ascend
priorities-sorted : (ranks : List Rank) → IsStrictlySortedBy compare_ranks ranks → first_equal ranks ≡ None → IsStrictlySortedBy nat_cmp (map (λ rank. rank.priority) ranks)
unfolding IsStrictlySortedBy
priorities-sorted [] sorted none = tt
priorities-sorted (a ∷ []) sorted none = (tt, tt)
priorities-sorted (a ∷ b ∷ ranks) sorted none = by (a.priority == b.priority) refl none (priorities-sorted (b ∷ ranks) sorted.1)
  where
    priorities : List ℕ
    priorities = map (λ (rank : Rank). rank.priority) ranks

    by : (t : Bool) → (a.priority == b.priority) ≡ t → cond t (Some (a, b)) (first_equal (b ∷ ranks)) ≡ None →
        (first_equal (b ∷ ranks) ≡ None → IsStrictlySortedBy nat_cmp (map (λ rank. rank.priority) (b ∷ ranks))) → IsStrictlySortedBy nat_cmp (map (λ rank. rank.priority) (a ∷ b ∷ ranks))
    by true is found rest = absurd (none-some (a, b) (sym found))
    by false is found rest =
        let later = rest found in
        let here = first_Less a b is sorted.0.0 in
        ((here, below-trans nat_cmp_total a.priority b.priority (map (λ (rank : Rank). rank.priority) ranks) here later.0), later)

-- ---- the priorities of policies

is_eq-flips : (x y : ℕ) → eq_by_cmp nat_cmp x y ≡ eq_by_cmp nat_cmp y x
is_eq-flips x y = ap is_eq (nat_cmp_total.antisymm x y) ∙ by (nat_cmp y x)
  where
    by : (o : Ordering) → is_eq (ordering_reverse o) ≡ is_eq o
    by Less = refl
    by Equal = refl
    by Greater = refl

is_eq-same : (x y : ℕ) → x ≡ y → eq_by_cmp nat_cmp x y ≡ true
is_eq-same x y same = by (nat_cmp x y) (ranked x y (nat_cmp x y) refl)
  where
    by : (o : Ordering) → MatchOrdering o (x < y) (x ≡ y) (y < x) → is_eq o ≡ true
    by Less less = absurd (omega (arith, less, same))
    by Equal equal = refl
    by Greater above = absurd (omega (arith, above, same))

is_eq-exact : (x y : ℕ) → eq_by_cmp nat_cmp x y ≡ true → x ≡ y
is_eq-exact x y is = nat_cmp-exact x y ((Equal-is (nat_cmp x y)).0 is)

pub priorities-apart : (admins : List AdminPolicy) → AllPairs (λ a b. a ≢ b) (map rank_of admins) → first_equal (ranks admins) ≡ None → AllPairs (λ a b. a ≢ b) (map (λ admin. admin.priority) admins)
unfolding IsStrictlySortedBy
priorities-apart admins apart none =
    AllPairs-from_IsDistinct (λ x y. (is_eq-exact x y, is_eq-same x y)) (map (λ admin. admin.priority) admins)
    (IsDistinct-IsPermutation (eq_by_cmp nat_cmp) is_eq-flips (map (λ rank. rank.priority) (ranks admins)) (map (λ admin. admin.priority) admins) moved
    (IsDistinct-from_sorted nat_cmp (map (λ rank. rank.priority) (ranks admins)) (priorities-sorted (ranks admins) (sorted-ranks [] admins tt) none)))
  where
    moved : IsPermutation (map (λ (rank : Rank). rank.priority) (ranks admins)) (map (λ (admin : AdminPolicy). admin.priority) admins)
    moved =
        IsPermutation-sym _ _
        (subst (λ (ps : List ℕ). IsPermutation ps (map (λ (rank : Rank). rank.priority) (ranks admins))) (map-map (λ (rank : Rank). rank.priority) rank_of admins)
        (IsPermutation-map (λ (rank : Rank). rank.priority) _ _ (keys-kept compare_ranks-exact rank_of (λ admin. tt) admins apart)))
