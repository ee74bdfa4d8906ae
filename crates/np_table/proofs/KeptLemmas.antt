-- What is kept for kinds. For `RowCache::keep` and `make_places`.
use Rattle.std.proofs.Common.{◌≡◌, ◌<◌, ◌≤◌, ◌+◌, ℕ, zero, suc, List, [], ◌∷◌, ◌++◌, Option, Some, None, is_some, length, set, arith, refl, ap, ◌∙◌, cond}
use Rattle.std.proofs.lemmas.List.Sums.{count_by-le-length, sum_by-cons}
use Rattle.np_table.specs.Prelude.{CachedConns, CachesTheSame, cached_at, cached_count}

-- ---- counts by one place

count-some : (conns : List CachedConns) (kept : List (Option (List CachedConns))) → cached_count (Some conns ∷ kept) ≡ 1 + cached_count kept
count-some conns kept = sum_by-cons (λ (found : Option (List CachedConns)). cond (is_some found) 1 0) (Some conns) kept

count-none : (kept : List (Option (List CachedConns))) → cached_count (None ∷ kept) ≡ 0 + cached_count kept
count-none kept = sum_by-cons (λ (found : Option (List CachedConns)). cond (is_some found) 1 0) None kept

-- ---- a place more

cached_at-place : (kept : List (Option (List CachedConns))) (kind : ℕ) → cached_at (kept ++ None ∷ []) kind ≡ cached_at kept kind
cached_at-place [] zero = refl
cached_at-place [] (suc kind) = refl
cached_at-place (found ∷ kept) zero = refl
cached_at-place (found ∷ kept) (suc kind) = cached_at-place kept kind

cached_count-place : (kept : List (Option (List CachedConns))) → cached_count (kept ++ None ∷ []) ≡ cached_count kept
cached_count-place [] = refl
cached_count-place (Some conns ∷ kept) = omega (arith, count-some conns (kept ++ None ∷ []), count-some conns kept, cached_count-place kept)
cached_count-place (None ∷ kept) = omega (arith, count-none (kept ++ None ∷ []), count-none kept, cached_count-place kept)

-- nothing is kept for a kind of which there was no place
pub CachesTheSame-place : (old kept : List (Option (List CachedConns))) → CachesTheSame old kept → CachesTheSame old (kept ++ None ∷ [])
CachesTheSame-place old kept same = record {
  all = λ kind. cached_at-place kept kind ∙ same.all kind;
  count = cached_count-place kept ∙ same.count;
}

-- ---- a kind more

cached_count-set : (kept : List (Option (List CachedConns))) (kind : ℕ) (conns : List CachedConns) → kind < length kept → cached_at kept kind ≡ None →
    cached_count (set kept kind (Some conns)) ≡ cached_count kept + 1
cached_count-set [] kind conns below none = absurd (omega (arith, below))
cached_count-set (Some there ∷ kept) zero conns below none = absurd (cc)
cached_count-set (None ∷ kept) zero conns below none = omega (arith, count-some conns kept, count-none kept)
cached_count-set (Some there ∷ kept) (suc kind) conns below none = omega
    (arith, count-some there (set kept kind (Some conns)), count-some there kept, cached_count-set kept kind conns (omega (arith, below)) none)
cached_count-set (None ∷ kept) (suc kind) conns below none = omega (arith, count-none (set kept kind (Some conns)), count-none kept, cached_count-set kept kind conns (omega (arith, below)) none)

-- where nothing was kept for the kind, there is one more
pub cached_count-more : (old kept : List (Option (List CachedConns))) (kind : ℕ) (conns : List CachedConns) → kind < length kept → CachesTheSame old kept → cached_at old kind ≡ None →
    cached_count (set kept kind (Some conns)) ≡ cached_count old + 1
cached_count-more old kept kind conns below same none =
    cached_count-set kept kind conns below (same.all kind ∙ none) ∙ ap (λ n. n + 1) same.count

-- ---- all kinds

-- for some kind nothing is kept, so not for all
pub cached_count-below : (kept : List (Option (List CachedConns))) (kind kinds : ℕ) → length kept ≤ kinds → kind < kinds → cached_at kept kind ≡ None → cached_count kept < kinds
cached_count-below [] kind kinds few below none = omega (arith, below)
cached_count-below (Some there ∷ kept) zero kinds few below none = absurd (cc)
cached_count-below (None ∷ kept) zero kinds few below none = omega (arith, few, below, count-none kept, count_by-le-length (λ (found : Option (List CachedConns)). is_some found) kept)
cached_count-below (found ∷ kept) (suc kind) zero few below none = absurd (omega (arith, below))
cached_count-below (Some there ∷ kept) (suc kind) (suc kinds) few below none = omega (arith, count-some there kept, cached_count-below kept kind kinds (omega (arith, few)) (omega (arith, below)) none)
cached_count-below (None ∷ kept) (suc kind) (suc kinds) few below none = omega (arith, count-none kept, cached_count-below kept kind kinds (omega (arith, few)) (omega (arith, below)) none)
