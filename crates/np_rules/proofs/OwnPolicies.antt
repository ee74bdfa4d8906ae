-- The policies of one namespace, which stand together, and what they say of its pods.
-- For `isolates_pod`, `isolating_policies` and `own_policies`.
use Rattle.std.proofs.Common.{◌≡◌, ℕ, zero, suc, ◌+◌, ◌<◌, ◌≤◌, List, [], ◌∷◌, ◌++◌, Bool, true, false, length, take, drop, get_or, filter, slice_get, refl, sym, ap, subst, ◌∙◌, arith}
use Rattle.std.specs.Prelude.{AllPairs, IsTrue}
use Rattle.std.specs.Cmp.Lexicographic.{slice_cmp, nat_list_cmp_total}
use Rattle.std.specs.List.Sorted.{IsNonDecreasingBy, IsPartitionPoint, IsPartitionedBy, IsSortedBy}
use Rattle.std.specs.Ordering.{nat_cmp, is_eq, is_lt, is_le, ordering_index, ordering_reverse}
use Rattle.std.specs.declared.cmp.Ordering.{Ordering}
use Rattle.std.specs.declared.cmp.Ordering.TheVariants.{Less, Equal, Greater}
use Rattle.std.specs.Str.{bytes_eq}
use Rattle.std.proofs.lemmas.Bool.{false≢true}
use Rattle.std.proofs.lemmas.List.{append-nil, get_or-drop, get_or-take, length-drop, length-take-le, take-append-drop}
use Rattle.std.proofs.lemmas.List.Elements.{filter-append}
use Rattle.std.proofs.lemmas.List.Sorted.{searchable_from_sorted}
use Rattle.std.proofs.lemmas.Map.Text.{is_eq-slice_cmp}
use Rattle.np_model.specs.Prelude.{PolicyStandsBefore, decides_before}
use Rattle.np_rules.specs.Prelude.{Direction, NetPolicy, PodEnd, is_isolated, isolates}
use Rattle.np_rules.proofs.FilterLemmas.{any_kept, filter_kept}

-- ---- what they say of the pods of the namespace

-- those of them that isolate a pod are all that do
pub own-isolating : (direction : Direction) (p : PodEnd) (policies : List NetPolicy) →
    filter (isolates direction p) (filter (λ policy. bytes_eq policy.namespace p.namespace) policies) ≡ filter (isolates direction p) policies
own-isolating direction p policies = filter_kept (isolates direction p) (λ policy. bytes_eq policy.namespace p.namespace) policies (λ policy other. rw other refl)

pub own-is_isolated : (direction : Direction) (p : PodEnd) (policies : List NetPolicy) →
    is_isolated (filter (λ policy. bytes_eq policy.namespace p.namespace) policies) direction p ≡ is_isolated policies direction p
own-is_isolated direction p policies = any_kept (isolates direction p) (λ policy. bytes_eq policy.namespace p.namespace) policies (λ policy other. rw other refl)

-- ---- they stand together

-- how the namespace of a policy compares with another
abbrev pub compared : List ℕ → NetPolicy → Ordering
compared namespace policy = slice_cmp nat_cmp policy.namespace namespace

module _ (policies : List NetPolicy) (ascending : AllPairs PolicyStandsBefore policies) (namespace : List ℕ) where
  not_lower : IsSortedBy (λ (a b : NetPolicy). is_lt (slice_cmp nat_cmp a.namespace b.namespace)) policies
  not_lower k d low high = ap is_lt (nat_list_cmp_total.antisymm (get_or policies (k + 1) d).namespace (get_or policies k d).namespace) ∙ turned _ _ (ascending k (k + 1) d (omega arith) high)
    where
      turned : (first second : Ordering) → IsTrue (decides_before first second) → is_lt (ordering_reverse first) ≡ false
      turned Less second before = refl
      turned Equal second before = refl
      turned Greater Less before = absurd (false≢true before)
      turned Greater Equal before = absurd (false≢true before)
      turned Greater Greater before = absurd (false≢true before)

  -- the comparisons with a namespace rise along the policies
  rising : IsNonDecreasingBy (λ (policy : NetPolicy). ordering_index (compared namespace policy)) policies
  rising = searchable_from_sorted nat_list_cmp_total (λ (policy : NetPolicy). policy.namespace) policies namespace not_lower

  -- those below the namespace come first
  pub lower-first : IsPartitionedBy (λ (policy : NetPolicy). is_lt (compared namespace policy)) policies
  lower-first i j d before within = lower (compared namespace (get_or policies i d)) (compared namespace (get_or policies j d)) (rising i j d before within)
    where
      lower : (a b : Ordering) → ordering_index a ≤ ordering_index b → is_lt b ≡ true → is_lt a ≡ true
      lower Less b least is = refl
      lower Equal Less least is = absurd (omega (arith, least))
      lower Greater Less least is = absurd (omega (arith, least))
      lower Equal Equal least is = absurd (false≢true is)
      lower Equal Greater least is = absurd (false≢true is)
      lower Greater Equal least is = absurd (false≢true is)
      lower Greater Greater least is = absurd (false≢true is)

  -- those up to the namespace come first, from any place on
  pub upto-first : (first : ℕ) → IsPartitionedBy (λ (policy : NetPolicy). is_le (compared namespace policy)) (drop first policies)
  upto-first first i j d before within is =
      let place : ℕ → NetPolicy = λ n. get_or policies (first + n) d in
      ap (λ (policy : NetPolicy). is_le (compared namespace policy)) (get_or-drop first policies i d)
      ∙ upto (compared namespace (place i)) (compared namespace (place j)) (rising (first + i) (first + j) d (omega arith) (let length_is = length-drop first policies in omega arith))
      (ap (λ (policy : NetPolicy). is_le (compared namespace policy)) (sym (get_or-drop first policies j d)) ∙ is)
    where
      upto : (a b : Ordering) → ordering_index a ≤ ordering_index b → is_le b ≡ true → is_le a ≡ true
      upto Less b least is = refl
      upto Equal b least is = refl
      upto Greater Less least is = absurd (omega (arith, least))
      upto Greater Equal least is = absurd (omega (arith, least))
      upto Greater Greater least is = absurd (false≢true is)

none_pass : {X : Type 0} (p : X → Bool) (xs : List X) → ((k : ℕ) (d : X) → k < length xs → p (get_or xs k d) ≡ false) → filter p xs ≡ []
none_pass p [] none = refl
none_pass p (x ∷ xs) none = rw (none 0 x (omega arith)) (none_pass p xs (λ k d within. none (suc k) d (omega arith)))

all_pass : {X : Type 0} (p : X → Bool) (xs : List X) → ((k : ℕ) (d : X) → k < length xs → p (get_or xs k d) ≡ true) → filter p xs ≡ xs
all_pass p [] all = refl
all_pass {X} p (x ∷ xs) all = rw (all 0 x (omega arith)) (ap (λ (ys : List X). x ∷ ys) (all_pass p xs (λ k d within. all (suc k) d (omega arith))))

not_equal-lower : (o : Ordering) → is_lt o ≡ true → is_eq o ≡ false
not_equal-lower Less is = refl
not_equal-lower Equal is = absurd (false≢true is)
not_equal-lower Greater is = refl

not_equal-higher : (o : Ordering) → is_le o ≡ false → is_eq o ≡ false
not_equal-higher Less is = refl
not_equal-higher Equal is = absurd (false≢true (sym is))
not_equal-higher Greater is = refl

equal-between : (o : Ordering) → is_lt o ≡ false → is_le o ≡ true → is_eq o ≡ true
equal-between Less lower upto = absurd (false≢true (sym lower))
equal-between Equal lower upto = refl
equal-between Greater lower upto = absurd (false≢true upto)

-- those between the two places that searches by halves gave are the policies of the namespace
pub own-between : (policies : List NetPolicy) (namespace : List ℕ) (first count : ℕ) → first ≤ length policies → count ≤ length (drop first policies) →
    IsPartitionPoint (λ policy. is_lt (compared namespace policy) ≡ true) (λ policy. is_lt (compared namespace policy) ≡ false) policies first →
    IsPartitionPoint (λ policy. is_le (compared namespace policy) ≡ true) (λ policy. is_le (compared namespace policy) ≡ false) (drop first policies) count →
    take count (drop first policies) ≡ filter (λ policy. bytes_eq policy.namespace namespace) policies
own-between policies namespace first count within within' lower upto =
    sym (
    ap (filter own) (sym (take-append-drop first policies))
    ∙ filter-append own (take first policies) (drop first policies)
    ∙ ap (λ (front : List NetPolicy). front ++ filter own (drop first policies)) (none_pass own (take first policies) front)
    ∙ ap (filter own) (sym (take-append-drop count (drop first policies)))
    ∙ filter-append own (take count (drop first policies)) (drop count (drop first policies))
    ∙ ap (λ (mine : List NetPolicy). mine ++ filter own (drop count (drop first policies))) (all_pass own (take count (drop first policies)) mine)
    ∙ ap (λ (back : List NetPolicy). take count (drop first policies) ++ back) (none_pass own (drop count (drop first policies)) back)
    ∙ append-nil (take count (drop first policies)))
  where
    own : NetPolicy → Bool
    own policy = bytes_eq policy.namespace namespace

    as_compared : (policy : NetPolicy) → own policy ≡ is_eq (compared namespace policy)
    as_compared policy = sym (is_eq-slice_cmp policy.namespace namespace)

    front : (k : ℕ) (d : NetPolicy) → k < length (take first policies) → own (get_or (take first policies) k d) ≡ false
    front k d below =
        let length_is = length-take-le first policies within in
        ap own (get_or-take first policies k d (omega arith)) ∙ as_compared (get_or policies k d) ∙ not_equal-lower _ (lower.0 k d (omega arith) (omega arith))

    mine : (k : ℕ) (d : NetPolicy) → k < length (take count (drop first policies)) → own (get_or (take count (drop first policies)) k d) ≡ true
    mine k d below =
        let length_is = length-take-le count (drop first policies) within' in
        let rest_is = length-drop first policies in
        ap own (get_or-take count (drop first policies) k d (omega arith))
        ∙ as_compared (get_or (drop first policies) k d)
        ∙ equal-between _ (ap (λ (policy : NetPolicy). is_lt (compared namespace policy)) (get_or-drop first policies k d) ∙ lower.1 (first + k) d (omega arith) (omega arith))
        (upto.0 k d (omega arith) (omega arith))

    back : (k : ℕ) (d : NetPolicy) → k < length (drop count (drop first policies)) → own (get_or (drop count (drop first policies)) k d) ≡ false
    back k d below =
        let length_is = length-drop count (drop first policies) in
        ap own (get_or-drop count (drop first policies) k d) ∙ as_compared (get_or (drop first policies) (count + k) d) ∙ not_equal-higher _ (upto.1 (count + k) d (omega arith) (omega arith))

-- the same of what two splits gave
pub own-split : (policies : List NetPolicy) (namespace : List ℕ) (first count : ℕ) (rest own : List NetPolicy) → first ≤ length policies → rest ≡ drop first policies → count ≤ length rest →
    own ≡ take count rest → IsPartitionPoint (λ policy. is_lt (compared namespace policy) ≡ true) (λ policy. is_lt (compared namespace policy) ≡ false) policies first →
    (IsPartitionedBy (λ policy. is_le (compared namespace policy)) rest → IsPartitionPoint (λ policy. is_le (compared namespace policy) ≡ true)
    (λ policy. is_le (compared namespace policy) ≡ false) rest count) →
    ((n : ℕ) → IsPartitionedBy (λ policy. is_le (compared namespace policy)) (drop n policies)) → own ≡ filter (λ policy. bytes_eq policy.namespace namespace) policies
own-split policies namespace first count rest own within rest_is within' own_is lower upto parted =
    own_is
    ∙ ap (take count) rest_is
    ∙ own-between policies namespace first count within (subst (λ (r : List NetPolicy). count ≤ length r) rest_is within') lower
    (subst (λ (r : List NetPolicy). IsPartitionPoint (λ policy. is_le (compared namespace policy) ≡ true) (λ policy. is_le (compared namespace policy) ≡ false) r count) rest_is
    (upto (subst (λ (r : List NetPolicy). IsPartitionedBy (λ policy. is_le (compared namespace policy)) r) (sym rest_is) (parted first))))

-- ---- their places

slice_get-take : {X : Type 0} (n : ℕ) (xs : List X) (k : ℕ) → k < length (take n xs) → slice_get (take n xs) k ≡ slice_get xs k
slice_get-take zero xs k within = absurd (omega arith)
slice_get-take (suc n) [] k within = absurd (omega arith)
slice_get-take (suc n) (x ∷ xs) zero within = refl
slice_get-take (suc n) (x ∷ xs) (suc k) within = slice_get-take n xs k (omega arith)

slice_get-drop : {X : Type 0} (n : ℕ) (xs : List X) (k : ℕ) → slice_get (drop n xs) k ≡ slice_get xs (n + k)
slice_get-drop zero xs k = ap (slice_get xs) (let same : k ≡ 0 + k = omega arith in same)
slice_get-drop (suc n) [] k = refl
slice_get-drop (suc n) (x ∷ xs) k = slice_get-drop n xs k ∙ ap (slice_get (x ∷ xs)) (let same : suc (n + k) ≡ suc n + k = omega arith in same)

-- what stands at a place among those that two splits gave
pub split-place : {X : Type 0} (xs rest own : List X) (first count among : ℕ) → rest ≡ drop first xs → own ≡ take count rest → among < length own →
    slice_get xs (first + among) ≡ slice_get own among
split-place xs rest own first count among is_rest is_own within =
    sym (slice_get-drop first xs among)
    ∙ ap (λ (back : List _). slice_get back among) (sym is_rest)
    ∙ sym (slice_get-take count rest among (rw is_own at within))
    ∙ ap (λ (front : List _). slice_get front among) (sym is_own)
