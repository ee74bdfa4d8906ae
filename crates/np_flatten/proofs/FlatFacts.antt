-- What holds of an estate without a fault. For `groups_give_the_sets`.
use Rattle.std.proofs.Common.{◌≡◌, ◌≢◌, ◌⊎◌, ℕ, ◌<◌, List, [], ◌∷◌, Bool, true, false, not, ◌&&◌, ◌||◌, ◌==◌, Contains, Option, Some, None, map, refl, sym, ap, subst, ◌∙◌, inl, inr, arith}
use Rattle.std.specs.List.{AllByRecursion, find, list_any}
use Rattle.std.proofs.lemmas.Bool.{and_from, cases_Bool, cases_eq, cases_order, eqb-true, eq-eqb, lt-ltb, true≢false, not-false, and_parts}
use Rattle.std.proofs.lemmas.List.Elements.{All-contains, All-from_recursion, recursion_from_All}
use Rattle.np_flatten.specs.Prelude.{EstateLists, Family, Four, Six, are_together, differ, fault_by, first_family, first_of_group, first_pair, flat_fault, group_of, is_defined, is_split, is_unlike, receiver_in, set_from, set_in, set_of, two_differ}
use Rattle.np_classes.proofs.Lists.{All-places, any_place}
use Rattle.np_classes.proofs.Relations.{alike_in_class}
use Rattle.np_classes.specs.Classes.{places}
use Rattle.np_conns.specs.Prelude.{Conns, are_same_conns}
use Rattle.np_model.specs.Prelude.{families_of}
use Rattle.np_flatten.proofs.AgreeLemmas.{Agree-sym}
use Rattle.np_flatten.proofs.ClassFirsts.{first-class, first-in}
use Rattle.np_flatten.proofs.DifferLemmas.{Agrees, apart-defined, own_rows, to_agree}
use Rattle.np_flatten.proofs.FirstPairs.{first_pair-from_none}
use Rattle.np_flatten.proofs.GroupLemmas.{together-is}
use Rattle.np_flatten.proofs.GroupSets.{one-set}
use Rattle.np_flatten.proofs.SplitLemmas.{families_cases, two_differ-two}
use Rattle.np_conns.proofs.ConnLemmas.{are_same_conns-Decides}
use Rattle.np_kinds.specs.Prelude.{number_of_workloads}

-- ---- no fault

none_by : (split unlike : Option (ℕ × ℕ)) → fault_by split unlike ≡ None → (split ≡ None) × (unlike ≡ None)
none_by (Some pair) unlike is = absurd (cc)
none_by None (Some pair) is = absurd (cc)
none_by None None is = (refl, refl)

no_pairs : (lists : EstateLists) → flat_fault lists ≡ None → (first_pair (is_split lists) (number_of_workloads lists) ≡ None) × (first_pair (is_unlike lists) (number_of_workloads lists) ≡ None)
unfolding flat_fault
no_pairs lists fine = none_by (first_pair (is_split lists) (number_of_workloads lists)) (first_pair (is_unlike lists) (number_of_workloads lists)) fine

-- no two workloads of one group differ
lesser : (lists : EstateLists) (a b : ℕ) → flat_fault lists ≡ None → a < number_of_workloads lists → b < number_of_workloads lists → a < b → group_of lists a ≡ group_of lists b → Agrees lists a b
lesser lists a b fine a_in b_in less same =
    let together : are_together lists a b ≡ true = alike_in_class (are_together lists) (number_of_workloads lists) (together-is lists (number_of_workloads lists)) a b a_in b_in same in
    let unlike : is_unlike lists a b ≡ false = first_pair-from_none (is_unlike lists) (number_of_workloads lists) (no_pairs lists fine).1 a b a_in b_in in
    let plain : differ lists a b ≡ false = rw (lt-ltb a b less, together) at unlike in
    to_agree lists a b a_in b_in (λ one. omega (arith, less, one)) plain

pub all-agree : (lists : EstateLists) → flat_fault lists ≡ None → (a b : ℕ) → a < number_of_workloads lists → b < number_of_workloads lists → a ≢ b → group_of lists a ≡ group_of lists b →
    Agrees lists a b
all-agree lists fine a b a_in b_in apart same =
    elim (cases_order a b) [
      | inl one ↦ absurd (apart one)
      | inr (inl less) ↦ lesser lists a b fine a_in b_in less same
      | inr (inr more) ↦ Agree-sym (number_of_workloads lists) (is_defined lists) (set_of lists) (own_rows lists) b a (lesser lists b a fine b_in a_in more (sym same))
    ]

-- what passes between two workloads depends on their groups alone
pub group-set : (lists : EstateLists) → flat_fault lists ≡ None → (a a' b b' : ℕ) → a < number_of_workloads lists → a' < number_of_workloads lists → b < number_of_workloads lists →
    b' < number_of_workloads lists → group_of lists a ≡ group_of lists a' → group_of lists b ≡ group_of lists b' → is_defined lists a b ≡ true → is_defined lists a' b' ≡ true →
    set_of lists a b ≡ set_of lists a' b'
group-set lists fine = one-set (number_of_workloads lists) (is_defined lists) (set_of lists) (own_rows lists) (group_of lists) (apart-defined lists) (all-agree lists fine)

-- and so does what passes between a workload and all addresses
pub group-rows : (lists : EstateLists) → flat_fault lists ≡ None → (a b : ℕ) → a < number_of_workloads lists → b < number_of_workloads lists → group_of lists a ≡ group_of lists b →
    own_rows lists a ≡ own_rows lists b
group-rows lists fine a b a_in b_in same =
    elim (cases_eq a b) [
      | inl one ↦ ap (own_rows lists) one
      | inr apart ↦ (all-agree lists fine a b a_in b_in apart same).alone
    ]

-- ---- nothing is split

pub same_sets : (sets : Family → Conns) (families : List Family) → ((family : Family) × (families ≡ family ∷ [])) ⊎ (families ≡ Four ∷ Six ∷ []) → two_differ (map sets families) ≡ false →
    AllByRecursion (λ family. sets family ≡ sets (first_family families)) families
same_sets sets families (inl one) none = subst (λ (fs : List Family). AllByRecursion (λ family. sets family ≡ sets (first_family fs)) fs) (sym one.1) (refl, tt)
same_sets sets families (inr both) none =
    let two : two_differ (sets Four ∷ sets Six ∷ []) ≡ false = subst (λ (fs : List Family). two_differ (map sets fs) ≡ false) both none in
    let same : are_same_conns (sets Four) (sets Six) ≡ true = not-false (are_same_conns (sets Four) (sets Six)) (sym (two_differ-two (sets Four) (sets Six)) ∙ two) in
    subst (λ (fs : List Family). AllByRecursion (λ family. sets family ≡ sets (first_family fs)) fs) (sym both) (refl, (sym ((are_same_conns-Decides (sets Four) (sets Six)).0 same), tt))

-- in each family of the list the same passes
pub family-set : (lists : EstateLists) → flat_fault lists ≡ None → (x y : ℕ) (family : Family) → x < number_of_workloads lists → y < number_of_workloads lists → is_defined lists x y ≡ true →
    Contains (families_of lists.pods) family → set_of lists x y ≡ set_in lists family x y
family-set lists fine x y family x_in y_in is listed =
    let split : is_split lists x y ≡ false = first_pair-from_none (is_split lists) (number_of_workloads lists) (no_pairs lists fine).0 x y x_in y_in in
    let none : two_differ (map (λ one. set_in lists one x y) (families_of lists.pods)) ≡ false = rw is at split in
    let all = same_sets (λ one. set_in lists one x y) (families_of lists.pods) (families_cases lists.pods) none in
    sym (All-contains (λ (one : Family). set_in lists one x y ≡ set_in lists (first_family (families_of lists.pods)) x y) (families_of lists.pods) family
    (All-from_recursion (λ (one : Family). set_in lists one x y ≡ set_in lists (first_family (families_of lists.pods)) x y) (families_of lists.pods) all) listed)

-- ---- the set of a rule

find-some : (p : ℕ → Bool) (n : ℕ) (xs : List ℕ) → AllByRecursion (λ k. k < n) xs → list_any p xs ≡ true → (r : ℕ) × (find p xs ≡ Some r) × (p r ≡ true) × (r < n)
find-some p n [] within any = let never : false ≡ true = any in absurd (cc)
find-some p n (x ∷ xs) within any = by (p x) refl any (find-some p n xs within.1)
  where
    by : (b : Bool) → p x ≡ b → (p x || list_any p xs) ≡ true → (list_any p xs ≡ true → (r : ℕ) × (find p xs ≡ Some r) × (p r ≡ true) × (r < n)) →
        (r : ℕ) × (find p (x ∷ xs) ≡ Some r) × (p r ≡ true) × (r < n)
    by true is some rest = (x, rw is refl, is, within.0)
    by false is some rest = let there = rest (rw is at some) in (there.0, rw is there.1, there.2, there.3)

-- where a workload of a group may be sent to, the first such one is found
found-in : (lists : EstateLists) (source group w : ℕ) → w < number_of_workloads lists → group_of lists w ≡ group → is_defined lists source w ≡ true →
    (r : ℕ) × (receiver_in lists source group ≡ Some r) × (group_of lists r ≡ group) × (is_defined lists source r ≡ true) × (r < number_of_workloads lists)
found-in lists source group w within same is =
    let p : ℕ → Bool = λ workload. group_of lists workload == group && is_defined lists source workload in
    let passes : p w ≡ true = and_from (group_of lists w == group) (is_defined lists source w) (eq-eqb (group_of lists w) group same) is in
    let bounds = recursion_from_All (λ (k : ℕ). k < number_of_workloads lists) (places (number_of_workloads lists))
    (All-places (λ (k : ℕ). k < number_of_workloads lists) (number_of_workloads lists) (λ k below. below)) in
    let there = find-some p (number_of_workloads lists) (places (number_of_workloads lists)) bounds (any_place p (number_of_workloads lists) w within passes) in
    let parts = and_parts (group_of lists there.0 == group) (is_defined lists source there.0) there.2 in
    (there.0, there.1, eqb-true (group_of lists there.0) group parts.0, parts.1, there.3)

-- the first workload of a group is of it
pub first-of : (lists : EstateLists) (x : ℕ) → x < number_of_workloads lists →
    (first_of_group lists (group_of lists x) < number_of_workloads lists) × (group_of lists (first_of_group lists (group_of lists x)) ≡ group_of lists x)
first-of lists x within = (
  first-in (are_together lists) (number_of_workloads lists) (together-is lists (number_of_workloads lists)) x within,
  first-class (are_together lists) (number_of_workloads lists) (together-is lists (number_of_workloads lists)) x within,
)

undefined : (lists : EstateLists) (x y : ℕ) → is_defined lists x y ≡ false → x ≡ y
undefined lists x y not =
    elim (cases_eq x y) [
      | inl same ↦ same
      | inr apart ↦ absurd (true≢false (sym (apart-defined lists x y apart) ∙ not))
    ]

-- some workload of the second group may be sent to by the first workload of the first
witness : (lists : EstateLists) (x y : ℕ) → x < number_of_workloads lists → y < number_of_workloads lists → is_defined lists x y ≡ true →
    (w : ℕ) × (w < number_of_workloads lists) × (group_of lists w ≡ group_of lists y) × (is_defined lists (first_of_group lists (group_of lists x)) w ≡ true)
witness lists x y x_in y_in is =
    let f = first_of_group lists (group_of lists x) in
    elim (cases_Bool (is_defined lists f y)) [
      | inl on ↦ (y, y_in, refl, on)
      | inr off ↦
          let here : f ≡ y = undefined lists f y off in
          let apart : x ≢ y = λ same. true≢false (sym is ∙ ap (λ (n : ℕ). is_defined lists n y) (same ∙ sym here) ∙ off) in
          (x, x_in, sym (first-of lists x x_in).1 ∙ ap (group_of lists) here, apart-defined lists f x (λ same. apart (sym same ∙ here)))
    ]

-- The set of the rule from one group to another is what passes between any two workloads of them.
pub set_from-is : (lists : EstateLists) → flat_fault lists ≡ None → (x y : ℕ) → x < number_of_workloads lists → y < number_of_workloads lists → is_defined lists x y ≡ true →
    set_from lists (group_of lists x) (group_of lists y) ≡ Some (set_of lists x y)
set_from-is lists fine x y x_in y_in is =
    let first = first-of lists x x_in in
    let w = witness lists x y x_in y_in is in
    let r = found-in lists (first_of_group lists (group_of lists x)) (group_of lists y) w.0 w.1 w.2 w.3 in
    rw r.1 (ap (λ (set : Conns). Some set) (group-set lists fine (first_of_group lists (group_of lists x)) x r.0 y first.0 x_in r.4 y_in first.1 r.2 r.3 is))
