-- Workloads of one kind are of one group and agree, so the least pair that differs is one of firsts. For `first_unlike` and crates above.
use Rattle.std.proofs.Common.{◌≡◌, ℕ, ◌<◌, ◌^◌, ◌-◌, ◌++◌, List, [], ◌∷◌, Bool, true, ◌||◌, Option, Some, All, map, lit≤, refl, sym, ap, subst, ◌∙◌}
use Rattle.std.specs.Option.{option_map_or}
use Rattle.std.specs.List.{list_all}
use Rattle.std.specs.Str.{bytes_eq}
use Rattle.std.specs.Cmp.Lexicographic.{bytes_decides}
use Rattle.std.proofs.lemmas.Bool.{and_from, not-true}
use Rattle.std.proofs.Math.Bool.{or-true}
use Rattle.np_flatten.specs.Prelude.{AddressRow, Direction, Egress, EstateLists, Family, Four, Ingress, IsLeastUnlike, Pod, PortSpot, Six, are_together, differ, ends_have_same_value, family_of_list, first_pair, first_with, is_defined, is_unlike, look_alike, relevant, set_in, set_of}
use Rattle.np_classes.specs.Classes.{IsAlike, class_of}
use Rattle.np_model.specs.Prelude.{IsLawful}
use Rattle.np_fold.proofs.AlikeLemmas.{kinds-are}
use Rattle.np_fold.proofs.PartLemmas.{keys-agree}
use Rattle.np_fold.proofs.WorkloadLemmas.{first-is, one_kind, workloads-count}
use Rattle.np_fold.specs.Prelude.{IsSameKind, first_pod, folding_of, keys_of_estate, kinds_alike, members_of, with_keys, workload_count}
use Rattle.np_labels.specs.Prelude.{is_listed, value_of}
use Rattle.np_rules.specs.Prelude.{no_pod, pod, pod_at, pod_end}
use Rattle.np_flatten.proofs.AgreeLemmas.{least-first_pair}
use Rattle.np_flatten.proofs.ClassFirsts.{class_first, first-in, first-listed, first-low, first-same, first-twice, first-class, same-first}
use Rattle.np_flatten.proofs.DifferLemmas.{apart-defined, from_agree, own_rows, to_agree}
use Rattle.np_flatten.proofs.GroupLemmas.{together-is, values_decide}
use Rattle.np_kinds.specs.Prelude.{address_allows, first_end, is_alone, number_of_workloads, source_pod}
use Rattle.np_kinds.proofs.KindNumbers.{first_pod-there}
use Rattle.np_kinds.proofs.PairLemmas.{first_there, in_workloads, one_kind-sources, pair_allows-kinds, with_address-same}
use Rattle.np_table.proofs.RangeOneList.{walk-agrees}
use Rattle.np_conns.proofs.ConnLemmas.{conns_of-agrees}
use Rattle.np_table.specs.Prelude.{Stretch, address_row, address_rows, estate_table, four_of, six_of, table_of, walk}

-- ---- counts

count-is : (lists : EstateLists) → number_of_workloads lists ≡ workload_count lists
unfolding folding_of
count-is lists = workloads-count lists

pub in_count : (lists : EstateLists) (w : ℕ) → w < number_of_workloads lists → w < workload_count lists
in_count lists w within = subst (λ (n : ℕ). w < n) (count-is lists) within

from_count : (lists : EstateLists) (w : ℕ) → w < workload_count lists → w < number_of_workloads lists
from_count lists w within = subst (λ (n : ℕ). w < n) (sym (count-is lists)) within

-- ---- keys that selectors name

relevant-is : (lists : EstateLists) → relevant lists ≡ with_keys [] (keys_of_estate lists)
unfolding folding_of
relevant-is lists = refl

-- what is so of each listed key is so of all keys
pub all-listed : (test : List ℕ → Bool) (keys : List (List ℕ)) → ((key : List ℕ) → is_listed keys key ≡ true → test key ≡ true) → list_all test keys ≡ true
all-listed test [] each = refl
all-listed test (first ∷ keys) each =
    and_from (test first) (list_all test keys)
    (each first (ap (λ (b : Bool). b || is_listed keys first) ((bytes_decides first first).1 refl)))
    (all-listed test keys (λ key here. each key (ap (λ (b : Bool). bytes_eq first key || b) here ∙ or-true (bytes_eq first key))))

-- pods of one kind look alike to selectors
pub kind-looks : (lists : EstateLists) (a b : Pod) → IsSameKind lists a b → look_alike (relevant lists) (pod_end a) (pod_end b) ≡ true
kind-looks lists a b kind =
    and_from (bytes_eq a.namespace b.namespace) (list_all (ends_have_same_value (pod_end a) (pod_end b)) (relevant lists))
    ((bytes_decides a.namespace b.namespace).1 kind.namespace)
    (all-listed (ends_have_same_value (pod_end a) (pod_end b)) (relevant lists) (λ key here.
    (values_decide (value_of a.labels key) (value_of b.labels key)).1
    (kind.labels key (sym (keys-agree (relevant lists) (relevant lists) (keys_of_estate lists) refl (relevant-is lists) key) ∙ here))))

-- ---- kinds and groups

abbrev kind : EstateLists → ℕ → ℕ
kind lists = class_of (kinds_alike lists) (workload_count lists)

kinds-is : (lists : EstateLists) → IsAlike (kinds_alike lists) (workload_count lists)
kinds-is lists = kinds-are lists (workload_count lists) (first_pod-there lists)

abbrev kind_first : EstateLists → ℕ → ℕ
kind_first lists = class_first (kinds_alike lists) (workload_count lists) (kinds-is lists)

-- the first pod of a workload, as rules see it
first_end-is : (lists : EstateLists) (w : ℕ) (a : Pod) → w < workload_count lists → first_pod lists w ≡ Some a → first_end lists w ≡ pod_end a
first_end-is lists w a within is =
    ap (λ (found : Option Pod). option_map_or pod_end found no_pod) (first_there (members_of (folding_of lists) w) lists.pods (first_pod lists w) (first-is lists w (in_workloads lists w within)) ∙ is)

-- workloads of one kind are of one group
kind-together : (lists : EstateLists) (x y : ℕ) → x < workload_count lists → y < workload_count lists → kind lists x ≡ kind lists y → are_together lists x y ≡ true
unfolding are_together
kind-together lists x y x_in y_in same =
    let a = first_pod-there lists x x_in in
    let b = first_pod-there lists y y_in in
    rw (first_end-is lists x a.0 x_in a.1, first_end-is lists y b.0 y_in b.1)
    (kind-looks lists a.0 b.0 ((one_kind lists x y a.0 b.0 a.1 b.1).0 same))

by-kinds : (lists : EstateLists) → IsLawful lists → (x x' y y' : ℕ) → x < number_of_workloads lists → x' < number_of_workloads lists → y < number_of_workloads lists → y' < number_of_workloads lists →
    kind lists x ≡ kind lists x' → kind lists y ≡ kind lists y' → is_defined lists x y ≡ true → is_defined lists x' y' ≡ true → set_of lists x y ≡ set_of lists x' y'
unfolding set_in
by-kinds lists lawful x x' y y' x_in x'_in y_in y'_in near far is is' =
    conns_of-agrees _ _ (λ spot _.
    pair_allows-kinds lists x x' y y' (family_of_list lists) spot lawful (in_count lists x x_in) (in_count lists x' x'_in) (in_count lists y y_in) (in_count lists y' y'_in) near far
    (not-true (is_alone (folding_of lists) x y) is) (not-true (is_alone (folding_of lists) x' y') is'))

address-same : (lists : EstateLists) (x x' : ℕ) (direction : Direction) (family : Family) (number : ℕ) (spot : PortSpot) → IsLawful lists → x < workload_count lists → x' < workload_count lists →
    kind lists x ≡ kind lists x' → address_allows lists (folding_of lists) x direction family number spot ≡ address_allows lists (folding_of lists) x' direction family number spot
unfolding address_allows
address-same lists x x' direction family number spot lawful x_in x'_in same =
    with_address-same lists direction (pod (pod_at lists (source_pod (folding_of lists) x))) (pod (pod_at lists (source_pod (folding_of lists) x'))) family number spot
    (one_kind-sources lists x x' lawful x_in x'_in same)

rows-same : (lists : EstateLists) (x x' : ℕ) (direction : Direction) → IsLawful lists → x < workload_count lists → x' < workload_count lists → kind lists x ≡ kind lists x' →
    address_rows (estate_table lists) x direction ≡ address_rows (estate_table lists) x' direction
unfolding address_rows table_of
rows-same lists x x' direction lawful x_in x'_in same =
    let passes : ℕ → Family → ℕ → PortSpot → Bool = λ w. address_allows lists (folding_of lists) w direction in
    let four : walk (passes x Four) 0 (2 ^ 32 - 1) ≡ walk (passes x' Four) 0 (2 ^ 32 - 1) = walk-agrees (passes x Four) (passes x' Four) 0 (2 ^ 32 - 1) (lit≤ tt)
    (λ n spot _ _ _. address-same lists x x' direction Four n spot lawful x_in x'_in same) in
    let six : walk (passes x Six) 0 (2 ^ 128 - 1) ≡ walk (passes x' Six) 0 (2 ^ 128 - 1) = walk-agrees (passes x Six) (passes x' Six) 0 (2 ^ 128 - 1) (lit≤ tt)
    (λ n spot _ _ _. address-same lists x x' direction Six n spot lawful x_in x'_in same) in
    ap (λ (stretches : List Stretch). map (address_row four_of) stretches ++ map (address_row six_of) (walk (passes x Six) 0 (2 ^ 128 - 1))) four
    ∙ ap (λ (stretches : List Stretch). map (address_row four_of) (walk (passes x' Four) 0 (2 ^ 32 - 1)) ++ map (address_row six_of) stretches) six

own-by_kinds : (lists : EstateLists) → IsLawful lists → (x x' : ℕ) → x < number_of_workloads lists → x' < number_of_workloads lists → kind lists x ≡ kind lists x' →
    own_rows lists x ≡ own_rows lists x'
own-by_kinds lists lawful x x' x_in x'_in same =
    ap (λ (rows : List AddressRow). (rows, address_rows (estate_table lists) x Egress)) (rows-same lists x x' Ingress lawful (in_count lists x x_in) (in_count lists x' x'_in) same)
    ∙ ap (λ (rows : List AddressRow). (address_rows (estate_table lists) x' Ingress, rows)) (rows-same lists x x' Egress lawful (in_count lists x x_in) (in_count lists x' x'_in) same)

-- ---- the least pair

kind-listed : (lists : EstateLists) (P : ℕ → Type 0) → All P (folding_of lists).first_of_kinds → (w : ℕ) → w < number_of_workloads lists → P (kind_first lists w)
unfolding folding_of
kind-listed lists P all w within = first-listed (kinds_alike lists) (workload_count lists) (kinds-is lists) P all w (in_count lists w within)

-- the least pair among the firsts of kinds is the first of all pairs of one group that differ
pub unlike-first : (lists : EstateLists) (found : Option (ℕ × ℕ)) → IsLawful lists → IsLeastUnlike lists (folding_of lists).first_of_kinds found →
    found ≡ first_pair (is_unlike lists) (number_of_workloads lists)
unlike-first lists found lawful is =
    let n = number_of_workloads lists in
    let wc = workload_count lists in
    let groups = together-is lists n in
    let kinds = kinds-is lists in
    least-first_pair n (is_defined lists) (set_of lists) (own_rows lists) (kind lists) (apart-defined lists) (by-kinds lists lawful) (own-by_kinds lists lawful)
    (differ lists) (to_agree lists)
    (first_with lists) (first-in (are_together lists) n groups) (first-low (are_together lists) n groups) (first-twice (are_together lists) n groups)
    (kind_first lists)
    (λ w within. from_count lists (kind_first lists w) (first-in (kinds_alike lists) wc kinds w (in_count lists w within)))
    (λ w within. first-low (kinds_alike lists) wc kinds w (in_count lists w within))
    (λ w within. first-class (kinds_alike lists) wc kinds w (in_count lists w within))
    (λ w within.
    let first_within = first-in (kinds_alike lists) wc kinds w (in_count lists w within) in
    first-same (are_together lists) n groups (kind_first lists w) w (from_count lists (kind_first lists w) first_within) within
    (kind-together lists (kind_first lists w) w first_within (in_count lists w within) (first-class (kinds_alike lists) wc kinds w (in_count lists w within))))
    (are_together lists) (from_agree lists) (first-same (are_together lists) n groups) (same-first (are_together lists) n groups)
    (folding_of lists).first_of_kinds (kind-listed lists) found is
