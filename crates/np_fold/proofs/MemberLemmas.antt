-- Steps of a folding: workloads by name, with their members. For `Workloads::by_name`, `members_by_name` and `put_last`.
use Rattle.std.proofs.Common.{◌≡◌, ◌≢◌, ℕ, zero, suc, ◌+◌, ◌<◌, List, [], ◌∷◌, ◌++◌, map, length, get_or, slice_get, false, nat_lt, if◌then◌else◌, Option, Some, None, Less, Equal, All, refl, sym, ap, subst, ◌∙◌, arith}
use Rattle.std.proofs.lemmas.Bool.{false_from_ne_true}
use Rattle.std.proofs.lemmas.List.{length-map, map-append}
use Rattle.std.proofs.lemmas.List.Elements.{All-from_recursion, recursion_from_All}
use Rattle.std.proofs.lemmas.List.FromFn.{length-map-range_with_len}
use Rattle.std.specs.Cmp.{tied_itself}
use Rattle.std.specs.Cmp.Lexicographic.{bytes_decides, nat_list_cmp_total, nat_list_eq_equiv, slice_cmp}
use Rattle.std.specs.List.{AllByRecursion, position, position_or_len, range_with_len, zip}
use Rattle.std.specs.List.Sorted.{IsStrictlySortedBy}
use Rattle.std.specs.Map.{keys_of}
use Rattle.std.specs.Ordering.{nat_cmp}
use Rattle.std.specs.Str.{bytes_eq}
use Rattle.std.specs.Prelude.{String}
use Rattle.std.specs.String.{string_bytes, string_eq}
use Rattle.std.specs.declared.alloc.Global.{Global}
use Rattle.indexmap.specs.IndexMap.{insert_entry}
use Rattle.np_classes.specs.Classes.{numbered, places}
use Rattle.np_fold.specs.Prelude.{EstateLists, Folding, Named, Workload, named_first_pods, number_named, workload, workload_number, workload_of, workload_of_entry, workload_of_pair, workloads_of}
use Rattle.np_fold.proofs.NumberLemmas.{members-by_number}

-- ---- the workload of a name

first-by_name : (name : List ℕ) (entries : List (String Global × List ℕ)) →
    position_or_len (λ key. bytes_eq name (string_bytes key)) (keys_of entries) ≡ position_or_len (λ one. bytes_eq one.name name) (map workload_of_entry entries)
first-by_name name [] = refl
first-by_name name (entry ∷ entries) = rw (nat_list_eq_equiv.symm name (string_bytes entry.0), first-by_name name entries) refl

-- a place below a count, if it is one
abbrev below : ℕ → ℕ → Option ℕ
below place count = if nat_lt place count then Some place else None

-- the first entry of a name is the first workload of it
position-by_name : (name : List ℕ) (entries : List (String Global × List ℕ)) →
    position (λ key. bytes_eq name (string_bytes key)) (keys_of entries) ≡ position (λ one. bytes_eq one.name name) (map workload_of_entry entries)
position-by_name name entries =
    ap (λ (count : ℕ). below (position_or_len (λ key. bytes_eq name (string_bytes key)) (keys_of entries)) count) (length-map entries (λ entry. entry.0) ∙ sym (length-map entries workload_of_entry))
    ∙ ap (λ (place : ℕ). below place (length (map workload_of_entry entries))) (first-by_name name entries)

pub number-by_name : (name : List ℕ) (folding : Folding) (entries : List (String Global × List ℕ)) → map workload_of_entry entries ≡ folding.workloads →
    position (λ key. bytes_eq name (string_bytes key)) (keys_of entries) ≡ number_named folding name
number-by_name name folding entries is = position-by_name name entries ∙ ap (position (λ (one : Workload). bytes_eq one.name name)) is

-- ---- a new name goes last

entry-last : (entries : List (String Global × List ℕ)) (key : String Global) (members : List ℕ) → AllByRecursion (λ one. one.name ≢ string_bytes key) (map workload_of_entry entries) →
    insert_entry string_eq entries key members ≡ entries ++ (key, members) ∷ []
entry-last [] key members new = refl
entry-last (entry ∷ entries) key members new =
    let other : string_eq key entry.0 ≡ false = false_from_ne_true _ (λ tied. new.0 (sym ((bytes_decides (string_bytes key) (string_bytes entry.0)).0 tied))) in
    rw (other, entry-last entries key members new.1) refl

pub workload-last : (before after : List (String Global × List ℕ)) (key : String Global) (name members : List ℕ) → string_bytes key ≡ name →
    All (λ one. one.name ≢ name) (map workload_of_entry before) → after ≡ insert_entry string_eq before key members
    → map workload_of_entry after ≡ map workload_of_entry before ++ workload_of name members ∷ []
workload-last before after key name members is new put =
    let other : AllByRecursion (λ one. one.name ≢ string_bytes key) (map workload_of_entry before) = subst (λ (text : List ℕ). AllByRecursion (λ one. one.name ≢ text) (map workload_of_entry before))
    (sym is) (recursion_from_All (λ (one : Workload). one.name ≢ name) (map workload_of_entry before) new) in
    ap (map workload_of_entry) (put ∙ entry-last before key members other)
    ∙ map-append workload_of_entry before ((key, members) ∷ [])
    ∙ ap (λ (text : List ℕ). map workload_of_entry before ++ workload_of text members ∷ []) is

-- ---- workloads in the order of their names

-- names of an ascending list stand below those after them
below-later : (name : List ℕ) (named : List Named) (i : ℕ) (one : Named) → AllByRecursion (λ other. slice_cmp nat_cmp name other ≡ Less) (map (λ other. other.name) named) →
    i < length named → slice_cmp nat_cmp name (get_or named i one).name ≡ Less
below-later name [] i one below within = absurd (omega arith)
below-later name (first ∷ named) zero one below within = below.0
below-later name (first ∷ named) (suc i) one below within = below-later name named i one below.1 (omega arith)

-- so each is new
name-new : (named : List Named) (so_far : List (List ℕ)) (one : Named) → IsStrictlySortedBy (slice_cmp nat_cmp) (map (λ other. other.name) named) → length so_far < length named
    → one ≡ get_or named (length so_far) one → AllByRecursion (λ other. other.name ≢ one.name) (map workload_of_pair (zip named so_far))
unfolding IsStrictlySortedBy
name-new [] so_far one ascending within is = absurd (omega arith)
name-new (first ∷ named) [] one ascending within is = tt
name-new (first ∷ named) (members ∷ so_far) one ascending within is = (apart, name-new named so_far one ascending.1 (omega arith) is)
  where
    apart : first.name ≢ one.name
    apart same =
        let less : slice_cmp nat_cmp first.name (get_or named (length so_far) one).name ≡ Less = below-later first.name named (length so_far) one ascending.0 (omega arith) in
        let tie : slice_cmp nat_cmp first.name first.name ≡ Equal = tied_itself nat_list_cmp_total first.name in
        let other : (get_or named (length so_far) one).name ≡ first.name = ap (λ (o : Named). o.name) (sym is) ∙ sym same in
        let both : slice_cmp nat_cmp first.name (get_or named (length so_far) one).name ≡ Equal = ap (slice_cmp nat_cmp first.name) other ∙ tie in
        cc

-- as many workloads as members so far
workloads-so_far : (named : List Named) (so_far : List (List ℕ)) → length so_far < length named → length (map workload_of_pair (zip named so_far)) ≡ length so_far
workloads-so_far [] so_far within = absurd (omega arith)
workloads-so_far (first ∷ named) [] within = refl
workloads-so_far (first ∷ named) (members ∷ so_far) within = ap suc (workloads-so_far named so_far (omega arith))

pub entries-so_far : (named : List Named) (so_far : List (List ℕ)) (entries : List (String Global × List ℕ)) → map workload_of_entry entries ≡ map workload_of_pair (zip named so_far)
    → length so_far < length named → length entries ≡ length so_far
entries-so_far named so_far entries made within = sym (length-map entries workload_of_entry) ∙ ap length made ∙ workloads-so_far named so_far within

-- as many lists of members as things
pub members-count : (numbers : List ℕ) (named items : List Named) (members : List (List ℕ)) → members ≡ map (numbered numbers) (places (length items)) → items ≡ named → length members ≡ length named
members-count numbers named items members are is = ap length are ∙ length-map-range_with_len (numbered numbers) 0 (length items) ∙ ap length is

-- members as they are
pub members-same : (members : List (List ℕ)) → map (λ (one : List ℕ). one) members ≡ members
members-same [] = refl
members-same (first ∷ members) = ap (λ (others : List (List ℕ)). first ∷ others) (members-same members)

-- no members make no workloads
pub no-workloads : (named : List Named) → map workload_of_pair (zip {X = List ℕ} named []) ≡ []
no-workloads [] = refl
no-workloads (first ∷ named) = refl

-- one more workload
pub workloads-more : (named : List Named) (so_far : List (List ℕ)) (members : List ℕ) (one : Named) → length so_far < length named → one ≡ get_or named (length so_far) one →
    map workload_of_pair (zip named so_far) ++ workload_of one.name members ∷ [] ≡ map workload_of_pair (zip named (so_far ++ members ∷ []))
workloads-more [] so_far members one within is = absurd (omega arith)
workloads-more (first ∷ named) [] members one within is =
    ap (λ (other : Named). workload_of other.name members ∷ []) is ∙ ap (λ (others : List Workload). workload_of first.name members ∷ others) (sym (no-workloads named))
workloads-more (first ∷ named) (earlier ∷ so_far) members one within is =
    ap (λ (others : List Workload). workload_of first.name earlier ∷ others) (workloads-more named so_far members one (omega arith) is)

-- the next name is none of those so far
pub next-new : (named : List Named) (so_far : List (List ℕ)) (workloads : List Workload) (one : Named) → IsStrictlySortedBy (slice_cmp nat_cmp) (map (λ other. other.name) named)
    → workloads ≡ map workload_of_pair (zip named so_far) → length so_far < length named → one ≡ get_or named (length so_far) one → All (λ other. other.name ≢ one.name) workloads
next-new named so_far workloads one ascending made within is =
    subst (All (λ other. other.name ≢ one.name)) (sym made)
    (All-from_recursion (λ (other : Workload). other.name ≢ one.name) (map workload_of_pair (zip named so_far)) (name-new named so_far one ascending within is))

-- ---- all workloads

zip-places : {X Y Z : Type 0} (f : ℕ → Y) (g : X → Z) (h : X × Y → Z) (xs : List X) (start : ℕ) → ((i place : ℕ) (x : X) → slice_get xs i ≡ Some x → place ≡ start + i → h (x, f place) ≡ g x) →
    map h (zip xs (map f (range_with_len start (length xs)))) ≡ map g xs
zip-places f g h [] start each = refl
zip-places f g h (x ∷ xs) start each =
    rw (each 0 start x refl (omega arith), zip-places f g h xs (start + 1) (λ i place y at is. each (suc i) place y at (omega (arith, is)))) refl

pub workloads-are : (lists : EstateLists) →
    map workload_of_pair (zip (named_first_pods lists) (map (numbered (map (workload_number lists) (places (length lists.pods)))) (places (length (named_first_pods lists))))) ≡ workloads_of lists
unfolding workloads_of
workloads-are lists =
    zip-places (numbered (map (workload_number lists) (places (length lists.pods)))) (workload lists) workload_of_pair (named_first_pods lists) 0
    (λ number place one at is. ap (workload_of one.name) (sym (members-by_number lists number one at ∙ ap (numbered (map (workload_number lists) (places (length lists.pods)))) (number_is number place is))))
  where
    number_is : (number place : ℕ) → place ≡ 0 + number → number ≡ place
    number_is number place is = omega (arith, is)
