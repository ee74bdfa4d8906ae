-- Steps of a folding: classes, names and kinds. For `Workloads::of_classes`, `classes_of_pods` and 3 more.
use Rattle.std.proofs.Common.{◌≡◌, ℕ, zero, suc, ◌+◌, ◌<◌, List, [], ◌∷◌, ◌++◌, map, length, get_or, take, slice_get, Bool, Option, Some, None, All, refl, sym, ap, subst, ◌∙◌}
use Rattle.std.proofs.lemmas.List.{length-map, map-append, map_more}
use Rattle.std.proofs.lemmas.List.Elements.{All-get_or}
use Rattle.std.proofs.lemmas.Option.{slice_get-get_or}
use Rattle.std.proofs.lemmas.Simd.{map-map}
use Rattle.std.specs.Option.{option_and_then, option_map, option_map_or}
use Rattle.np_fold.specs.Prelude.{Cidr, EstateLists, HaveSame, Named, Pod, Traits, cidrs_of_estate, classes_of_pods, compare_traits, first_kinds, first_pod, first_pods, keys_of_estate, kind_at, kind_traits, kinds_alike, kinds_of_workloads, named_first_pods, nobody, number_among, owner_name, owner_name_at, pods_alike, traits_of, workload_count, workload_number}
use Rattle.np_classes.specs.Classes.{class_of, firsts, keys_tie, places}
use Rattle.np_fold.proofs.AlikeLemmas.{keys_tie-kinds, keys_tie-pods}
use Rattle.np_classes.proofs.Lists.{All-places, map_agree_on}
use Rattle.np_classes.proofs.Relations.{firsts_within}
use Rattle.np_fold.proofs.NumberLemmas.{count-is, named-within, number-rank}
use Rattle.np_labels.specs.Prelude.{is_listed}

-- one more value of a function, at one more item
pub one_more : {X Y : Type 0} (f : X → Y) (xs : List X) (i : ℕ) (d : X) (made : List Y) (y : Y) → i < length xs → made ≡ map f (take i xs) → y ≡ f (get_or xs i d) →
    made ++ y ∷ [] ≡ map f (take (i + 1) xs)
one_more f xs i d made y within so_far here = rw (so_far, here) (sym (map_more f xs i d within))

-- relations with equal answers are one
one_relation : (r other : ℕ → ℕ → Bool) → ((a b : ℕ) → r a b ≡ other a b) → r ≡ other
one_relation r other agree = λ j a b. agree a b j

-- ---- names

-- the name of the owner of the pod at a place that is there
pub owner_name-here : (lists : EstateLists) (place : ℕ) (pod : Pod) → place < length lists.pods → pod ≡ get_or lists.pods place pod → owner_name pod ≡ owner_name_at lists place
owner_name-here lists place pod within is =
    ap owner_name is ∙ sym (ap (λ (found : Option Pod). option_map_or owner_name found []) (slice_get-get_or lists.pods place pod within))

-- ---- classes of pods

module _ (lists : EstateLists) (keys : List (List ℕ)) (same : (key : List ℕ) → is_listed keys key ≡ is_listed (keys_of_estate lists) key) (cidrs : List Cidr)
    (blocks : HaveSame cidrs (cidrs_of_estate lists)) where
  traits_alike : (traits : List Traits) → traits ≡ map (traits_of keys cidrs) lists.pods → keys_tie compare_traits traits ≡ pods_alike lists
  traits_alike traits is =
      ap (keys_tie compare_traits) is
      ∙ one_relation (keys_tie compare_traits (map (traits_of keys cidrs) lists.pods)) (pods_alike lists) (keys_tie-pods lists keys same cidrs blocks)

  traits_count : (traits : List Traits) → traits ≡ map (traits_of keys cidrs) lists.pods → length traits ≡ length lists.pods
  traits_count traits is = ap length is ∙ length-map lists.pods (traits_of keys cidrs)

  pub classes-firsts : (traits : List Traits) → traits ≡ map (traits_of keys cidrs) lists.pods → firsts (keys_tie compare_traits traits) (length traits) ≡ first_pods lists
  classes-firsts traits is = rw (traits_alike traits is, traits_count traits is) refl

  pub classes-numbers : (traits : List Traits) → traits ≡ map (traits_of keys cidrs) lists.pods →
      map (class_of (keys_tie compare_traits traits) (length traits)) (places (length traits)) ≡ classes_of_pods lists
  classes-numbers traits is = rw (traits_alike traits is, traits_count traits is) refl

-- ---- numbers of pods

pub numbers-are : (lists : EstateLists) → map (number_among (named_first_pods lists)) (classes_of_pods lists) ≡ map (workload_number lists) (places (length lists.pods))
numbers-are lists =
    map-map (number_among (named_first_pods lists)) (class_of (pods_alike lists) (length lists.pods)) (places (length lists.pods))
    ∙ map_agree_on (λ place. number_among (named_first_pods lists) (class_of (pods_alike lists) (length lists.pods) place)) (workload_number lists) (places (length lists.pods))
    (All-places (λ place. number_among (named_first_pods lists) (class_of (pods_alike lists) (length lists.pods) place) ≡ workload_number lists place) (length lists.pods)
    (λ place within. sym (number-rank lists place within)))

-- ---- first pods

pub firsts-in : (lists : EstateLists) (pods : List Pod) (firsts : List ℕ) → pods ≡ lists.pods → firsts ≡ first_pods lists → All (λ first. first < length pods) firsts
firsts-in lists pods firsts same is = rw (same, is) (firsts_within (pods_alike lists) (length lists.pods))

pub named-in : (lists : EstateLists) (firsts : List ℕ) (named : List Named) → firsts ≡ first_pods lists → named ≡ named_first_pods lists → All (λ one. one.place < length firsts) named
named-in lists firsts named is named_is = rw (is, named_is) (named-within lists)

-- ---- kinds

-- what is made for a thing whose first pod is there
kind-here : (keys : List (List ℕ)) (cidrs : List Cidr) (pods : List Pod) (firsts : List ℕ) (one : Named) (pod : Pod) → one.place < length firsts → All (λ first. first < length pods) firsts →
    pod ≡ get_or pods (get_or firsts one.place 0) pod → Some (kind_traits keys cidrs pod) ≡ kind_at keys cidrs pods firsts one
kind-here keys cidrs pods firsts one pod known within is =
    let there : get_or firsts one.place 0 < length pods = All-get_or (λ first. first < length pods) firsts one.place 0 known within in
    ap (λ (p : Pod). Some (kind_traits keys cidrs p)) is
    ∙ sym (ap (option_map (kind_traits keys cidrs)) (slice_get-get_or pods (get_or firsts one.place 0) pod there))

-- one more of what is made for things
pub traits-more : (keys : List (List ℕ)) (cidrs : List Cidr) (pods : List Pod) (firsts : List ℕ) (named : List Named) (i : ℕ) (one : Named) (pod : Pod) (made : List Traits) (traits : Traits)
    → All (λ one. one.place < length firsts) named → All (λ first. first < length pods) firsts → i < length named → one ≡ get_or named i one → pod ≡ get_or pods (get_or firsts one.place 0) pod
    → map Some made ≡ map (kind_at keys cidrs pods firsts) (take i named) → traits ≡ kind_traits keys cidrs pod
    → map Some (made ++ traits ∷ []) ≡ map (kind_at keys cidrs pods firsts) (take (i + 1) named)
traits-more keys cidrs pods firsts named i one pod made traits known within below one_is pod_is so_far here =
    let there : one.place < length firsts = subst (λ (other : Named). other.place < length firsts) (sym one_is) (All-get_or (λ other. other.place < length firsts) named i one below known) in
    map-append Some made (traits ∷ [])
    ∙ one_more (kind_at keys cidrs pods firsts) named i one (map Some made) (Some traits) below so_far
    (ap Some here ∙ kind-here keys cidrs pods firsts one pod there within pod_is ∙ ap (kind_at keys cidrs pods firsts) one_is)

-- the value at a number, where all of them are there
value_at-number : {X Y : Type 0} (f : X → Option Y) (xs : List X) (made : List Y) → map Some made ≡ map f xs → (number : ℕ) → slice_get made number ≡ option_and_then f (slice_get xs number)
value_at-number f [] [] is number = refl
value_at-number f [] (y ∷ made) is number = cc
value_at-number f (x ∷ xs) [] is number = cc
value_at-number f (x ∷ xs) (y ∷ made) is zero = cc
value_at-number f (x ∷ xs) (y ∷ made) is (suc number) =
    let others : map Some made ≡ map f xs = cc in
    value_at-number f xs made others number

counts-agree : {X Y : Type 0} (f : X → Option Y) (xs : List X) (made : List Y) → map Some made ≡ map f xs → length made ≡ length xs
counts-agree f [] [] is = refl
counts-agree f [] (y ∷ made) is = cc
counts-agree f (x ∷ xs) [] is = cc
counts-agree f (x ∷ xs) (y ∷ made) is =
    let others : map Some made ≡ map f xs = cc in
    ap suc (counts-agree f xs made others)

module _ (lists : EstateLists) (keys : List (List ℕ)) (same : (key : List ℕ) → is_listed keys key ≡ is_listed (keys_of_estate lists) key) (cidrs : List Cidr)
    (blocks : HaveSame cidrs (cidrs_of_estate lists))
    (made : List Traits) (is : map Some made ≡ map (kind_at keys cidrs lists.pods (first_pods lists)) (named_first_pods lists)) where
  each : (number : ℕ) → slice_get made number ≡ option_map (kind_traits keys cidrs) (first_pod lists number)
  each number =
      value_at-number (kind_at keys cidrs lists.pods (first_pods lists)) (named_first_pods lists) made is number
      ∙ moved (slice_get (named_first_pods lists) number)
    where
      moved : (one : Option Named) →
          option_and_then (kind_at keys cidrs lists.pods (first_pods lists)) one ≡ option_map (kind_traits keys cidrs)
          (option_and_then (λ (one : Named). slice_get lists.pods (get_or (first_pods lists) one.place 0)) one)
      moved None = refl
      moved (Some one) = refl

  made_alike : keys_tie compare_traits made ≡ kinds_alike lists
  made_alike = one_relation (keys_tie compare_traits made) (kinds_alike lists) (keys_tie-kinds lists keys same cidrs blocks nobody made each)

  made_count : length made ≡ workload_count lists
  made_count = counts-agree (kind_at keys cidrs lists.pods (first_pods lists)) (named_first_pods lists) made is ∙ count-is lists

  pub kinds-firsts : firsts (keys_tie compare_traits made) (length made) ≡ first_kinds lists
  kinds-firsts = rw (made_alike, made_count) refl

  pub kinds-numbers : map (class_of (keys_tie compare_traits made) (length made)) (places (length made)) ≡ kinds_of_workloads lists
  kinds-numbers = rw (made_alike, made_count) refl
