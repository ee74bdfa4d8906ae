-- Groups, by what selectors see of pods. For `groups_of`, `seen_of_workloads` and crates above.
use Rattle.std.proofs.Common.{◌≡◌, ℕ, ◌+◌, ◌<◌, List, [], ◌∷◌, ◌++◌, true, false, Option, Some, None, map, length, slice_get, refl, sym, ap, ◌∙◌, zero-add}
use Rattle.std.specs.Bool.{Decides}
use Rattle.std.specs.Cmp.{Equal-is}
use Rattle.std.specs.Cmp.Lexicographic.{bytes_decides}
use Rattle.std.specs.List.{filter_map, list_all}
use Rattle.std.specs.Option.{option_eq, option_map}
use Rattle.std.specs.Ordering.{is_eq}
use Rattle.std.specs.Str.{bytes_eq}
use Rattle.std.proofs.lemmas.Bool.Decides.{Decides-and, Decides-like, same_from_decides}
use Rattle.std.proofs.lemmas.List.{length-map, map-append}
use Rattle.std.proofs.lemmas.List.FromFn.{get_or-range_with_len, length-range_with_len}
use Rattle.std.proofs.lemmas.Option.{same_Some, slice_get-get_or, slice_get-map}
use Rattle.np_classes.proofs.Lists.{All-places, map_agree_on, places_more}
use Rattle.np_classes.proofs.Relations.{class_of_agree, firsts_agree}
use Rattle.np_classes.specs.Classes.{IsAlike, class_of, firsts, keys_tie, places}
use Rattle.np_flatten.specs.Prelude.{EstateLists, Traits, are_together, ends_have_same_value, group_firsts, group_of, look_alike, relevant, seen, seen_at}
use Rattle.np_fold.proofs.LabelLemmas.{Decides-listed, labels-from_values, values-from_labels}
use Rattle.np_fold.proofs.OrderLemmas.{ties-equal}
use Rattle.np_fold.specs.Prelude.{compare_traits, label_of}
use Rattle.np_labels.specs.Prelude.{value_of}
use Rattle.np_rules.specs.Prelude.{PodEnd}
use Rattle.np_kinds.specs.Prelude.{first_end, number_of_workloads}

-- ---- what a selector sees

pub values_decide : (a b : Option (List ℕ)) → Decides (option_eq bytes_eq a b) (a ≡ b)
values_decide None None = (λ _. refl, λ _. refl)
values_decide None (Some y) = (λ is. let never : false ≡ true = is in cc, λ same. cc)
values_decide (Some x) None = (λ is. let never : false ≡ true = is in cc, λ same. cc)
values_decide (Some x) (Some y) = Decides-like (bytes_eq x y) (ap Some) (same_Some x y) (bytes_decides x y)

labels_all : (keys : List (List ℕ)) (p q : PodEnd) → Decides (list_all (ends_have_same_value p q) keys) (filter_map (label_of p.labels) keys ≡ filter_map (label_of q.labels) keys)
labels_all keys p q =
    Decides-like (list_all (ends_have_same_value p q) keys) (labels-from_values p.labels q.labels keys) (values-from_labels p.labels q.labels keys)
    (Decides-listed (ends_have_same_value p q) (λ key. value_of p.labels key ≡ value_of q.labels key) (λ key. values_decide (value_of p.labels key) (value_of q.labels key)) keys)

-- pods look alike where the same is seen of them
pub look_decides : (keys : List (List ℕ)) (p q : PodEnd) → Decides (look_alike keys p q) (seen keys p ≡ seen keys q)
look_decides keys p q =
    Decides-like (look_alike keys p q)
    (λ same. rw (same.0, same.1) refl)
    (λ equal. (ap (λ (t : Traits). t.namespace) equal, ap (λ (t : Traits). t.labels) equal))
    (Decides-and (bytes_eq p.namespace q.namespace) (list_all (ends_have_same_value p q) keys) (bytes_decides p.namespace q.namespace) (labels_all keys p q))

ties_decide : (x y : Traits) → Decides (is_eq (compare_traits x y)) (x ≡ y)
ties_decide x y = Decides-like (is_eq (compare_traits x y)) (ties-equal x y).0 (ties-equal x y).1 (Equal-is (compare_traits x y))

-- and where it ties
tie-look : (keys : List (List ℕ)) (p q : PodEnd) → is_eq (compare_traits (seen keys p) (seen keys q)) ≡ look_alike keys p q
tie-look keys p q = same_from_decides (is_eq (compare_traits (seen keys p) (seen keys q))) (look_alike keys p q) (ties_decide (seen keys p) (seen keys q)) (look_decides keys p q)

-- ---- workloads

-- the place at a place is itself
pub get-places : (n k : ℕ) → k < n → slice_get (places n) k ≡ Some k
get-places n k below =
    slice_get-get_or (places n) k 0 (rw (length-range_with_len 0 n) below)
    ∙ ap (λ (m : ℕ). Some m) (get_or-range_with_len 0 n k 0 below ∙ zero-add k)

pub get-map : {X : Type 0} (f : ℕ → X) (n k : ℕ) → k < n → slice_get (map f (places n)) k ≡ Some (f k)
get-map f n k below = slice_get-map f (places n) k ∙ ap (option_map f) (get-places n k below)

-- one more value of a function of places
pub one_more : {X : Type 0} (f : ℕ → X) (n : ℕ) (made : List X) (x : X) → made ≡ map f (places n) → x ≡ f n → made ++ x ∷ [] ≡ map f (places (n + 1))
one_more f n made x so_far here = rw (so_far, here) (sym (ap (map f) (places_more n) ∙ map-append f (places n) (n ∷ [])))

-- being of one group is a relation of classes
pub together-is : (lists : EstateLists) (count : ℕ) → IsAlike (are_together lists) count
unfolding are_together
together-is lists count = record {
  itself = λ a _. (look_decides (relevant lists) (first_end lists a) (first_end lists a)).1 refl;
  both_ways = λ a b _ _ tied. (look_decides (relevant lists) (first_end lists b) (first_end lists a)).1 (sym ((look_decides (relevant lists) (first_end lists a) (first_end lists b)).0 tied));
  onward = λ a b c _ _ _ near far. (look_decides (relevant lists) (first_end lists a) (first_end lists c)).1
      ((look_decides (relevant lists) (first_end lists a) (first_end lists b)).0 near ∙ (look_decides (relevant lists) (first_end lists b) (first_end lists c)).0 far);
}

-- what is seen of workloads ties where they are of one group
seen_ties : (lists : EstateLists) (a b : ℕ) → a < number_of_workloads lists → b < number_of_workloads lists →
    keys_tie compare_traits (map (seen_at lists) (places (number_of_workloads lists))) a b ≡ are_together lists a b
unfolding are_together
seen_ties lists a b a_in b_in =
    rw (get-map (seen_at lists) (number_of_workloads lists) a a_in, get-map (seen_at lists) (number_of_workloads lists) b b_in)
    (tie-look (relevant lists) (first_end lists a) (first_end lists b))

pub seen-count : (lists : EstateLists) → length (map (seen_at lists) (places (number_of_workloads lists))) ≡ number_of_workloads lists
seen-count lists = length-map (places (number_of_workloads lists)) (seen_at lists) ∙ length-range_with_len 0 (number_of_workloads lists)

-- so their classes are the groups
pub classes-firsts : (lists : EstateLists) (made : List Traits) → made ≡ map (seen_at lists) (places (number_of_workloads lists)) →
    firsts (keys_tie compare_traits made) (length made) ≡ group_firsts lists
classes-firsts lists made is =
    ap (λ (all : List Traits). firsts (keys_tie compare_traits all) (length all)) is
    ∙ ap (firsts (keys_tie compare_traits (map (seen_at lists) (places (number_of_workloads lists))))) (seen-count lists)
    ∙ firsts_agree (keys_tie compare_traits (map (seen_at lists) (places (number_of_workloads lists)))) (are_together lists) (number_of_workloads lists) (seen_ties lists)

pub classes-numbers : (lists : EstateLists) (made : List Traits) → made ≡ map (seen_at lists) (places (number_of_workloads lists)) →
    map (class_of (keys_tie compare_traits made) (length made)) (places (length made)) ≡ map (group_of lists) (places (number_of_workloads lists))
classes-numbers lists made is =
    let of : List Traits → List ℕ = λ all. map (class_of (keys_tie compare_traits all) (length all)) (places (length all)) in
    let by : ℕ → List ℕ = λ n. map (class_of (keys_tie compare_traits (map (seen_at lists) (places (number_of_workloads lists)))) n) (places n) in
    ap of is
    ∙ ap by (seen-count lists)
    ∙ map_agree_on (class_of (keys_tie compare_traits (map (seen_at lists) (places (number_of_workloads lists)))) (number_of_workloads lists)) (group_of lists) (places (number_of_workloads lists))
    (All-places (λ (k : ℕ). class_of (keys_tie compare_traits (map (seen_at lists) (places (number_of_workloads lists)))) (number_of_workloads lists) k ≡ group_of lists k) (number_of_workloads lists)
    (λ k below. class_of_agree (keys_tie compare_traits (map (seen_at lists) (places (number_of_workloads lists)))) (are_together lists) (number_of_workloads lists) (seen_ties lists) k below))
