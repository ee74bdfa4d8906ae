-- The questions about two pods, and what they say of pods at places. For `the_five_equalities` and crates above.
use Rattle.std.proofs.Common.{◌≡◌, ℕ, ◌<◌, List, map, length, slice_get, Bool, true, false, ◌==◌, Option, Some, None, All, refl, sym, ap, ◌∙◌}
use Rattle.std.specs.Bool.{Decides}
use Rattle.std.specs.Cmp.{Equal-is}
use Rattle.std.specs.Cmp.Lexicographic.{bytes_decides, pointwise, pointwise_decides}
use Rattle.std.specs.List.{list_all}
use Rattle.std.specs.Option.{option_eq, option_map}
use Rattle.std.specs.Ordering.{is_eq}
use Rattle.std.proofs.lemmas.Bool.Decides.{Decides-and, Decides-eqb, Decides-like, same_from_decides}
use Rattle.std.proofs.lemmas.List.Elements.{All-from_recursion, recursion_from_All}
use Rattle.std.proofs.lemmas.Option.{same_Some, slice_get-map}
use Rattle.np_conns.specs.Prelude.{proto_number}
use Rattle.np_base.proofs.Lists.{slice_get-some}
use Rattle.np_classes.specs.Classes.{IsAlike, keys_tie, of_both}
use Rattle.np_fold.specs.Prelude.{Alike, Cidr, EstateLists, HaveSame, IsSameKind, NamedPort, Owner, Pod, Traits, are_alike, are_both_in, are_same_kind, are_same_owner, are_same_port, cidrs_of_estate, compare_traits, first_pod, have_same_value, is_in, keys_of_estate, kinds_alike, nobody, pods_alike, traits_of, with_owner}
use Rattle.np_fold.proofs.BlockLemmas.{agree-from_test, test-from_agree}
use Rattle.np_fold.proofs.LabelLemmas.{Decides-listed}
use Rattle.np_fold.proofs.OrderLemmas.{protos, ties-equal}
use Rattle.np_fold.proofs.TraitLemmas.{traits-alike, traits-same_kind}
use Rattle.np_labels.specs.Prelude.{is_listed, value_of}

-- ---- what a question decides

owners_decide : (a b : Owner) → Decides (are_same_owner a b) (a ≡ b)
owners_decide a b =
    Decides-like (are_same_owner a b)
    (λ same. rw (same.0, same.1) refl)
    (λ same. (ap (λ (o : Owner). o.kind) same, ap (λ (o : Owner). o.name) same))
    (Decides-and _ _ (bytes_decides a.kind b.kind) (bytes_decides a.name b.name))

ports_decide : (a b : NamedPort) → Decides (are_same_port a b) (a ≡ b)
ports_decide a b =
    Decides-like (are_same_port a b)
    (λ same. rw (same.0.0, protos a.proto b.proto same.0.1, same.1) refl)
    (λ same. ((ap (λ (p : NamedPort). p.name) same, ap (λ (p : NamedPort). proto_number p.proto) same), ap (λ (p : NamedPort). p.number) same))
    (Decides-and _ _ (Decides-and _ _ (bytes_decides a.name b.name) (Decides-eqb (proto_number a.proto) (proto_number b.proto))) (Decides-eqb a.number b.number))

values_decide : (a b : Option (List ℕ)) → Decides (option_eq (pointwise (λ x y. x == y)) a b) (a ≡ b)
values_decide None None = (λ _. refl, λ _. refl)
values_decide None (Some y) = (λ is. let never : false ≡ true = is in cc, λ same. cc)
values_decide (Some x) None = (λ is. let never : false ≡ true = is in cc, λ same. cc)
values_decide (Some x) (Some y) = Decides-like (pointwise (λ x y. x == y) x y) (ap Some) (same_Some x y) (bytes_decides x y)

module _ (lists : EstateLists) (a b : Pod) where
  labels_decide : Decides (list_all (have_same_value a b) (keys_of_estate lists)) ((key : List ℕ) → is_listed (keys_of_estate lists) key ≡ true → value_of a.labels key ≡ value_of b.labels key)
  labels_decide =
      Decides-listed (have_same_value a b) (λ key. value_of a.labels key ≡ value_of b.labels key)
      (λ key. values_decide (value_of a.labels key) (value_of b.labels key)) (keys_of_estate lists)

  blocks_decide : Decides (list_all (are_both_in a b) (cidrs_of_estate lists)) (All (λ cidr. is_in a.addresses cidr ≡ is_in b.addresses cidr) (cidrs_of_estate lists))
  blocks_decide = (
    λ all. All-from_recursion _ (cidrs_of_estate lists) (agree-from_test (is_in a.addresses) (is_in b.addresses) (cidrs_of_estate lists) all),
    λ agree. test-from_agree (is_in a.addresses) (is_in b.addresses) (cidrs_of_estate lists) (recursion_from_All _ (cidrs_of_estate lists) agree),
  )

  pub kinds_decide : Decides (are_same_kind lists a b) (IsSameKind lists a b)
  unfolding are_same_kind
  kinds_decide =
      Decides-like (are_same_kind lists a b)
      (λ same. record { namespace = same.0.0.0; labels = same.0.0.1; ports = same.0.1; blocks = same.1 })
      (λ kind. (((kind.namespace, kind.labels), kind.ports), kind.blocks))
      (Decides-and _ _ (Decides-and _ _ (Decides-and _ _ (bytes_decides a.namespace b.namespace) labels_decide) (pointwise_decides ports_decide a.ports b.ports)) blocks_decide)

  pub alike_decide : Decides (are_alike lists a b) (Alike lists a b)
  unfolding are_alike
  alike_decide =
      Decides-like (are_alike lists a b)
      (λ same. record { kind = same.0; owner = same.1 })
      (λ alike. (alike.kind, alike.owner))
      (Decides-and _ _ kinds_decide (owners_decide a.owner b.owner))

-- ---- traits that tie

ties_decide : (x y : Traits) → Decides (is_eq (compare_traits x y)) (x ≡ y)
ties_decide x y = Decides-like (is_eq (compare_traits x y)) (ties-equal x y).0 (ties-equal x y).1 (Equal-is (compare_traits x y))

of_both-map : {K X : Type 0} (ask : K → K → Bool) (ask' : X → X → Bool) (f : X → K) → ((x y : X) → ask (f x) (f y) ≡ ask' x y) → (p q : Option X) →
    of_both ask (option_map f p) (option_map f q) ≡ of_both ask' p q
of_both-map ask ask' f same None None = refl
of_both-map ask ask' f same None (Some y) = refl
of_both-map ask ask' f same (Some x) None = refl
of_both-map ask ask' f same (Some x) (Some y) = same x y

module _ (lists : EstateLists) (keys : List (List ℕ)) (same : (key : List ℕ) → is_listed keys key ≡ is_listed (keys_of_estate lists) key) (cidrs : List Cidr)
    (blocks : HaveSame cidrs (cidrs_of_estate lists)) where
  -- pods are alike where their traits tie
  traits-tie : (a b : Pod) → is_eq (compare_traits (traits_of keys cidrs a) (traits_of keys cidrs b)) ≡ are_alike lists a b
  traits-tie a b =
      same_from_decides _ (are_alike lists a b)
      (Decides-like _ (traits-alike lists keys same cidrs blocks a b).0 (traits-alike lists keys same cidrs blocks a b).1 (ties_decide (traits_of keys cidrs a) (traits_of keys cidrs b)))
      (alike_decide lists a b)

  -- and of one kind where they tie with one owner put in
  kinds-tie : (owner : Owner) (a b : Pod) → is_eq (compare_traits (with_owner owner (traits_of keys cidrs a)) (with_owner owner (traits_of keys cidrs b))) ≡ are_same_kind lists a b
  kinds-tie owner a b =
      same_from_decides _ (are_same_kind lists a b)
      (Decides-like _ (traits-same_kind lists keys same cidrs blocks a b owner).0 (traits-same_kind lists keys same cidrs blocks a b owner).1
      (ties_decide (with_owner owner (traits_of keys cidrs a)) (with_owner owner (traits_of keys cidrs b))))
      (kinds_decide lists a b)

  -- so the traits of all pods tie where the pods are alike
  pub keys_tie-pods : (a b : ℕ) → keys_tie compare_traits (map (traits_of keys cidrs) lists.pods) a b ≡ pods_alike lists a b
  keys_tie-pods a b =
      rw (slice_get-map (traits_of keys cidrs) lists.pods a, slice_get-map (traits_of keys cidrs) lists.pods b)
      (of_both-map (λ x y. is_eq (compare_traits x y)) (are_alike lists) (traits_of keys cidrs) traits-tie (slice_get lists.pods a) (slice_get lists.pods b))

  -- and those of the first pods of workloads, with one owner put in, where the workloads are of one kind
  pub keys_tie-kinds : (owner : Owner) (made : List Traits) → ((number : ℕ) → slice_get made number ≡ option_map (λ pod. with_owner owner (traits_of keys cidrs pod)) (first_pod lists number))
      → (a b : ℕ) → keys_tie compare_traits made a b ≡ kinds_alike lists a b
  keys_tie-kinds owner made each a b =
      rw (each a, each b)
      (of_both-map (λ x y. is_eq (compare_traits x y)) (are_same_kind lists) (λ pod. with_owner owner (traits_of keys cidrs pod)) (kinds-tie owner) (first_pod lists a) (first_pod lists b))

-- ---- alike places

-- things are alike where they are equal in what is asked
module _ {K X : Type 0} (ask : X → X → Bool) (seen : X → K) (decides : (x y : X) → Decides (ask x y) (seen x ≡ seen y)) where
  asked_back : (p q : Option X) → of_both ask p q ≡ true → of_both ask q p ≡ true
  asked_back None q tied = let never : false ≡ true = tied in cc
  asked_back (Some x) None tied = let never : false ≡ true = tied in cc
  asked_back (Some x) (Some y) tied = (decides y x).1 (sym ((decides x y).0 tied))

  asked_onward : (p q r : Option X) → of_both ask p q ≡ true → of_both ask q r ≡ true → of_both ask p r ≡ true
  asked_onward None q r near far = let never : false ≡ true = near in cc
  asked_onward (Some x) None r near far = let never : false ≡ true = near in cc
  asked_onward (Some x) (Some y) None near far = let never : false ≡ true = far in cc
  asked_onward (Some x) (Some y) (Some z) near far = (decides x z).1 ((decides x y).0 near ∙ (decides y z).0 far)

  places-alike : (at : ℕ → Option X) (count : ℕ) → ((place : ℕ) → place < count → (x : X) × (at place ≡ Some x)) → IsAlike (λ a b. of_both ask (at a) (at b)) count
  places-alike at count there = record {
    itself = λ a within. let (x, is) = there a within in rw is ((decides x x).1 refl);
    both_ways = λ a b _ _ tied. asked_back (at a) (at b) tied;
    onward = λ a b c _ _ _ near far. asked_onward (at a) (at b) (at c) near far;
  }

-- pods by their places
pub alike-is : (lists : EstateLists) → IsAlike (pods_alike lists) (length lists.pods)
alike-is lists =
    places-alike (are_alike lists) (traits_of (keys_of_estate lists) (cidrs_of_estate lists))
    (λ a b.
    let equal = traits-alike lists (keys_of_estate lists) (λ key. refl) (cidrs_of_estate lists) (λ test. refl) a b in
    Decides-like (are_alike lists a b) equal.1 equal.0 (alike_decide lists a b))
    (slice_get lists.pods) (length lists.pods) (slice_get-some lists.pods)

-- first pods of one kind by the numbers of their workloads
pub kinds-are : (lists : EstateLists) (count : ℕ) → ((number : ℕ) → number < count → (pod : Pod) × (first_pod lists number ≡ Some pod)) → IsAlike (kinds_alike lists) count
kinds-are lists count there =
    places-alike (are_same_kind lists) (λ pod. with_owner nobody (traits_of (keys_of_estate lists) (cidrs_of_estate lists) pod))
    (λ a b.
    let equal = traits-same_kind lists (keys_of_estate lists) (λ key. refl) (cidrs_of_estate lists) (λ test. refl) a b nobody in
    Decides-like (are_same_kind lists a b) equal.1 equal.0 (kinds_decide lists a b))
    (first_pod lists) count there
