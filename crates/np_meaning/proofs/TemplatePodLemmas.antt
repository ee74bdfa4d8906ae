-- Which controllers stand for a pod. For `controllers_without_pods_have_template_pods`.
use Rattle.std.proofs.Common.{◌≡◌, ◌↔◌, ℕ, zero, suc, ◌+◌, ◌<◌, ◌≤◌, List, [], ◌∷◌, length, map, Bool, true, false, cond, not, ◌&&◌, ◌||◌, is_some, is_none, nat_eq, nat_le, Option, Some, None, Result, Ok, Err, refl, sym, ap, ◌∙◌, zero-add}
use Rattle.std.specs.Prelude.{⊤}
use Rattle.std.specs.List.{Contains, list_any, slice_get}
use Rattle.std.specs.Option.{option_map, option_map_or}
use Rattle.std.proofs.Math.Bool.{or-true}
use Rattle.std.proofs.lemmas.Bool.{and_parts, and_from, eqb-true, leb-true, false≢true, not-true}
use Rattle.std.proofs.lemmas.List.{length-map}
use Rattle.std.proofs.lemmas.List.Folds.{Any-from_list_any, list_any_at}
use Rattle.std.proofs.lemmas.List.FromFn.{get_or-range_with_len, length-range_with_len}
use Rattle.std.proofs.lemmas.Option.{none-some, same_Some, slice_get_within}
use Rattle.np_owners.specs.Prelude.{IsChains, first_cycle, full_name_of, has_pods, is_at_or_over, is_marked, is_pod, makes_pod, owner_place, owners, places_of_owners, ups, wants_pods}
use Rattle.np_meaning.specs.Prelude.{ControllerItem, EstateLists, HasTemplatePod, IsInChain, Item, LacksPods, PodItem, controller_item, pod_item}
use Rattle.np_items.specs.declared.item.Item.TheVariants as item
use Rattle.np_objects.specs.declared.object.Object.TheVariants as object
use Rattle.np_reading.proofs.LawfulLists.{AllLater}
use Rattle.np_reading.proofs.LawfulNames.{items_apart, AreNamedApart}
use Rattle.np_reading.proofs.ReadingLemmas.{estate_of-passed}
use Rattle.np_reading.specs.Prelude.{Reading, estate_of, estate_of_items, have_names_apart, have_no_cycle, have_priorities_apart, refuse_found}
use Rattle.np_reading.specs.declared.refusal.Refusal.TheVariants.{OwnerCycle}
use Rattle.np_items.specs.Prelude.{ItemsReading as ItemsReading, all_values, item_of, items_from, items_of, must_be_few}
use Rattle.np_json.specs.Prelude.{◌>>=◌, ◌>>◌}
use Rattle.np_items.specs.declared.fault.ItemsFault.{ItemsFault}
use Rattle.np_items.specs.declared.fault.ItemsFault.TheVariants.{TooManyItems}
use Rattle.serde_json.specs.Data.{Data}
use Rattle.np_owners.proofs.ChainLemmas.{IsChains-ups}
use Rattle.np_meaning.proofs.OwnerChainLemmas.{Contains-at, at-Contains, owner-found, owns-place, is_at, chain-stands, stands-chain, among-owners}

-- ---- pods

marked-pod : (items : List Item) (place : ℕ) → is_marked (map is_pod items) place ≡ true → (pod : PodItem) × (slice_get items place ≡ Some (pod_item pod))
marked-pod [] place marked = absurd (false≢true marked)
marked-pod (one ∷ items) (suc place) marked = marked-pod items place marked
marked-pod (item.Object (object.Pod pod) ∷ items) zero marked = (pod, refl)
marked-pod (item.Object (object.Controller one) ∷ items) zero marked = absurd (false≢true marked)
marked-pod (item.Object (object.Namespace one) ∷ items) zero marked = absurd (false≢true marked)
marked-pod (item.Object (object.Service one) ∷ items) zero marked = absurd (false≢true marked)
marked-pod (item.Object (object.Ingress one) ∷ items) zero marked = absurd (false≢true marked)
marked-pod (item.Object object.Other ∷ items) zero marked = absurd (false≢true marked)
marked-pod (item.Policy one ∷ items) zero marked = absurd (false≢true marked)

pod-marked : (items : List Item) (place : ℕ) (pod : PodItem) → slice_get items place ≡ Some (pod_item pod) → is_marked (map is_pod items) place ≡ true
pod-marked [] place pod at = absurd (none-some (pod_item pod) at)
pod-marked (one ∷ items) zero pod at = ap is_pod (same_Some one (pod_item pod) at)
pod-marked (one ∷ items) (suc place) pod at = pod-marked items place pod at

no-pod : (pod : PodItem) (controller : ControllerItem) → Some (pod_item pod) ≡ Some (controller_item controller) → ⊥
no-pod pod controller same = false≢true (ap is_pod (same_Some (controller_item controller) (pod_item pod) (sym same)))

module _ (items : List Item) (place : ℕ) (controller : ControllerItem) (at : slice_get items place ≡ Some (controller_item controller)) where
  -- where some pod has the controller in its chain, it stands over one
  has_pods-stands : has_pods items place ≡ true → (pod : PodItem) × Contains items (pod_item pod) × IsInChain items controller (pod_item pod)
  has_pods-stands has =
      let test : ℕ → Bool = λ below. is_marked (map is_pod items) below && is_at_or_over (ups items) place below in
      let found = Any-from_list_any test (places_of_owners (ups items)) has in
      let parts = and_parts (is_marked (map is_pod items) found.1) (is_at_or_over (ups items) place found.1) found.4 in
      let pod = marked-pod items found.1 parts.0 in
      let over = above found.1 pod.0 pod.1 (nat_eq found.1 place) refl parts.1 in
      (pod.0, at-Contains items found.1 (pod_item pod.0) pod.1, chain-stands items place controller at (length (ups items)) found.1 (pod_item pod.0) pod.1 over)
    where
      above : (below : ℕ) (pod : PodItem) → slice_get items below ≡ Some (pod_item pod) → (b : Bool) → nat_eq below place ≡ b → (b || list_any (is_at place) (owners (ups items) below)) ≡ true →
          list_any (is_at place) (owners (ups items) below) ≡ true
      above below pod there true same over = absurd (no-pod pod controller (sym there ∙ ap (slice_get items) (eqb-true below place same) ∙ at))
      above below pod there false other over = over

  -- and the other way round, in items that may be read
  stands-has_pods : AllLater AreNamedApart items → IsChains (ups items) → first_cycle (ups items) ≡ None → (pod : PodItem) → Contains items (pod_item pod) →
      IsInChain items controller (pod_item pod) → has_pods items place ≡ true
  stands-has_pods apart chains none pod there stands =
      let below = Contains-at items (pod_item pod) there in
      let within : below.0 < length (ups items) = rw (length-map items (owner_place items)) (slice_get_within items below.0 (pod_item pod) below.1) in
      let reached = among-owners (ups items) chains none below.0 within (is_at place) (length stands.owners)
      (stands-chain items place controller at apart stands.owners below.0 (pod_item pod) below.1 stands.chain stands.among) in
      let test : ℕ → Bool = λ below. is_marked (map is_pod items) below && is_at_or_over (ups items) place below in
      let passes : test below.0 ≡ true = and_from _ _ (pod-marked items below.0 pod below.1) (rw reached (or-true (nat_eq below.0 place))) in
      list_any_at test (places_of_owners (ups items)) below.0 0 (rw (length-range_with_len 0 (length (ups items))) within)
      (rw (get_or-range_with_len 0 (length (ups items)) below.0 0 within, zero-add below.0) passes)

-- ---- who stands for a pod

makes-by : (items : List Item) (place : ℕ) (one : Item) → slice_get items place ≡ Some one → makes_pod items place ≡ ((wants_pods one && is_none (owner_place items one)) && not (has_pods items place))
makes-by items place one at = rw at refl

module _ (items : List Item) (apart : AllLater AreNamedApart items) (chains : IsChains (ups items)) (none : first_cycle (ups items) ≡ None) (place : ℕ) where
  controller-stands : (controller : ControllerItem) → slice_get items place ≡ Some (controller_item controller) → makes_pod items place ≡ true → LacksPods items controller
  controller-stands controller at makes =
      let parts = and_parts (wants_pods (controller_item controller) && is_none (owner_place items (controller_item controller))) (not (has_pods items place))
      (sym (makes-by items place (controller_item controller) at) ∙ makes) in
      let first = and_parts (wants_pods (controller_item controller)) (is_none (owner_place items (controller_item controller))) parts.0 in
      let wants = and_parts (is_some controller.template) (not controller.none_wanted) first.0 in
      record {
        template = wants.0;
        wanted = not-true controller.none_wanted wants.1;
        unowned = λ owner there owns.
            let above = Contains-at items (controller_item owner) there in
            let is = owns-place items apart above.0 owner (controller_item controller) above.1 owns in
            false≢true (rw is at first.1);
        podless = λ pod there over.
            false≢true (rw (stands-has_pods items place controller at apart chains none pod there over) at parts.1);
      }

  stands-controller : (controller : ControllerItem) → slice_get items place ≡ Some (controller_item controller) → LacksPods items controller → makes_pod items place ≡ true
  stands-controller controller at stands =
      makes-by items place (controller_item controller) at
      ∙ and_from _ _
      (and_from _ _ (and_from _ _ stands.template (ap not stands.wanted)) (alone (owner_place items (controller_item controller)) refl))
      (podless (has_pods items place) refl)
    where
      alone : (owner : Option ℕ) → owner_place items (controller_item controller) ≡ owner → is_none owner ≡ true
      alone None is = refl
      alone (Some above) is =
          let found = owner-found items (controller_item controller) above is in
          absurd (stands.unowned found.owner (at-Contains items above (controller_item found.owner) found.at) found.owns)

      podless : (b : Bool) → has_pods items place ≡ b → not b ≡ true
      podless false is = refl
      podless true is =
          let found = has_pods-stands items place controller at is in
          absurd (stands.podless found.0 found.1 found.2)

  -- what is no controller makes no pod
  wants-none : (one : Item) → wants_pods one ≡ false → slice_get items place ≡ Some one → makes_pod items place ≡ true → ⊥
  wants-none one other at makes = false≢true (sym (makes-by items place one at ∙ rw other refl) ∙ makes)

  stands-in : (one : Item) → slice_get items place ≡ Some one → (makes_pod items place ≡ true) ↔ HasTemplatePod items one
  stands-in (item.Object (object.Controller controller)) at = (controller-stands controller at, stands-controller controller at)
  stands-in (item.Object (object.Pod one)) at = (wants-none (item.Object (object.Pod one)) refl at, λ never. absurd never)
  stands-in (item.Object (object.Namespace one)) at = (wants-none (item.Object (object.Namespace one)) refl at, λ never. absurd never)
  stands-in (item.Object (object.Service one)) at = (wants-none (item.Object (object.Service one)) refl at, λ never. absurd never)
  stands-in (item.Object (object.Ingress one)) at = (wants-none (item.Object (object.Ingress one)) refl at, λ never. absurd never)
  stands-in (item.Object object.Other) at = (wants-none (item.Object object.Other) refl at, λ never. absurd never)
  stands-in (item.Policy one) at = (wants-none (item.Policy one) refl at, λ never. absurd never)

-- ---- items that are read

no_cycle : (items : List Item) → have_no_cycle items ≡ Ok tt → first_cycle (ups items) ≡ None
no_cycle items passed = by (first_cycle (ups items)) passed
  where
    by : (found : Option ℕ) → refuse_found OwnerCycle (option_map (λ place. option_map_or full_name_of (slice_get items place) []) found) ≡ Ok tt → found ≡ None
    by None is = refl
    by (Some place) is = cc

-- where the last of some steps gives a value, the ones before it passed
steps-passed : (names priorities cycles : Reading ⊤) (made lists : EstateLists) → (names >> (priorities >> (cycles >> Ok made))) ≡ Ok lists → cycles ≡ Ok tt
steps-passed (Ok names) (Ok priorities) (Ok cycles) made lists is = refl
steps-passed (Ok names) (Ok priorities) (Err refusal) made lists is = cc
steps-passed (Ok names) (Err refusal) cycles made lists is = cc
steps-passed (Err refusal) priorities cycles made lists is = cc

estate-no_cycle : (texts : List (List ℕ)) (items : List Item) (lists : EstateLists) → items_of texts ≡ Ok items → estate_of texts ≡ Ok lists → first_cycle (ups items) ≡ None
unfolding estate_of
estate-no_cycle texts items lists read is =
    no_cycle items (steps-passed (have_names_apart items) (have_priorities_apart items) (have_no_cycle items) (estate_of_items items) lists (rw read at is))

each_item-count : (number : ℕ) (values : List Data) (items : List Item) → items_from number values ≡ Ok items → length items ≡ length values
each_item-count number [] [] is = refl
each_item-count number [] (one ∷ items) is = cc
each_item-count number (value ∷ values) items is = first (λ more. each_item-count (number + 1) values more) (item_of number value) is
  where
    IsCounted : Type 0
    IsCounted = (more : List Item) → items_from (number + 1) values ≡ Ok more → length more ≡ length values

    rest : IsCounted → (one : Item) (others : Result (List Item) ItemsFault) → items_from (number + 1) values ≡ others → (others >>= (λ more. Ok (one ∷ more))) ≡ Ok items →
        length items ≡ suc (length values)
    rest counted one (Ok more) read so =
        let same : one ∷ more ≡ items = cc in
        sym (ap length same) ∙ ap suc (counted more read)
    rest counted one (Err fault) read so = cc

    first : IsCounted → (one : Result Item ItemsFault) → (one >>= (λ one. items_from (number + 1) values >>= (λ more. Ok (one ∷ more)))) ≡ Ok items → length items ≡ suc (length values)
    first counted (Ok one) so = rest counted one (items_from (number + 1) values) refl so
    first counted (Err fault) so = cc

items-few : (texts : List (List ℕ)) (items : List Item) → items_of texts ≡ Ok items → length items ≤ 20000
unfolding items_of must_be_few
items-few texts items read = by (all_values texts) read
  where
    passes : ItemsReading ⊤
    passes = Ok tt

    counted : (values : List Data) (b : Bool) → nat_le (length values) 20000 ≡ b → (cond b passes (Err (TooManyItems (length values))) >> items_from 1 values) ≡ Ok items → length items ≤ 20000
    counted values true few so = let most = leb-true (length values) 20000 few in rw (each_item-count 1 values items so) most
    counted values false many so = cc

    by : (values : Result (List Data) ItemsFault) → (values >>= (λ values. must_be_few (length values) >> items_from 1 values)) ≡ Ok items → length items ≤ 20000
    by (Ok values) so = counted values (nat_le (length values) 20000) refl so
    by (Err fault) so = cc

pub template_pods : (texts : List (List ℕ)) (items : List Item) (lists : EstateLists) → items_of texts ≡ Ok items → estate_of texts ≡ Ok lists → (place : ℕ) (one : Item) →
    slice_get items place ≡ Some one → (makes_pod items place ≡ true) ↔ HasTemplatePod items one
template_pods texts items lists read is place one at =
    let passed = estate_of-passed texts items lists read is in
    stands-in items (items_apart items passed.0) (IsChains-ups items (items-few texts items read)) (estate-no_cycle texts items lists read is) place one at
