-- Who owns an item: what stands over its place is the controller that its reference names, and the chains of places are chains
-- of controllers, each of which owns what is below it. For TemplatePodLemmas.
use Rattle.std.proofs.Common.{◌≡◌, ℕ, zero, suc, ◌+◌, ◌<◌, List, [], ◌∷◌, ◌++◌, length, get_or, Bool, true, false, cond, ◌||◌, nat_eq, Option, Some, None, refl, sym, ap, subst, ◌∙◌, arith, eq-eqb, lt-ltb, append-nil, zero-add}
use Rattle.std.specs.Prelude.{codes}
use Rattle.std.specs.List.{AllByRecursion, Contains, list_any, position_or_len, slice_get}
use Rattle.std.specs.Option.{option_flatten, option_map_or}
use Rattle.std.specs.Str.{bytes_eq}
use Rattle.std.specs.Cmp.Lexicographic.{bytes_decides}
use Rattle.std.proofs.Math.Bool.{or-true}
use Rattle.std.proofs.Math.Nat.{suc-add}
use Rattle.std.proofs.lemmas.Bool.{eqb-true, false≢true, true≢false}
use Rattle.std.proofs.lemmas.List.Folds.{list_any-append}
use Rattle.std.proofs.lemmas.List.Quantifiers.{position-Some}
use Rattle.std.proofs.lemmas.Option.{none-some, option_and_then_some, same_Some, slice_get-get_or, slice_get-map, slice_get_within}
use Rattle.np_owners.specs.Prelude.{IsChains, chain, controller_place, first_cycle, is_item_named, last_of, name_of_item, owner_of_item, owner_place, owners, place_in_namespace, place_of, same_name, top, up, ups}
use Rattle.np_owners.proofs.Ends.{up-top}
use Rattle.np_owners.proofs.Walks.{chain_none}
use Rattle.np_meaning.specs.Prelude.{ControllerItem, IsChainOfOwners, IsInChain, IsNamedIn, Item, ObjectName, OwnerRef, Owns, controller_item}
use Rattle.np_items.specs.declared.item.Item.TheVariants as item
use Rattle.np_objects.specs.Prelude.{is_controller_kind, kind_name}
use Rattle.np_objects.specs.declared.object.Object.TheVariants as object
use Rattle.np_objects.proofs.OwnerLemmas.{is_controller_kind-name}
use Rattle.np_owners.proofs.PlaceLemmas.{equal_names, same_name-sym}
use Rattle.np_policies.specs.declared.policy.Policy.TheVariants as policy
use Rattle.np_reading.proofs.LawfulLists.{AllLater}
use Rattle.np_reading.proofs.LawfulNames.{AreNamedApart}
use Rattle.np_meaning.specs.TemplatePods.{IsNamedBy}

-- ---- what is in a list

pub Contains-at : {X : Type 0} (xs : List X) (x : X) → Contains xs x → (place : ℕ) × (slice_get xs place ≡ Some x)
Contains-at xs x there = (there.0, slice_get-get_or xs there.0 x there.1 ∙ ap Some there.2)

pub at-Contains : {X : Type 0} (xs : List X) (place : ℕ) (x : X) → slice_get xs place ≡ Some x → Contains xs x
at-Contains xs place x at =
    let within = slice_get_within xs place x at in
    (place, within, same_Some (get_or xs place x) x (sym (slice_get-get_or xs place x within) ∙ at))

all-at : {X : Type 0} (P : X → Type 0) (xs : List X) → AllByRecursion P xs → (place : ℕ) (x : X) → slice_get xs place ≡ Some x → P x
all-at P [] all place x at = absurd (none-some x at)
all-at P (y ∷ xs) all zero x at = subst P (same_Some y x at) all.0
all-at P (y ∷ xs) all (suc place) x at = all-at P xs all.1 place x at

-- ---- the place of a name

same_name-itself : (name : ObjectName) → same_name name name ≡ true
same_name-itself name =
    let itself : (text : List ℕ) → bytes_eq text text ≡ true = λ text. (bytes_decides text text).1 refl in
    rw (itself name.kind, itself name.namespace, itself name.name) refl

-- an item of another name
is_named-apart : (name : ObjectName) (one other : Item) → AreNamedApart one other → name_of_item other ≡ Some name → is_item_named name one ≡ false
is_named-apart name one other apart named = by (name_of_item one) refl
  where
    by : (own : Option ObjectName) → name_of_item one ≡ own → option_map_or (same_name name) own false ≡ false
    by None is = refl
    by (Some own) is = same_name-sym name own ∙ apart own name is named

position-named : (name : ObjectName) (items : List Item) → AllLater AreNamedApart items → (place : ℕ) (one : Item) → slice_get items place ≡ Some one → name_of_item one ≡ Some name →
    position_or_len (is_item_named name) items ≡ place
position-named name [] apart place one at named = absurd (none-some one at)
position-named name (first ∷ items) apart zero one at named =
    let same : name_of_item first ≡ Some name = ap name_of_item (same_Some first one at) ∙ named in
    rw (same, same_name-itself name) refl
position-named name (first ∷ items) apart (suc place) one at named =
    let rest = position-named name items apart.1 place one at named in
    rw (is_named-apart name first one (all-at (AreNamedApart first) items apart.0 place one at) named) (omega (arith, rest))

place_of-named : (name : ObjectName) (items : List Item) → AllLater AreNamedApart items → (place : ℕ) (one : Item) → slice_get items place ≡ Some one → name_of_item one ≡ Some name →
    place_of items name ≡ Some place
place_of-named name items apart place one at named =
    rw (position-named name items apart place one at named, lt-ltb place (length items) (slice_get_within items place one at)) refl

-- ---- the owner of an item

abbrev controller_name : ControllerItem → ObjectName
controller_name controller = record { kind = kind_name controller.kind; namespace = controller.namespace; name = controller.name }

other-kind : (own name : ObjectName) → is_controller_kind own.kind ≡ false → Some own ≡ Some name → is_controller_kind name.kind ≡ true → ⊥
other-kind own name other same kind =
    true≢false (sym kind ∙ sym (ap (λ (n : ObjectName). is_controller_kind n.kind) (same_Some own name same)) ∙ other)

-- what has the name of a controller is one
named-controller : (one : Item) (name : ObjectName) → name_of_item one ≡ Some name → is_controller_kind name.kind ≡ true →
    (controller : ControllerItem) × (one ≡ controller_item controller) × (controller_name controller ≡ name)
named-controller (item.Object (object.Controller controller)) name named kind = (controller, refl, same_Some (controller_name controller) name named)
named-controller (item.Object (object.Pod one)) name named kind = absurd (other-kind _ name refl named kind)
named-controller (item.Object (object.Namespace one)) name named kind = absurd (other-kind _ name refl named kind)
named-controller (item.Object (object.Service one)) name named kind = absurd (other-kind _ name refl named kind)
named-controller (item.Object (object.Ingress one)) name named kind = absurd (other-kind _ name refl named kind)
named-controller (item.Object object.Other) name named kind = absurd (none-some name named)
named-controller (item.Policy (policy.Net one)) name named kind = absurd (other-kind _ name refl named kind)
named-controller (item.Policy (policy.Admin one)) name named kind = absurd (other-kind _ name refl named kind)
named-controller (item.Policy (policy.Base one)) name named kind = absurd (other-kind _ name refl named kind)

is_named-name : (name : ObjectName) (one : Item) → is_item_named name one ≡ true → name_of_item one ≡ Some name
is_named-name name one is = by (name_of_item one) is
  where
    by : (own : Option ObjectName) → option_map_or (same_name name) own false ≡ true → own ≡ Some name
    by None found = absurd (false≢true found)
    by (Some own) found = ap Some (sym (equal_names name own found))

-- the name that a reference in a namespace asks for
abbrev asked : List ℕ → OwnerRef → ObjectName
asked namespace owner = record { kind = owner.kind; namespace = namespace; name = owner.name }

named-by : (controller : ControllerItem) (owner : OwnerRef) (around namespace : List ℕ) → controller_name controller ≡ asked around owner → around ≡ namespace → IsNamedBy owner namespace controller
named-by controller owner around namespace same here = record {
  kind = ap (λ (n : ObjectName). n.kind) same;
  namespace = ap (λ (n : ObjectName). n.namespace) same ∙ here;
  name = ap (λ (n : ObjectName). n.name) same;
}

named-owns : (one : Item) (controller : ControllerItem) (name : ObjectName) (owner : OwnerRef) → name_of_item one ≡ Some name → owner_of_item one ≡ Some owner →
    controller_name controller ≡ asked name.namespace owner → Owns controller one
named-owns (item.Object (object.Pod one)) controller name owner named owned same =
    let own = same_Some _ name named in
    subst (λ (o : Option OwnerRef). IsNamedIn o one.namespace controller) (sym owned)
    (named-by controller owner name.namespace one.namespace same (sym (ap (λ (n : ObjectName). n.namespace) own)))
named-owns (item.Object (object.Controller one)) controller name owner named owned same =
    let own = same_Some _ name named in
    subst (λ (o : Option OwnerRef). IsNamedIn o one.namespace controller) (sym owned)
    (named-by controller owner name.namespace one.namespace same (sym (ap (λ (n : ObjectName). n.namespace) own)))
named-owns (item.Object (object.Namespace one)) controller name owner named owned same = absurd (none-some owner owned)
named-owns (item.Object (object.Service one)) controller name owner named owned same = absurd (none-some owner owned)
named-owns (item.Object (object.Ingress one)) controller name owner named owned same = absurd (none-some owner owned)
named-owns (item.Object object.Other) controller name owner named owned same = absurd (none-some owner owned)
named-owns (item.Policy one) controller name owner named owned same = absurd (none-some owner owned)

-- the listed controller at a place owns an item
pub record OwnerAt (items : List Item) (one : Item) (above : ℕ) : Type 0 where
  pub owner : ControllerItem
  pub at : slice_get items above ≡ Some (controller_item owner)
  pub owns : Owns owner one

-- what stands over an item owns it
pub owner-found : (items : List Item) (one : Item) (above : ℕ) → owner_place items one ≡ Some above → OwnerAt items one above
owner-found items one above is =
    option_and_then_some (place_in_namespace items (owner_of_item one)) (name_of_item one) above is
    (λ name named found. option_and_then_some (controller_place items name.namespace) (owner_of_item one) above found
    (λ owner owned at. by name owner named owned (is_controller_kind owner.kind) refl at))
  where
    by : (name : ObjectName) (owner : OwnerRef) → name_of_item one ≡ Some name → owner_of_item one ≡ Some owner → (b : Bool) → is_controller_kind owner.kind ≡ b →
        cond b (place_of items (asked name.namespace owner)) None ≡ Some above → OwnerAt items one above
    by name owner named owned false kind at = absurd (none-some above at)
    by name owner named owned true kind at =
        let found = position-Some (is_item_named (asked name.namespace owner)) items above one at in
        let there = slice_get-get_or items above one found.0 in
        let controller = named-controller (get_or items above one) (asked name.namespace owner) (is_named-name (asked name.namespace owner) (get_or items above one) found.1) kind in
        record { owner = controller.0; at = there ∙ ap Some controller.1; owns = named-owns one controller.0 name owner named owned controller.2 }

-- ---- items of which no two have one name

module _ (items : List Item) (apart : AllLater AreNamedApart items) where
  reference-place : (above : ℕ) (owner : ControllerItem) → slice_get items above ≡ Some (controller_item owner) → (reference : OwnerRef) (namespace : List ℕ) → IsNamedBy reference namespace owner →
      controller_place items namespace reference ≡ Some above
  reference-place above owner at reference namespace is =
      let kind : is_controller_kind reference.kind ≡ true = subst (λ (k : List ℕ). is_controller_kind k ≡ true) is.kind (is_controller_kind-name owner.kind) in
      let name : controller_name owner ≡ asked namespace reference =
      ap (λ (k : List ℕ). record { kind = k; namespace = owner.namespace; name = owner.name }) is.kind
      ∙ ap (λ (s : List ℕ). record { kind = reference.kind; namespace = s; name = owner.name }) is.namespace
      ∙ ap (λ (n : List ℕ). record { kind = reference.kind; namespace = namespace; name = n }) is.name in
      rw kind (place_of-named (asked namespace reference) items apart above (controller_item owner) at (ap Some name))

  -- what owns an item stands over it
  pub owns-place : (above : ℕ) (owner : ControllerItem) (one : Item) → slice_get items above ≡ Some (controller_item owner) → Owns owner one → owner_place items one ≡ Some above
  owns-place above owner (item.Object (object.Pod one)) at owns = by one.owner owns
    where
      by : (reference : Option OwnerRef) → IsNamedIn reference one.namespace owner →
          place_in_namespace items reference (record { kind = codes "Pod"; namespace = one.namespace; name = one.name }) ≡ Some above
      by None is = absurd is
      by (Some reference) is = reference-place above owner at reference one.namespace is
  owns-place above owner (item.Object (object.Controller one)) at owns = by one.owner owns
    where
      by : (reference : Option OwnerRef) → IsNamedIn reference one.namespace owner → place_in_namespace items reference (controller_name one) ≡ Some above
      by None is = absurd is
      by (Some reference) is = reference-place above owner at reference one.namespace is
  owns-place above owner (item.Object (object.Namespace one)) at owns = absurd owns
  owns-place above owner (item.Object (object.Service one)) at owns = absurd owns
  owns-place above owner (item.Object (object.Ingress one)) at owns = absurd owns
  owns-place above owner (item.Object object.Other) at owns = absurd owns
  owns-place above owner (item.Policy one) at owns = absurd owns

  one-place : (controller : ControllerItem) (place other : ℕ) → slice_get items place ≡ Some (controller_item controller) → slice_get items other ≡ Some (controller_item controller) → place ≡ other
  one-place controller place other at there =
      sym (position-named (controller_name controller) items apart place (controller_item controller) at refl)
      ∙ position-named (controller_name controller) items apart other (controller_item controller) there refl

-- ---- chains

-- what stands over a place owns its item
up-item : (items : List Item) (place : ℕ) (one : Item) → slice_get items place ≡ Some one → up (ups items) place ≡ owner_place items one
up-item items place one at = ap option_flatten (slice_get-map (owner_place items) items place) ∙ rw at refl

-- whether a place is the asked one
abbrev pub is_at : ℕ → ℕ → Bool
is_at place owner = nat_eq owner place

same-controller : (a b : ControllerItem) → Some (controller_item a) ≡ Some (controller_item b) → a ≡ b
same-controller a b same = cc

first-among : (owner : ControllerItem) (owners : List ControllerItem) (controller : ControllerItem) → owner ≡ controller → Contains (owner ∷ owners) controller
first-among owner owners controller same = (0, omega arith, same)

later-among : (owner : ControllerItem) (owners : List ControllerItem) (controller : ControllerItem) → Contains owners controller → Contains (owner ∷ owners) controller
later-among owner owners controller there = let within = there.1 in (suc there.0, omega arith, there.2)

module _ (items : List Item) (place : ℕ) (controller : ControllerItem) (at : slice_get items place ≡ Some (controller_item controller)) where
  -- where its place is in a chain of places, the controller is in one of controllers
  pub chain-stands : (steps below : ℕ) (one : Item) → slice_get items below ≡ Some one → list_any (is_at place) (chain (ups items) steps below) ≡ true → IsInChain items controller one
  chain-stands zero below one there found = absurd (false≢true found)
  chain-stands (suc steps) below one there found = by (up (ups items) below) refl (λ above owner is. chain-stands steps above owner is)
    where
      by : (over : Option ℕ) → up (ups items) below ≡ over →
          ((above : ℕ) (owner : Item) → slice_get items above ≡ Some owner → list_any (is_at place) (chain (ups items) steps above) ≡ true → IsInChain items controller owner) →
          IsInChain items controller one
      by None is further = absurd (false≢true (rw is at found))
      by (Some above) is further = pick (nat_eq above place) refl (rw is at found)
        where
          owned : OwnerAt items one above
          owned = owner-found items one above (sym (up-item items below one there) ∙ is)

          pick : (b : Bool) → nat_eq above place ≡ b → (b || list_any (is_at place) (chain (ups items) steps above)) ≡ true → IsInChain items controller one
          pick true here so =
              let same : above ≡ place = eqb-true above place here in
              let it : owned.owner ≡ controller = same-controller owned.owner controller (sym owned.at ∙ ap (slice_get items) same ∙ at) in
              record { owners = owned.owner ∷ []; chain = (at-Contains items above (controller_item owned.owner) owned.at, owned.owns, tt); among = first-among owned.owner [] controller it }
          pick false elsewhere so =
              let rest = further above (controller_item owned.owner) owned.at so in
              record {
                owners = owned.owner ∷ rest.owners;
                chain = (at-Contains items above (controller_item owned.owner) owned.at, owned.owns, rest.chain);
                among = later-among owned.owner rest.owners controller rest.among;
              }

  -- and the other way round, where no two items have one name
  pub stands-chain : AllLater AreNamedApart items → (owners : List ControllerItem) (below : ℕ) (one : Item) → slice_get items below ≡ Some one → IsChainOfOwners items one owners →
      Contains owners controller → list_any (is_at place) (chain (ups items) (length owners) below) ≡ true
  stands-chain apart [] below one there over among = let never = among.1 in absurd (omega arith)
  stands-chain apart (owner ∷ owners) below one there over among =
      let above = Contains-at items (controller_item owner) over.0 in
      let is : up (ups items) below ≡ Some above.0 = up-item items below one there ∙ owns-place items apart above.0 owner one above.1 over.1 in
      rw is (by above.0 above.1 among.0 among.1 among.2 (stands-chain apart owners above.0 (controller_item owner) above.1 over.2))
    where
      by : (above : ℕ) → slice_get items above ≡ Some (controller_item owner) → (k : ℕ) → k < length (owner ∷ owners) → get_or (owner ∷ owners) k controller ≡ controller →
          (Contains owners controller → list_any (is_at place) (chain (ups items) (length owners) above) ≡ true) →
          (nat_eq above place || list_any (is_at place) (chain (ups items) (length owners) above)) ≡ true
      by above is zero within same rest =
          let here : above ≡ place = one-place items apart controller above place (is ∙ ap (λ (c : ControllerItem). Some (controller_item c)) same) at in
          rw (eq-eqb above place here) refl
      by above is (suc k) within same rest =
          rw (rest (k, omega (arith, within), same)) (or-true (nat_eq above place))

-- ---- a chain that ends is all that stands over its place

module _ (ups : List (Option ℕ)) where
  chain-add : (first more place : ℕ) → chain ups (first + more) place ≡ chain ups first place ++ chain ups more (last_of place (chain ups first place))
  chain-add zero more place = rw (zero-add more) refl
  chain-add (suc first) more place = by (up ups place) refl (λ above. chain-add first more above)
    where
      by : (over : Option ℕ) → up ups place ≡ over → ((above : ℕ) → chain ups (first + more) above ≡ chain ups first above ++ chain ups more (last_of above (chain ups first above))) →
          chain ups (suc first + more) place ≡ chain ups (suc first) place ++ chain ups more (last_of place (chain ups (suc first) place))
      by None is rest = rw (chain_none ups (suc first + more) place is, is) (sym (chain_none ups more place is))
      by (Some above) is rest = rw (suc-add first more, is) (ap (λ (others : List ℕ). above ∷ others) (rest above))

  -- what is in a chain of any length is among all that stands over its place
  pub among-owners : IsChains ups → first_cycle ups ≡ None → (place : ℕ) → place < length ups → (test : ℕ → Bool) (steps : ℕ) → list_any test (chain ups steps place) ≡ true →
      list_any test (owners ups place) ≡ true
  among-owners chains none place within test steps found =
      let longer : list_any test (chain ups (steps + length ups) place) ≡ true =
      ap (list_any test) (chain-add steps (length ups) place) ∙ list_any-append test (chain ups steps place) _ ∙ rw found refl in
      let turned : steps + length ups ≡ length ups + steps = omega arith in
      let ends : chain ups (length ups + steps) place ≡ owners ups place =
      chain-add (length ups) steps place ∙ rw (chain_none ups steps (top ups place) (up-top ups chains none place within)) (append-nil (owners ups place)) in
      ap (list_any test) (sym (ap (λ (n : ℕ). chain ups n place) turned ∙ ends)) ∙ longer
