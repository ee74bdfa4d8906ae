-- Rules that match nothing that is asked for may be left out of a layer. For `PodRules::address_set`, `PodRules::pod_set` and 2 more.
use Rattle.std.proofs.Common.{◌≡◌, ℕ, List, [], ◌∷◌, Bool, true, false, filter, find, map, Option, refl, sym, ap, subst, ◌∙◌, if◌then◌else◌}
use Rattle.std.specs.List.{list_any}
use Rattle.std.proofs.lemmas.Bool.{and_left, false≢true, or_from, or_parts}
use Rattle.np_rules.specs.Prelude.{Address, AdminPeer, AdminRule, Contact, Family, IsAdminPart, IsBasePart, KeepsRules, Layer, ModelEnd, NetPeer, NetRule, Pairwise, PlacedAdminRule, PlacedNetRule, PodSide, PortSpot, address, admin_entry_matches, admin_peer_matches, admin_places, admin_rule_matches, admin_rule_of_addresses, admin_rule_reaches, admin_says, base_places, base_says, contact, is_block, is_networks, matches_of, near_pod, net_entry_matches, net_peer_matches, net_places, net_rule_matches, net_rule_of_addresses, net_rule_reaches, none_or_any, placed_net_matches, side_allows}
use Rattle.np_model.specs.declared.admin_policy.AdminPeer.TheVariants as admin
use Rattle.np_model.specs.declared.network_policy.NetPeer.TheVariants as net
use Rattle.np_rules.proofs.FilterLemmas.{any_kept, filter-map, find_kept}
use Rattle.np_rules.proofs.LayerLemmas.{admin_same, base_same, matches_in, matches_in_namespace, walk_by_tiers}
use Rattle.np_rules.proofs.PairwiseLemmas.{Pairwise-map, map-map}
use Rattle.np_rules.proofs.StrangerLemmas.{any-map}
use Rattle.np_conns.specs.Prelude.{Conns, has_spot, is_spot}
use Rattle.np_tiers.specs.Prelude.{admin_allows, base_allows, walk_allows}

-- ---- rules without addresses

-- what fails wherever another test fails passes at no item where that passes at none
pub quieter : {X : Type 0} (test less : X → Bool) (xs : List X) → ((x : X) → test x ≡ false → less x ≡ false) → list_any test xs ≡ false → list_any less xs ≡ false
quieter test less [] weaker none = refl
quieter test less (x ∷ xs) weaker none =
    let parts = or_parts (test x) (list_any test xs) none in
    or_from (less x) (list_any less xs) (weaker x parts.0) (quieter test less xs weaker parts.1)

pub none_quieter : {X : Type 0} (test less : X → Bool) (xs : List X) → ((x : X) → test x ≡ false → less x ≡ false) → none_or_any test xs ≡ false → none_or_any less xs ≡ false
none_quieter test less [] weaker none = absurd (false≢true (sym none))
none_quieter test less (x ∷ xs) weaker none = quieter test less (x ∷ xs) weaker none

net_peer_nowhere : (namespace : List ℕ) (a : Address) (peer : NetPeer) → is_block peer ≡ false → net_peer_matches namespace peer (address a) ≡ false
net_peer_nowhere namespace a (net.Pods namespaces pods) none = refl
net_peer_nowhere namespace a (net.Block cidr excepts) none = absurd (false≢true (sym none))

admin_peer_nowhere : (a : Address) (family : Family) (peer : AdminPeer) → is_networks peer ≡ false → admin_peer_matches peer (address a) family ≡ false
admin_peer_nowhere a family (admin.Pods namespaces pods) none = refl
admin_peer_nowhere a family (admin.Networks cidrs) none = absurd (false≢true (sym none))

pub net_rule_nowhere : (namespace : List ℕ) (contact : Contact) (a : Address) → contact.far ≡ address a → (rule : NetRule) → net_rule_of_addresses rule ≡ false →
    net_rule_matches namespace rule contact ≡ false
net_rule_nowhere namespace contact a far rule none =
    and_left _ (none_or_any (λ entry. net_entry_matches entry contact.destination contact.spot) rule.ports)
    (ap (λ (end : ModelEnd). none_or_any (λ peer. net_peer_matches namespace peer end) rule.peers) far
    ∙ none_quieter is_block (λ peer. net_peer_matches namespace peer (address a)) rule.peers (net_peer_nowhere namespace a) none)

pub admin_rule_nowhere : (contact : Contact) (a : Address) → contact.far ≡ address a → (rule : AdminRule) → admin_rule_of_addresses rule ≡ false → admin_rule_matches rule contact ≡ false
admin_rule_nowhere contact a far rule none =
    and_left _ (none_or_any (λ entry. admin_entry_matches entry contact.destination contact.spot) rule.ports)
    (ap (λ (end : ModelEnd). list_any (λ peer. admin_peer_matches peer end contact.family) rule.peers) far
    ∙ quieter is_networks (λ peer. admin_peer_matches peer (address a) contact.family) rule.peers (admin_peer_nowhere a contact.family) none)

-- ---- what is left out

-- images that are equal at each item are so where some are left out
images_kept : {X Y : Type 0} (f g : X → Y) (keep : X → Bool) (xs : List X) → map f xs ≡ map g xs → map f (filter keep xs) ≡ map g (filter keep xs)
images_kept f g keep [] same = refl
images_kept {X} {Y} f g keep (x ∷ xs) same = go (keep x) (images_kept f g keep xs (let rest : map f xs ≡ map g xs = cc in rest))
  where
    first : f x ≡ g x
    first = cc

    go : (b : Bool) → map f (filter keep xs) ≡ map g (filter keep xs) → map f (if b then x ∷ filter keep xs else filter keep xs) ≡ map g (if b then x ∷ filter keep xs else filter keep xs)
    go true rest = ap (λ (y : Y). y ∷ map f (filter keep xs)) first ∙ ap (λ (ys : List Y). g x ∷ ys) rest
    go false rest = rest

-- ---- the layer

-- A layer whose parts are those of some rules of a side says at each spot what the side says, where the others match nothing there.
pub walk_of_kept : {S Spot Admin Kept : Type 0} (has : S → Spot → Bool) (in_space : Spot → Bool) (contact_at : Spot → Contact) (keeps_admin : AdminRule → Bool) (keeps_net : NetRule → Bool)
    (side : PodSide) (admin : List AdminRule) (isolated : Bool) (net : List NetRule) (base : List AdminRule) (kept_admin : List Admin) (admin_of : Admin → AdminRule) (kept_net : List Kept)
    (net_of : Kept → NetRule) (namespace : List ℕ) (made : Layer S) →
    ((spot : Spot) (rule : AdminRule) → keeps_admin rule ≡ false → admin_rule_matches rule (contact_at spot) ≡ false) →
    ((spot : Spot) (rule : NetRule) → keeps_net rule ≡ false → net_rule_matches (near_pod side).namespace rule (contact_at spot) ≡ false) →
    KeepsRules side admin isolated net base → map admin_of kept_admin ≡ filter keeps_admin admin → map net_of kept_net ≡ filter keeps_net net →
    namespace ≡ (near_pod side).namespace → Pairwise (IsAdminPart has in_space contact_at) made.admin (map admin_of kept_admin) → made.isolated ≡ isolated →
    ((spot : Spot) → in_space spot ≡ true → list_any (λ set. has set spot) made.net ≡ list_any (λ kept. net_rule_matches namespace (net_of kept) (contact_at spot)) kept_net) →
    Pairwise (IsBasePart has in_space contact_at) made.base base → (spot : Spot) → in_space spot ≡ true → walk_allows (λ set. has set spot) made ≡ side_allows side.lists side.direction (near_pod side) (contact_at spot)
walk_of_kept {S} {Spot} {Admin} {Kept} has in_space contact_at keeps_admin keeps_net side admin isolated net base kept_admin admin_of kept_net net_of namespace made no_admin no_net keeps admin_kept
    net_kept named are_admin same are_net are_base spot within =
    walk_by_tiers has side.lists side.direction (near_pod side) at made spot keeps.ascending (same ∙ keeps.isolation) net_says base_is admin_is
  where
    at : Contact
    at = contact_at spot

    admins : List PlacedAdminRule
    admins = admin_places side.lists.admin_policies side.direction (near_pod side)

    nets : List PlacedNetRule
    nets = net_places side.lists.net_policies side.direction (near_pod side)

    keep_admin : PlacedAdminRule → Bool
    keep_admin placed = keeps_admin placed.rule

    keep_net : PlacedNetRule → Bool
    keep_net placed = keeps_net placed.rule

    admin_rules : map admin_of kept_admin ≡ map (λ placed. placed.rule) (filter keep_admin admins)
    admin_rules = admin_kept ∙ ap (filter keeps_admin) keeps.admin_rules ∙ filter-map (λ placed. placed.rule) keeps_admin admins

    admin_is : (below : Bool) → admin_allows (find (λ part. has part.set spot) made.admin) below ≡ admin_says (find (λ placed. admin_rule_matches placed.rule at) admins) below
    admin_is below =
        admin_same has in_space contact_at spot within below made.admin (filter keep_admin admins)
        (Pairwise-map (IsAdminPart has in_space contact_at) (λ placed. placed.rule) made.admin (filter keep_admin admins)
        (subst (λ (rules : List AdminRule). Pairwise (IsAdminPart has in_space contact_at) made.admin rules) admin_rules are_admin))
        ∙ ap (λ (found : Option PlacedAdminRule). admin_says found below)
        (find_kept (λ placed. admin_rule_matches placed.rule at) keep_admin admins (λ placed none. no_admin spot placed.rule none))

    in_namespace : NetRule → Contact → Bool
    in_namespace = net_rule_matches (near_pod side).namespace

    by_rule : PlacedNetRule → Contact → Bool
    by_rule = matches_in (near_pod side).namespace

    named_ones : map matches_of nets ≡ map by_rule nets
    named_ones = matches_in_namespace side.lists.net_policies side.direction (near_pod side)

    there : (Contact → Bool) → Bool
    there matches = matches at

    by_name : List ℕ → List (Contact → Bool)
    by_name name = map (λ (kept : Kept). net_rule_matches name (net_of kept)) kept_net

    net_matches : map (λ kept. net_rule_matches namespace (net_of kept)) kept_net ≡ map matches_of (filter keep_net nets)
    net_matches =
        ap by_name named
        ∙ sym (map-map net_of in_namespace kept_net)
        ∙ ap (map in_namespace) (net_kept ∙ ap (filter keeps_net) keeps.net_rules ∙ filter-map (λ placed. placed.rule) keeps_net nets)
        ∙ map-map (λ placed. placed.rule) in_namespace (filter keep_net nets)
        ∙ sym (images_kept matches_of by_rule keep_net nets named_ones)

    net_says : list_any (λ set. has set spot) made.net ≡ list_any (placed_net_matches at) nets
    net_says =
        are_net spot within
        ∙ sym (any-map there (λ kept. net_rule_matches namespace (net_of kept)) kept_net)
        ∙ ap (list_any there) net_matches
        ∙ ap (list_any there) (images_kept matches_of by_rule keep_net nets named_ones)
        ∙ any-map there by_rule (filter keep_net nets)
        ∙ any_kept (λ placed. in_namespace placed.rule at) keep_net nets (λ placed none. no_net spot placed.rule none)
        ∙ sym (any-map there by_rule nets)
        ∙ ap (list_any there) (sym named_ones)
        ∙ any-map there matches_of nets

    base_is : base_allows (find (λ part. has part.set spot) made.base) ≡ base_says (find (λ placed. admin_rule_matches placed.rule at) (base_places side.lists.baseline side.direction (near_pod side)))
    base_is =
        base_same has in_space contact_at spot within made.base (base_places side.lists.baseline side.direction (near_pod side))
        (Pairwise-map (IsBasePart has in_space contact_at) (λ placed. placed.rule) made.base (base_places side.lists.baseline side.direction (near_pod side))
        (subst (λ (rules : List AdminRule). Pairwise (IsBasePart has in_space contact_at) made.base rules) keeps.base_rules are_base))

-- ---- a pod

-- A layer whose parts are those of the rules of a side whose peers match an end says what the side says of that end.
pub walk_toward : {Admin Kept : Type 0} (ends : PortSpot → Contact) (near far : ModelEnd) (family : Family) (side : PodSide) (admin : List AdminRule) (isolated : Bool) (net : List NetRule)
    (base : List AdminRule) (kept_admin : List Admin) (admin_of : Admin → AdminRule) (kept_net : List Kept) (net_of : Kept → NetRule) (namespace : List ℕ) (made : Layer Conns) →
    ends ≡ contact side.direction near far family → KeepsRules side admin isolated net base →
    map admin_of kept_admin ≡ filter (admin_rule_reaches far family) admin → map net_of kept_net ≡ filter (net_rule_reaches namespace far) net → namespace ≡ (near_pod side).namespace →
    Pairwise (IsAdminPart has_spot is_spot ends) made.admin (map admin_of kept_admin) → made.isolated ≡ isolated →
    ((spot : PortSpot) → is_spot spot ≡ true → list_any (λ set. has_spot set spot) made.net ≡ list_any (λ kept. net_rule_matches namespace (net_of kept) (ends spot)) kept_net) →
    Pairwise (IsBasePart has_spot is_spot ends) made.base base → (spot : PortSpot) → is_spot spot ≡ true → walk_allows (λ set. has_spot set spot) made ≡ side_allows side.lists side.direction (near_pod side) (contact side.direction near far family spot)
walk_toward ends near far family side admin isolated net base kept_admin admin_of kept_net net_of namespace made is keeps admin_kept net_kept named are_admin same are_net are_base =
    walk_of_kept has_spot is_spot (contact side.direction near far family) (admin_rule_reaches far family) (net_rule_reaches namespace far) side admin isolated net base kept_admin admin_of kept_net
    net_of namespace made (λ spot rule none. and_left _ _ none)
    (λ spot rule none. subst (λ (name : List ℕ). net_rule_matches name rule (contact side.direction near far family spot) ≡ false) named (and_left _ _ none)) keeps admin_kept net_kept named
    (subst (λ at. Pairwise (IsAdminPart has_spot is_spot at) made.admin (map admin_of kept_admin)) is are_admin) same
    (subst (λ (at : PortSpot → Contact). (spot : PortSpot) → is_spot spot ≡ true →
    list_any (λ set. has_spot set spot) made.net ≡ list_any (λ kept. net_rule_matches namespace (net_of kept) (at spot)) kept_net) is are_net)
    (subst (λ at. Pairwise (IsBasePart has_spot is_spot at) made.base base) is are_base)
