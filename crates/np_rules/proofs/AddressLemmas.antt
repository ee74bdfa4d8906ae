-- Sets of addresses, and connections at addresses.
-- For `EveryAddressFarEndsAddrConns::admin_set`, `EveryAddressFarEndsAddrConns::net_set` and 7 more.
use Rattle.std.proofs.Common.{◌≡◌, ℕ, ◌+◌, ◌-◌, ◌^◌, ◌<◌, List, [], ◌∷◌, Bool, true, false, not, ◌&&◌, ◌||◌, refl, sym, ◌∙◌, ap, arith, if◌then◌else◌}
use Rattle.std.specs.List.{list_any}
use Rattle.std.proofs.lemmas.Bool.Decides.{nat_tests}
use Rattle.std.proofs.lemmas.Bool.{and_left, and_parts}
use Rattle.np_addr.specs.Prelude.{AddressRanges, IsAddress, set_has}
use Rattle.np_rules.specs.Prelude.{Address, AddressSpot, AdminRule, At, Direction, First, ModelEnd, NetPeer, NetRule, Piece, PortSpot, Second, Six, Which, address, address_contact, address_of, admin_entry_matches, admin_peer_has, admin_rule_matches, destination_of, has_address_spot, is_address_spot, net_entry_matches, net_peer_has, net_peer_matches, net_rule_matches, none_or_any, spot_of}
use Rattle.np_addr.specs.declared.address.Address.TheVariants.{Four}
use Rattle.np_addr.proofs.BlockLemmas.{ranges_have}
use Rattle.np_base.specs.Beside.{by_side}
use Rattle.np_base.specs.Ranges.{holds}
use Rattle.np_base.proofs.Lists.{list_any-agrees}
use Rattle.np_conns.specs.Prelude.{Conns, has_spot, is_spot}
use Rattle.np_pieces.specs.Pieces as pieces
use Rattle.np_model.specs.declared.network_policy.NetPeer.TheVariants as net
use Rattle.np_sets.specs.Space.{is_between}

-- an address is in the joined set where it is in either
pub set_has-join : (set more made : AddressRanges) → ((spot : Which ℕ ℕ) → ranges_have made spot ≡ (ranges_have set spot || ranges_have more spot)) → (a : Address) →
    set_has made a ≡ (set_has set a || set_has more a)
set_has-join set more made joined (Four n) = joined (First n)
set_has-join set more made joined (Six n) = joined (Second n)

-- a place has what one set has, where the other has nothing and the one is a copy
pub copied_inside : (between inside : Bool) (conns copy none : Conns) (spot : PortSpot) → copy ≡ conns → has_spot none spot ≡ false →
    (between && has_spot (if inside then copy else none) spot) ≡ (between && (inside && has_spot conns spot))
copied_inside between true conns copy none spot same empty = ap (λ set. between && has_spot set spot) same
copied_inside between false conns copy none spot same empty = ap (λ b. between && b) empty

pub has_address_spot-over : (addresses : AddressRanges) (conns : Conns) (first second : List (Piece ℕ Conns)) →
    ((place : At ℕ PortSpot) → pieces.has_spot (λ a. a) has_spot first place ≡
    (is_between 0 (2 ^ 32 - 1) place.point && (holds (λ a. a) addresses.first place.point && has_spot conns place.spot))) →
    ((place : At ℕ PortSpot) → pieces.has_spot (λ a. a) has_spot second place ≡
    (is_between 0 (2 ^ 128 - 1) place.point && (holds (λ a. a) addresses.second place.point && has_spot conns place.spot))) →
    (place : AddressSpot) → is_address_spot place ≡ true → has_address_spot (record { first = first; second = second }) place ≡ (set_has addresses (address_of place) && has_spot conns (spot_of place))
has_address_spot-over addresses conns first second in_first in_second (First place) within =
    in_first place ∙ ap (λ b. b && (holds (λ a. a) addresses.first place.point && has_spot conns place.spot)) (and_parts _ _ within).0
has_address_spot-over addresses conns first second in_first in_second (Second place) within =
    in_second place ∙ ap (λ b. b && (holds (λ a. a) addresses.second place.point && has_spot conns place.spot)) (and_parts _ _ within).0

pub set_has-minus : (set part made : AddressRanges) → ((spot : Which ℕ ℕ) → ranges_have made spot ≡ (ranges_have set spot && not (ranges_have part spot))) → (a : Address) →
    set_has made a ≡ (set_has set a && not (set_has part a))
set_has-minus set part made taken (Four n) = taken (First n)
set_has-minus set part made taken (Six n) = taken (Second n)

pub set_has-nothing : (made : AddressRanges) → ((spot : Which ℕ ℕ) → ranges_have made spot ≡ false) → (a : Address) → set_has made a ≡ false
set_has-nothing made none (Four n) = none (First n)
set_has-nothing made none (Six n) = none (Second n)

-- a number of the family is one between its ends
between : (n last : ℕ) → n < last + 1 → is_between 0 last n ≡ true
between n last below = grind (arith, nat_tests)

pub set_has-everything : (made : AddressRanges) → ((spot : Which ℕ ℕ) → ranges_have made spot ≡ by_side (is_between 0 (2 ^ 32 - 1)) (is_between 0 (2 ^ 128 - 1)) spot) → (a : Address) → IsAddress a →
    set_has made a ≡ true
set_has-everything made all (Four n) below = all (First n) ∙ between n (2 ^ 32 - 1) (omega arith)
set_has-everything made all (Six n) below = all (Second n) ∙ between n (2 ^ 128 - 1) (omega arith)

below : (last n : ℕ) → is_between 0 last n ≡ true → n < last + 1
below last n is = grind (arith, nat_tests)

-- ---- what a rule matches at an address

-- a place of the space has an address and a port
pub place_parts : (place : AddressSpot) → is_address_spot place ≡ true → IsAddress (address_of place) × (is_spot (spot_of place) ≡ true)
place_parts (First place) within = (below (2 ^ 32 - 1) place.point (and_parts _ _ within).0, (and_parts _ _ within).1)
place_parts (Second place) within = (below (2 ^ 128 - 1) place.point (and_parts _ _ within).0, (and_parts _ _ within).1)

-- a namespace changes nothing for an address
net_peer_anywhere : (namespace : List ℕ) (peer : NetPeer) (a : Address) → net_peer_has peer a ≡ net_peer_matches namespace peer (address a)
net_peer_anywhere namespace (net.Pods namespaces pods) a = refl
net_peer_anywhere namespace (net.Block cidr excepts) a = refl

pub none_or_any-same : {X : Type 0} (f g : X → Bool) → ((x : X) → f x ≡ g x) → (xs : List X) → none_or_any f xs ≡ none_or_any g xs
none_or_any-same f g same [] = refl
none_or_any-same f g same (x ∷ xs) = list_any-agrees f g same (x ∷ xs)

-- what a rule of a NetworkPolicy matches at a place: its addresses, with the spots of its port entries
pub net_at_place : (namespace : List ℕ) (rule : NetRule) (direction : Direction) (near : ModelEnd) (addresses : AddressRanges) (conns : Conns) →
    ((a : Address) → IsAddress a → set_has addresses a ≡ none_or_any (λ peer. net_peer_has peer a) rule.peers) →
    ((a : Address) (spot : PortSpot) → is_spot spot ≡ true → has_spot conns spot ≡ none_or_any (λ entry. net_entry_matches entry (destination_of direction near (address a)) spot) rule.ports) →
    (place : AddressSpot) → is_address_spot place ≡ true → (set_has addresses (address_of place) && has_spot conns (spot_of place)) ≡ net_rule_matches namespace rule (address_contact direction near place)
net_at_place namespace rule direction near addresses conns peers ports place within =
    let parts = place_parts place within in
    let a = address_of place in
    ap (λ b. b && has_spot conns (spot_of place)) (peers a parts.0 ∙ none_or_any-same (λ peer. net_peer_has peer a) (λ peer. net_peer_matches namespace peer (address a))
    (λ peer. net_peer_anywhere namespace peer a) rule.peers)
    ∙ ap (λ b. none_or_any (λ peer. net_peer_matches namespace peer (address a)) rule.peers && b) (ports a (spot_of place) parts.1)

-- what an admin rule matches at a place
pub admin_at_place : (rule : AdminRule) (direction : Direction) (near : ModelEnd) (addresses : AddressRanges) (conns : Conns) →
    ((a : Address) → IsAddress a → set_has addresses a ≡ list_any (λ peer. admin_peer_has peer a) rule.peers) →
    ((a : Address) (spot : PortSpot) → is_spot spot ≡ true → has_spot conns spot ≡ none_or_any (λ entry. admin_entry_matches entry (destination_of direction near (address a)) spot) rule.ports) →
    (place : AddressSpot) → is_address_spot place ≡ true → (set_has addresses (address_of place) && has_spot conns (spot_of place)) ≡ admin_rule_matches rule (address_contact direction near place)
admin_at_place rule direction near addresses conns peers ports place within =
    let parts = place_parts place within in
    let a = address_of place in
    ap (λ b. b && has_spot conns (spot_of place)) (peers a parts.0)
    ∙ ap (λ b. list_any (λ peer. admin_peer_has peer a) rule.peers && b) (ports a (spot_of place) parts.1)

-- ---- what a rule matches that has no address

-- a rule of a NetworkPolicy without addresses matches nothing
pub net_nowhere : (namespace : List ℕ) (rule : NetRule) (direction : Direction) (near : ModelEnd) (addresses : AddressRanges) → ((spot : Which ℕ ℕ) → ranges_have addresses spot ≡ false) →
    ((a : Address) → IsAddress a → set_has addresses a ≡ none_or_any (λ peer. net_peer_has peer a) rule.peers) → (place : AddressSpot) → is_address_spot place ≡ true →
    net_rule_matches namespace rule (address_contact direction near place) ≡ false
net_nowhere namespace rule direction near addresses none peers place within =
    let a = address_of place in
    and_left _ _ (
    sym (none_or_any-same (λ peer. net_peer_has peer a) (λ peer. net_peer_matches namespace peer (address a)) (λ peer. net_peer_anywhere namespace peer a) rule.peers)
    ∙ sym (peers a (place_parts place within).0)
    ∙ set_has-nothing addresses none a)

-- nor does an admin rule
pub admin_nowhere : (rule : AdminRule) (direction : Direction) (near : ModelEnd) (addresses : AddressRanges) → ((spot : Which ℕ ℕ) → ranges_have addresses spot ≡ false) →
    ((a : Address) → IsAddress a → set_has addresses a ≡ list_any (λ peer. admin_peer_has peer a) rule.peers) → (place : AddressSpot) → is_address_spot place ≡ true →
    admin_rule_matches rule (address_contact direction near place) ≡ false
admin_nowhere rule direction near addresses none peers place within =
    let a = address_of place in
    and_left _ _ (sym (peers a (place_parts place within).0) ∙ set_has-nothing addresses none a)
