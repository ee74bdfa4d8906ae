-- Where nothing is found, nothing is to be found. For `first_from_addresses`, `first_to_addresses` and crates above.
use Rattle.std.proofs.Common.{◌≡◌, ℕ, ◌+◌, ◌^◌, ◌<◌, ◌≤◌, ◌&&◌, not, nat_le, List, [], ◌∷◌, Bool, true, false, Option, Some, None, Contains, option_map, refl, sym, ap, ◌∙◌, inl, inr, arith, if◌then◌else◌}
use Rattle.std.specs.Option.{option_or}
use Rattle.std.proofs.lemmas.Bool.{and_from, and_parts, cases_Bool, le-leb, leb-true, true≢false}
use Rattle.std.proofs.lemmas.List.Elements.{All-contains}
use Rattle.np_addr.specs.Prelude.{AddressRanges, IsAddress, set_has}
use Rattle.np_check.specs.Prelude.{Address, Four, PortSpot, Proto, Sctp, Six, Tcp, Udp, Wanted, addresses_of, breaks, complies, family_addresses, first_given, first_of_ports, first_of_proto, first_spot}
use Rattle.np_check.proofs.BrokenLemmas.{addresses_upto, upto-below, upto-each}
use Rattle.np_check.proofs.FirstLemmas.{find-none, first_of-append, none-found, none_both, none_each}
use Rattle.np_check.proofs.MemberLemmas.{further_on}
use Rattle.np_addr.proofs.SameLists.{Contains-first}
use Rattle.np_conns.specs.Prelude.{Conns, has_spot, is_spot}

-- ---- of a list

pub none_at : {X Y : Type 0} (gives : X → Option Y) (xs : List X) (x : X) → first_given gives xs ≡ None → Contains xs x → gives x ≡ None
none_at gives xs x none has = All-contains (λ y. gives y ≡ None) xs x (none_each gives xs none) has

pub both_none : {Y : Type 0} (first rest : Option Y) → first ≡ None → rest ≡ None → option_or first rest ≡ None
both_none first rest no_first no_rest = ap (λ one. option_or one rest) no_first ∙ no_rest

pub none_all : {X Y : Type 0} (gives : X → Option Y) (xs : List X) → ((x : X) → Contains xs x → gives x ≡ None) → first_given gives xs ≡ None
none_all gives [] never = refl
none_all gives (x ∷ xs) never =
    both_none (gives x) (first_given gives xs) (never x (Contains-first x xs)) (none_all gives xs (λ y has. never y (further_on x xs y has)))

-- ---- of protocols and ports

pub none_map : {X Y : Type 0} (to : X → Y) (found : Option X) → option_map to found ≡ None → found ≡ None
none_map to None none = refl
none_map to (Some x) none = cc

pub no_port : (passes : PortSpot → Bool) (proto : Proto) (first count port : ℕ) → first_of_ports passes proto first count ≡ None → first ≤ port → port < first + count →
    passes (record { proto = proto; port = port }) ≡ false
unfolding first_of_ports
no_port passes proto first count port none above below =
    none-found (λ n. passes (record { proto = proto; port = n })) first count (none_map (λ n. record { proto = proto; port = n }) _ none) port above below

no_ports : (passes : PortSpot → Bool) (proto : Proto) (first count : ℕ) → ((port : ℕ) → first ≤ port → port < first + count → passes (record { proto = proto; port = port }) ≡ false) →
    first_of_ports passes proto first count ≡ None
unfolding first_of_ports
no_ports passes proto first count never = ap (option_map (λ port. record { proto = proto; port = port })) (find-none (λ n. passes (record { proto = proto; port = n })) first count never)

each_proto : (passes : PortSpot → Bool) → first_spot passes ≡ None → (proto : Proto) → first_of_proto passes proto ≡ None
unfolding first_spot
each_proto passes none =
    let tcp = none_both (first_of_proto passes Tcp) (first_given (first_of_proto passes) (Udp ∷ Sctp ∷ [])) none in
    let udp = none_both (first_of_proto passes Udp) (first_given (first_of_proto passes) (Sctp ∷ [])) tcp.1 in
    let sctp = none_both (first_of_proto passes Sctp) None udp.1 in
    elim [ Tcp ↦ tcp.0 | Udp ↦ udp.0 | Sctp ↦ sctp.0 ]

pub no_spot : (passes : PortSpot → Bool) (spot : PortSpot) → first_spot passes ≡ None → is_spot spot ≡ true → passes spot ≡ false
no_spot passes spot none is =
    let parts = and_parts (nat_le 1 spot.port) (nat_le spot.port 65535) is in
    no_port passes spot.proto 1 65535 spot.port (each_proto passes none spot.proto) (leb-true 1 spot.port parts.0) (omega (arith, leb-true spot.port 65535 parts.1))

pub no_spots : (passes : PortSpot → Bool) → ((spot : PortSpot) → is_spot spot ≡ true → passes spot ≡ false) → first_spot passes ≡ None
unfolding first_spot
no_spots passes never =
    let of : (proto : Proto) → first_of_proto passes proto ≡ None = λ proto. no_ports passes proto 1 65535
    (λ port above below. never (record { proto = proto; port = port }) (and_from (nat_le 1 port) (nat_le port 65535) (le-leb 1 port above) (le-leb port 65535 (omega arith)))) in
    both_none (first_of_proto passes Tcp) _ (of Tcp) (both_none (first_of_proto passes Udp) _ (of Udp) (both_none (first_of_proto passes Sctp) None (of Sctp) refl))

by_complies : (does : Bool) → (true && not does) ≡ false → does ≡ true
by_complies true whole = refl
by_complies false whole = cc

-- what does not break the statement complies
pub not_broken : (wanted : Wanted) (conns : Conns) (allowed : PortSpot → Bool) (spot : PortSpot) → breaks wanted conns allowed spot ≡ false → has_spot conns spot ≡ true →
    complies wanted (allowed spot) ≡ true
not_broken wanted conns allowed spot whole has = by_complies (complies wanted (allowed spot)) (sym (ap (λ (first : Bool). first && not (complies wanted (allowed spot))) has) ∙ whole)

pub is_whole : (wanted : Wanted) (conns : Conns) (allowed : PortSpot → Bool) (spot : PortSpot) → (has_spot conns spot ≡ true → complies wanted (allowed spot) ≡ true) →
    breaks wanted conns allowed spot ≡ false
is_whole wanted conns allowed spot does =
    elim (cases_Bool (has_spot conns spot)) [
      | inl has ↦ ap (λ (first : Bool). first && not (complies wanted (allowed spot))) has ∙ ap not (does has)
      | inr lacks ↦ ap (λ (first : Bool). first && not (complies wanted (allowed spot))) lacks
    ]

-- ---- of addresses

none_then : {Y : Type 0} (has : Bool) (gives : Option Y) → (if has then gives else None) ≡ None → has ≡ true → gives ≡ None
none_then true gives none has = none
none_then false gives none has = cc

then_none : {Y : Type 0} (has : Bool) (gives : Option Y) → (has ≡ true → gives ≡ None) → (if has then gives else None) ≡ None
then_none true gives none = none refl
then_none false gives none = refl

family_none : {Y : Type 0} (set : AddressRanges) (address : ℕ → Address) (gives : Address → Option Y) (count n : ℕ) → first_given gives (family_addresses set address count) ≡ None → n < count →
    set_has set (address n) ≡ true → gives (address n) ≡ None
family_none set address gives count n none below has =
    none_then (set_has set (address n)) (gives (address n)) (upto-each (λ m. if set_has set (address m) then gives (address m) else None) count n
    (sym (addresses_upto set address gives count) ∙ none) below) has

none_family : {Y : Type 0} (set : AddressRanges) (address : ℕ → Address) (gives : Address → Option Y) (count : ℕ) → ((n : ℕ) → n < count → set_has set (address n) ≡ true → gives (address n) ≡ None) →
    first_given gives (family_addresses set address count) ≡ None
none_family set address gives count never =
    addresses_upto set address gives count ∙ upto-below (λ n. if set_has set (address n) then gives (address n) else None) count
    (λ n below. then_none (set_has set (address n)) (gives (address n)) (never n below))

pub no_address : {Y : Type 0} (set : AddressRanges) (gives : Address → Option Y) (address : Address) → first_given gives (addresses_of set) ≡ None → IsAddress address → set_has set address ≡ true →
    gives address ≡ None
no_address set gives (Four n) none is has =
    family_none set Four gives (2 ^ 32) n (none_both (first_given gives (family_addresses set Four (2 ^ 32))) (first_given gives (family_addresses set Six (2 ^ 128)))
    (sym (first_of-append gives (family_addresses set Four (2 ^ 32)) (family_addresses set Six (2 ^ 128))) ∙ none)).0 is has
no_address set gives (Six n) none is has =
    family_none set Six gives (2 ^ 128) n (none_both (first_given gives (family_addresses set Four (2 ^ 32))) (first_given gives (family_addresses set Six (2 ^ 128)))
    (sym (first_of-append gives (family_addresses set Four (2 ^ 32)) (family_addresses set Six (2 ^ 128))) ∙ none)).1 is has

pub no_addresses : {Y : Type 0} (set : AddressRanges) (gives : Address → Option Y) → ((address : Address) → IsAddress address → set_has set address ≡ true → gives address ≡ None) →
    first_given gives (addresses_of set) ≡ None
no_addresses set gives never =
    first_of-append gives (family_addresses set Four (2 ^ 32)) (family_addresses set Six (2 ^ 128))
    ∙ both_none (first_given gives (family_addresses set Four (2 ^ 32))) (first_given gives (family_addresses set Six (2 ^ 128)))
    (none_family set Four gives (2 ^ 32) (λ n below has. never (Four n) below has)) (none_family set Six gives (2 ^ 128) (λ n below has. never (Six n) below has))

-- where a set has no address, nothing is found
pub none_of : {Y : Type 0} (set : AddressRanges) (gives : Address → Option Y) → ((n : ℕ) → set_has set (Four n) ≡ false) → ((n : ℕ) → set_has set (Six n) ≡ false) →
    None ≡ first_given gives (addresses_of set)
none_of set gives no_four no_six = sym (no_addresses set gives (λ address is has. absurd (true≢false (sym has ∙ lacks address))))
  where
    lacks : (address : Address) → set_has set address ≡ false
    lacks (Four n) = no_four n
    lacks (Six n) = no_six n
