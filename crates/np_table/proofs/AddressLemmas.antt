-- What passes at each address, as the one right list of ranges. For `conns_at` and `rows_by_addresses`.
use Rattle.std.proofs.Common.{◌≡◌, ◌≤◌, ◌-◌, ◌^◌, ◌++◌, ℕ, List, Bool, true, map, lit≤, refl, sym, ◌∙◌}
use Rattle.std.proofs.lemmas.Bool.{and_from, le-leb}
use Rattle.std.proofs.Math.Bool.{and-true}
use Rattle.np_table.specs.Prelude.{Direction, Egress, EstateLists, Family, Four, Ingress, Piece, PortSpot, Six, address_row, four_of, rows_of_addresses, six_of, stretches_of, walk}
use Rattle.np_base.specs.declared.beside.Beside.{Beside}
use Rattle.np_base.specs.declared.beside.Which.TheVariants.{First, Second}
use Rattle.np_conns.specs.Prelude.{Conns, IsConns, has_spot, is_spot}
use Rattle.np_pieces.specs.Prelude.{Covers, has_at}
use Rattle.np_table.proofs.RangeOneList.{right-walk, walk-agrees}
use Rattle.np_table.proofs.RangePieces.{Covers-right}
use Rattle.np_rules.specs.Prelude.{AddressSpot, PodEnd, address_contact, allows, has_address_spot, is_address_spot, pod, side_allows}
use Rattle.np_kinds.specs.Prelude.{with_address}

-- ---- pieces

-- the ranges of pieces that have what passes are the right list
stretches_of-walk : (low high : ℕ) (pieces : List (Piece ℕ Conns)) (passes : ℕ → PortSpot → Bool) → low ≤ high → Covers (λ n. n) IsConns low high pieces →
    ((n : ℕ) (spot : PortSpot) → low ≤ n → n ≤ high → is_spot spot ≡ true → has_at (λ n. n) has_spot pieces n spot ≡ passes n spot) → stretches_of (λ n. n) pieces ≡ walk passes low high
stretches_of-walk low high pieces passes ordered covers agrees =
    right-walk (has_at (λ n. n) has_spot pieces) low high (stretches_of (λ n. n) pieces) ordered (Covers-right (λ n. n) low high pieces covers)
    ∙ walk-agrees (has_at (λ n. n) has_spot pieces) passes low high ordered agrees

-- ---- the pod's side

-- an address has no side of its own, so the pod's side says what passes
side-four : (lists : EstateLists) (direction : Direction) (p : PodEnd) (n : ℕ) (spot : PortSpot) →
    side_allows lists direction p (address_contact direction (pod p) (First (record { point = n; spot = spot }))) ≡ with_address lists direction (pod p) Four n spot
unfolding allows
side-four lists Ingress p n spot = refl
side-four lists Egress p n spot = sym (and-true (side_allows lists Egress p (address_contact Egress (pod p) (First (record { point = n; spot = spot })))))

side-six : (lists : EstateLists) (direction : Direction) (p : PodEnd) (n : ℕ) (spot : PortSpot) →
    side_allows lists direction p (address_contact direction (pod p) (Second (record { point = n; spot = spot }))) ≡ with_address lists direction (pod p) Six n spot
unfolding allows
side-six lists Ingress p n spot = refl
side-six lists Egress p n spot = sym (and-true (side_allows lists Egress p (address_contact Egress (pod p) (Second (record { point = n; spot = spot })))))

-- ---- all addresses of a family

-- the pieces of a set that has what the pod's side allows, for IPv4
pub stretches_of-four : (lists : EstateLists) (direction : Direction) (p : PodEnd) (made : Beside (List (Piece ℕ Conns)) (List (Piece ℕ Conns))) → Covers (λ n. n) IsConns 0 (2 ^ 32 - 1) made.first →
    ((place : AddressSpot) → is_address_spot place ≡ true → has_address_spot made place ≡ side_allows lists direction p (address_contact direction (pod p) place)) →
    stretches_of (λ n. n) made.first ≡ walk (with_address lists direction (pod p) Four) 0 (2 ^ 32 - 1)
stretches_of-four lists direction p made covers agrees =
    stretches_of-walk 0 (2 ^ 32 - 1) made.first (with_address lists direction (pod p) Four) (lit≤ tt) covers (λ n spot above below is.
    agrees (First (record { point = n; spot = spot })) (and_from _ _ (and_from _ _ (le-leb 0 n above) (le-leb n (2 ^ 32 - 1) below)) is) ∙ side-four lists direction p n spot)

-- and for IPv6
pub stretches_of-six : (lists : EstateLists) (direction : Direction) (p : PodEnd) (made : Beside (List (Piece ℕ Conns)) (List (Piece ℕ Conns))) → Covers (λ n. n) IsConns 0 (2 ^ 128 - 1) made.second →
    ((place : AddressSpot) → is_address_spot place ≡ true → has_address_spot made place ≡ side_allows lists direction p (address_contact direction (pod p) place)) →
    stretches_of (λ n. n) made.second ≡ walk (with_address lists direction (pod p) Six) 0 (2 ^ 128 - 1)
stretches_of-six lists direction p made covers agrees =
    stretches_of-walk 0 (2 ^ 128 - 1) made.second (with_address lists direction (pod p) Six) (lit≤ tt) covers (λ n spot above below is.
    agrees (Second (record { point = n; spot = spot })) (and_from _ _ (and_from _ _ (le-leb 0 n above) (le-leb n (2 ^ 128 - 1) below)) is) ∙ side-six lists direction p n spot)

-- ---- rows

-- the rows of the ranges of both families are those of all addresses
pub rows_of_addresses-made : (passes : Family → ℕ → PortSpot → Bool) (made : Beside (List (Piece ℕ Conns)) (List (Piece ℕ Conns))) →
    stretches_of (λ n. n) made.first ≡ walk (passes Four) 0 (2 ^ 32 - 1) → stretches_of (λ n. n) made.second ≡ walk (passes Six) 0 (2 ^ 128 - 1) →
    map (address_row four_of) (stretches_of (λ n. n) made.first) ++ map (address_row six_of) (stretches_of (λ n. n) made.second) ≡ rows_of_addresses passes
rows_of_addresses-made passes made four six = rw (four, six) refl
