-- What the rules of ranges of addresses allow. For FlatVerdicts, ReceiverFacts and crates above.
use Rattle.std.proofs.Common.{◌≡◌, ℕ, ◌+◌, ◌-◌, ◌^◌, ◌<◌, ◌≤◌, List, [], ◌∷◌, Bool, true, false, ◌&&◌, ◌||◌, nat_le, Option, Some, None, map, if◌then◌else◌, lit≤, refl, sym, ap, ◌∙◌, arith, inl, inr}
use Rattle.std.specs.List.{AllByRecursion, list_any}
use Rattle.std.proofs.lemmas.Bool.{and_from, cases_lt, le-leb, lt-leb, true≢false}
use Rattle.std.proofs.lemmas.List.Folds.{list_any-append}
use Rattle.std.proofs.Math.Bool.{and-false, and-true, or-false}
use Rattle.np_addr.proofs.RightPrefixes.{prefixes_of-right}
use Rattle.np_addr.specs.Prelude.{IsAddressSet, block_has, cidr_has, prefixes_of, set_has, some_block_has}
use Rattle.np_addr.specs.declared.address.Address.{Address}
use Rattle.np_addr.specs.declared.address.Address.TheVariants as address
use Rattle.np_flatten.specs.Prelude.{AddressRow, AddressSpan, Block, Family, NetPeer, NetRule, PortSpot, blocks_of_span, ports_of, ranges_of_span, rule_if, rules_of_addresses}
use Rattle.np_addr.specs.declared.address.Family.TheVariants as family
use Rattle.np_addr.specs.declared.cidr.Cidr.{Cidr}
use Rattle.np_conns.specs.Prelude.{Conns, has_spot, is_spot}
use Rattle.np_rules.specs.Prelude.{Contact, ModelEnd, PodEnd, address, net_entry_matches, net_peer_matches, net_rule_matches, none_or_any, pod}
use Rattle.np_rules.proofs.StrangerLemmas.{any-map}
use Rattle.np_flatten.proofs.PortLemmas.{is_none-map, none_or_any-some, ports-match}
use Rattle.np_table.proofs.RangeWalks.{walk-right}
use Rattle.np_conns.proofs.ConnLemmas.{conns_of-has}
use Rattle.np_table.specs.Prelude.{AreRight, IsInFamily, Stretch, address_row, four_of, has_no_range, is_nothing, is_within, rows_of_addresses, six_of, span_has, walk}
use Rattle.np_kinds.specs.Prelude.{address_numbered}
use Rattle.np_table.specs.declared.rows.AddressSpan.TheVariants as span
use Rattle.np_base.proofs.Each.{All-append}
use Rattle.np_table.proofs.SaidLemmas.{has_spot-nothing}
use Rattle.np_base.proofs.Lists.{list_any-agrees}

-- ---- the right list

-- whether a stretch has a number and a spot
abbrev tells : ℕ → PortSpot → Stretch → Bool
tells n spot stretch = is_within n stretch && has_spot stretch.conns spot

-- stretches behind a number do not have it
later-none : (passes : ℕ → PortSpot → Bool) (n from to : ℕ) (before : Option Conns) (stretches : List Stretch) (spot : PortSpot) → AreRight passes from to before stretches → n < from →
    list_any (tells n spot) stretches ≡ false
later-none passes n from to before [] spot are less = refl
later-none passes n from to before (stretch ∷ stretches) spot are less =
    rw (lt-leb stretch.lo n (omega (arith, are.0.start, less)))
    (later-none passes n (stretch.hi + 1) to (Some stretch.conns) stretches spot are.1 (omega (arith, are.0.start, are.0.filled, less)))

-- some stretch of the right list has a number and a spot where the spot passes at the number
right-any : (passes : ℕ → PortSpot → Bool) (n from to : ℕ) (before : Option Conns) (stretches : List Stretch) (spot : PortSpot) → AreRight passes from to before stretches → from ≤ n → n < to →
    is_spot spot ≡ true → list_any (tells n spot) stretches ≡ passes n spot
right-any passes n from to before [] spot are low high is = absurd (omega (arith, are, low, high))
right-any passes n from to before (stretch ∷ stretches) spot are low high is =
    elim (cases_lt stretch.hi n) [
      | inl past ↦
          rw (lt-leb n stretch.hi past)
          (ap (λ (b : Bool). b && has_spot stretch.conns spot || list_any (tells n spot) stretches) (and-false (nat_le stretch.lo n))
          ∙ right-any passes n (stretch.hi + 1) to (Some stretch.conns) stretches spot are.1 (omega arith) high is)
      | inr inside ↦
          let lo = le-leb stretch.lo n (omega (arith, are.0.start, low)) in
          let hi = le-leb n stretch.hi inside in
          rw (lo, hi, later-none passes n (stretch.hi + 1) to (Some stretch.conns) stretches spot are.1 (omega arith))
          (or-false (has_spot stretch.conns spot)
          ∙ ap (λ (conns : Conns). has_spot conns spot) (sym (are.0.conns n (omega (arith, are.0.start, low)) inside))
          ∙ conns_of-has (passes n) spot is)
    ]

walk-any : (passes : ℕ → PortSpot → Bool) (high n : ℕ) (spot : PortSpot) → n ≤ high → is_spot spot ≡ true → list_any (tells n spot) (walk passes 0 high) ≡ passes n spot
walk-any passes high n spot below is = right-any passes n 0 (high + 1) None (walk passes 0 high) spot (walk-right passes 0 high (omega arith)) (omega arith) (omega arith) is

-- ---- the rows of all addresses

-- whether a row has an address and a spot
abbrev pub row_tells : Family → ℕ → PortSpot → AddressRow → Bool
row_tells family number spot row = span_has row.span family number && has_spot row.conns spot

pub any-never : {X : Type 0} (xs : List X) → list_any (λ (x : X). false) xs ≡ false
any-never [] = refl
any-never (x ∷ xs) = any-never xs

-- some row has an address and a spot where the spot passes there
pub rows-any : (passes : Family → ℕ → PortSpot → Bool) (family : Family) (number : ℕ) (spot : PortSpot) → IsInFamily family number → is_spot spot ≡ true →
    list_any (row_tells family number spot) (rows_of_addresses passes) ≡ passes family number spot
rows-any passes family.Four number spot within is =
    list_any-append (row_tells family.Four number spot) (map (address_row four_of) (walk (passes family.Four) 0 (2 ^ 32 - 1))) (map (address_row six_of) (walk (passes family.Six) 0 (2 ^ 128 - 1)))
    ∙ ap (λ (b : Bool). list_any (row_tells family.Four number spot) (map (address_row four_of) (walk (passes family.Four) 0 (2 ^ 32 - 1))) || b)
    (any-map (row_tells family.Four number spot) (address_row six_of) (walk (passes family.Six) 0 (2 ^ 128 - 1)) ∙ any-never (walk (passes family.Six) 0 (2 ^ 128 - 1)))
    ∙ or-false (list_any (row_tells family.Four number spot) (map (address_row four_of) (walk (passes family.Four) 0 (2 ^ 32 - 1))))
    ∙ any-map (row_tells family.Four number spot) (address_row four_of) (walk (passes family.Four) 0 (2 ^ 32 - 1))
    ∙ walk-any (passes family.Four) (2 ^ 32 - 1) number spot within is
rows-any passes family.Six number spot within is =
    list_any-append (row_tells family.Six number spot) (map (address_row four_of) (walk (passes family.Four) 0 (2 ^ 32 - 1))) (map (address_row six_of) (walk (passes family.Six) 0 (2 ^ 128 - 1)))
    ∙ ap (λ (b : Bool). b || list_any (row_tells family.Six number spot) (map (address_row six_of) (walk (passes family.Six) 0 (2 ^ 128 - 1))))
    (any-map (row_tells family.Six number spot) (address_row four_of) (walk (passes family.Four) 0 (2 ^ 32 - 1)) ∙ any-never (walk (passes family.Four) 0 (2 ^ 32 - 1)))
    ∙ any-map (row_tells family.Six number spot) (address_row six_of) (walk (passes family.Six) 0 (2 ^ 128 - 1))
    ∙ walk-any (passes family.Six) (2 ^ 128 - 1) number spot within is

-- ---- spans are not empty, and of their family

abbrev pub IsWellSpan : AddressSpan → Type 0
IsWellSpan (span.Four range) = (range.lo ≤ range.hi) × (range.hi ≤ 2 ^ 32 - 1)
IsWellSpan (span.Six range) = (range.lo ≤ range.hi) × (range.hi ≤ 2 ^ 128 - 1)

-- what follows a stretch does not end before it
ends : (passes : ℕ → PortSpot → Bool) (from to last hi : ℕ) (before : Option Conns) (stretches : List Stretch) → AreRight passes from to before stretches → from ≡ hi + 1 → to ≡ last + 1 →
    hi ≤ last
ends passes from to last hi before [] are is is' = omega (arith, are, is, is')
ends passes from to last hi before (stretch ∷ stretches) are is is' = omega
    (arith, are.0.start, are.0.filled, is, ends passes (stretch.hi + 1) to last stretch.hi (Some stretch.conns) stretches are.1 refl is')

wells-four : (passes : ℕ → PortSpot → Bool) (from : ℕ) (before : Option Conns) (stretches : List Stretch) → AreRight passes from (2 ^ 32 - 1 + 1) before stretches →
    AllByRecursion (λ (row : AddressRow). IsWellSpan row.span) (map (address_row four_of) stretches)
wells-four passes from before [] are = tt
wells-four passes from before (stretch ∷ stretches) are = (
  (are.0.filled, ends passes (stretch.hi + 1) (2 ^ 32 - 1 + 1) (2 ^ 32 - 1) stretch.hi (Some stretch.conns) stretches are.1 refl refl),
  wells-four passes (stretch.hi + 1)
      (Some stretch.conns) stretches are.1,
)

wells-six : (passes : ℕ → PortSpot → Bool) (from : ℕ) (before : Option Conns) (stretches : List Stretch) → AreRight passes from (2 ^ 128 - 1 + 1) before stretches →
    AllByRecursion (λ (row : AddressRow). IsWellSpan row.span) (map (address_row six_of) stretches)
wells-six passes from before [] are = tt
wells-six passes from before (stretch ∷ stretches) are = (
  (are.0.filled, ends passes (stretch.hi + 1) (2 ^ 128 - 1 + 1) (2 ^ 128 - 1) stretch.hi (Some stretch.conns) stretches are.1 refl refl),
  wells-six passes (stretch.hi + 1)
      (Some stretch.conns) stretches are.1,
)

pub rows-well : (passes : Family → ℕ → PortSpot → Bool) → AllByRecursion (λ (row : AddressRow). IsWellSpan row.span) (rows_of_addresses passes)
rows-well passes =
    All-append (λ (row : AddressRow). IsWellSpan row.span) (map (address_row four_of) (walk (passes family.Four) 0 (2 ^ 32 - 1))) (map (address_row six_of) (walk (passes family.Six) 0 (2 ^ 128 - 1)))
    (wells-four (passes family.Four) 0 None (walk (passes family.Four) 0 (2 ^ 32 - 1)) (walk-right (passes family.Four) 0 (2 ^ 32 - 1) (lit≤ tt)))
    (wells-six (passes family.Six) 0 None (walk (passes family.Six) 0 (2 ^ 128 - 1)) (walk-right (passes family.Six) 0 (2 ^ 128 - 1) (lit≤ tt)))

-- ---- blocks

pub span-set : (s : AddressSpan) → IsWellSpan s → IsAddressSet (ranges_of_span s)
span-set (span.Four range) well = ((omega arith, well.0, well.1, tt), tt)
span-set (span.Six range) well = (tt, (omega arith, well.0, well.1, tt))

-- the set of a span has the addresses of the span
set-span : (s : AddressSpan) (family : Family) (number : ℕ) → set_has (ranges_of_span s) (address_numbered family number) ≡ span_has s family number
set-span (span.Four range) family.Four number = or-false (nat_le range.lo number && nat_le number range.hi)
set-span (span.Four range) family.Six number = refl
set-span (span.Six range) family.Four number = refl
set-span (span.Six range) family.Six number = or-false (nat_le range.lo number && nat_le number range.hi)

blocks-any : (namespace : List ℕ) (cidrs : List Cidr) (a : Address) → list_any (λ peer. net_peer_matches namespace peer (address a)) (map (λ cidr. Block cidr []) cidrs) ≡ some_block_has cidrs a
blocks-any namespace cidrs a =
    any-map (λ (peer : NetPeer). net_peer_matches namespace peer (address a)) (λ (cidr : Cidr). Block cidr []) cidrs
    ∙ list_any-agrees (λ (cidr : Cidr). block_has cidr [] a) (λ (cidr : Cidr). cidr_has cidr a) (λ cidr. and-true (cidr_has cidr a)) cidrs

-- a peer of a span matches the addresses of the span
span-any : (namespace : List ℕ) (s : AddressSpan) (family : Family) (number : ℕ) → IsWellSpan s →
    list_any (λ peer. net_peer_matches namespace peer (address (address_numbered family number))) (blocks_of_span s) ≡ span_has s family number
span-any namespace s family number well =
    blocks-any namespace (prefixes_of (ranges_of_span s)) (address_numbered family number)
    ∙ (prefixes_of-right (ranges_of_span s) (span-set s well)).exact (address_numbered family number)
    ∙ set-span s family number

some-block : (cidrs : List Cidr) (a : Address) → some_block_has cidrs a ≡ true → has_no_range cidrs ≡ false
some-block [] a has = absurd (true≢false (sym has))
some-block (cidr ∷ cidrs) a has = refl

first-there : (s : AddressSpan) → IsWellSpan s → (a : Address) × (set_has (ranges_of_span s) a ≡ true)
first-there (span.Four range) well = (
  address.Four range.lo,
  ap (λ (b : Bool). b || false)
      (and_from (nat_le range.lo range.lo) (nat_le range.lo range.hi) (le-leb range.lo range.lo (omega arith)) (le-leb range.lo range.hi well.0)),
)
first-there (span.Six range) well = (
  address.Six range.lo,
  ap (λ (b : Bool). b || false)
      (and_from (nat_le range.lo range.lo) (nat_le range.lo range.hi) (le-leb range.lo range.lo (omega arith)) (le-leb range.lo range.hi well.0)),
)

-- a span has a block
span-some : (s : AddressSpan) → IsWellSpan s → has_no_range (blocks_of_span s) ≡ false
span-some s well =
    let first = first-there s well in
    is_none-map (λ (cidr : Cidr). Block cidr []) (prefixes_of (ranges_of_span s))
    ∙ some-block (prefixes_of (ranges_of_span s)) first.0 ((prefixes_of-right (ranges_of_span s) (span-set s well)).exact first.0 ∙ first.1)

-- ---- rules

abbrev pub at_address : Family → ℕ → ModelEnd → PortSpot → Contact
at_address family number destination spot = record { far = address (address_numbered family number); destination = destination; family = family; spot = spot }

row-permits : (namespace : List ℕ) (row : AddressRow) (family : Family) (number : ℕ) (destination : ModelEnd) (spot : PortSpot) → IsWellSpan row.span → is_spot spot ≡ true →
    list_any (λ rule. net_rule_matches namespace rule (at_address family number destination spot)) (rule_if (blocks_of_span row.span) row.conns) ≡ row_tells family number spot row
row-permits namespace row family number destination spot well is = by (is_nothing row.conns) refl
  where
    by : (nothing : Bool) → is_nothing row.conns ≡ nothing →
        list_any (λ rule. net_rule_matches namespace rule (at_address family number destination spot))
        (if nothing then [] else record { peers = blocks_of_span row.span; ports = ports_of row.conns } ∷ []) ≡ row_tells family number spot row
    by true none = sym (ap (λ (b : Bool). span_has row.span family number && b) (has_spot-nothing row.conns spot none) ∙ and-false (span_has row.span family number))
    by false some =
        or-false (none_or_any (λ peer. net_peer_matches namespace peer (address (address_numbered family number))) (blocks_of_span row.span) && none_or_any
        (λ entry. net_entry_matches entry destination spot) (ports_of row.conns))
        ∙ rw (
          none_or_any-some (λ (peer : NetPeer). net_peer_matches namespace peer (address (address_numbered family number))) (blocks_of_span row.span) (span-some row.span well),
          span-any namespace row.span family number well,
          ports-match row.conns destination spot is some,
        ) refl

-- some rule of the ranges of addresses matches an address where some row has it
pub addresses-permit : (namespace : List ℕ) (rows : List AddressRow) (family : Family) (number : ℕ) (destination : ModelEnd) (spot : PortSpot) →
    AllByRecursion (λ (row : AddressRow). IsWellSpan row.span) rows → is_spot spot ≡ true →
    list_any (λ rule. net_rule_matches namespace rule (at_address family number destination spot)) (rules_of_addresses rows) ≡ list_any (row_tells family number spot) rows
addresses-permit namespace [] family number destination spot wells is = refl
addresses-permit namespace (row ∷ rows) family number destination spot wells is =
    list_any-append (λ (rule : NetRule). net_rule_matches namespace rule (at_address family number destination spot)) (rule_if (blocks_of_span row.span) row.conns) (rules_of_addresses rows)
    ∙ rw (row-permits namespace row family number destination spot wells.0 is, addresses-permit namespace rows family number destination spot wells.1 is) refl

-- ---- no pod

blocks-pod : (namespace : List ℕ) (cidrs : List Cidr) (p : PodEnd) → list_any (λ peer. net_peer_matches namespace peer (pod p)) (map (λ cidr. Block cidr []) cidrs) ≡ false
blocks-pod namespace [] p = refl
blocks-pod namespace (cidr ∷ cidrs) p = blocks-pod namespace cidrs p

row-pod : (namespace : List ℕ) (row : AddressRow) (p : PodEnd) (family : Family) (destination : ModelEnd) (spot : PortSpot) → IsWellSpan row.span →
    list_any (λ rule. net_rule_matches namespace rule (record { far = pod p; destination = destination; family = family; spot = spot })) (rule_if (blocks_of_span row.span) row.conns) ≡ false
row-pod namespace row p family destination spot well = by (is_nothing row.conns)
  where
    by : (nothing : Bool) →
        list_any (λ rule. net_rule_matches namespace rule (record { far = pod p; destination = destination; family = family; spot = spot }))
        (if nothing then [] else record { peers = blocks_of_span row.span; ports = ports_of row.conns } ∷ []) ≡ false
    by true = refl
    by false =
        rw (
          none_or_any-some (λ (peer : NetPeer). net_peer_matches namespace peer (pod p)) (blocks_of_span row.span) (span-some row.span well),
          blocks-pod namespace
              (prefixes_of (ranges_of_span row.span)) p,
        ) refl

-- no rule of a range of addresses matches a pod
pub addresses-no_pod : (namespace : List ℕ) (rows : List AddressRow) (p : PodEnd) (family : Family) (destination : ModelEnd) (spot : PortSpot) →
    AllByRecursion (λ (row : AddressRow). IsWellSpan row.span) rows →
    list_any (λ rule. net_rule_matches namespace rule (record { far = pod p; destination = destination; family = family; spot = spot })) (rules_of_addresses rows) ≡ false
addresses-no_pod namespace [] p family destination spot wells = refl
addresses-no_pod namespace (row ∷ rows) p family destination spot wells =
    list_any-append (λ (rule : NetRule). net_rule_matches namespace rule (record { far = pod p; destination = destination; family = family; spot = spot }))
    (rule_if (blocks_of_span row.span) row.conns) (rules_of_addresses rows)
    ∙ rw (row-pod namespace row p family destination spot wells.0, addresses-no_pod namespace rows p family destination spot wells.1) refl
