-- What a row is made of: connections by which some port passes, a range at whose end what passes changes, and a mark where the families differ.
-- For EachRowLemmas and SameRowsLemmas.
use Rattle.std.proofs.Common.{◌≡◌, ◌≢◌, ◌≤◌, ◌+◌, ℕ, List, [], ◌∷◌, ◌++◌, Bool, true, false, nat_le, All, Contains, Option, None, Some, if◌then◌else◌, arith, refl, sym, ap, subst, ◌∙◌}
use Rattle.std.specs.Prelude.{◌↔◌}
use Rattle.std.proofs.lemmas.Bool.{and_from, false≢true, le-leb}
use Rattle.std.proofs.lemmas.List.Elements.{All-append, All-cons, All-nil}
use Rattle.np_table.proofs.RangeOneList.{AreRight-ordered}
use Rattle.np_command_list.specs.Prelude.{Family, Four, LetSomePass, Pod, PortSpot, Range, Row, RowKey, Six}
use Rattle.np_base.specs.Ranges.{holds}
use Rattle.np_base.proofs.Lists.{Contains-one}
use Rattle.np_conns.specs.Prelude.{AscendsInPorts, Conns, IsConns, are_same_conns, conns_of, has_spot, ranges_of}
use Rattle.np_conns.specs.declared.proto.Proto.{Proto}
use Rattle.np_conns.specs.declared.proto.Proto.TheVariants.{Sctp, Tcp, Udp}
use Rattle.np_conns.proofs.ConnLemmas.{conns_of-set, conns_of-well}
use Rattle.np_model.specs.Prelude.{families_of, has_family, or_four}
use Rattle.np_table.proofs.RangeWalks.{walk-right}
use Rattle.np_table.proofs.SaidLemmas.{are_same_conns-ports}
use Rattle.np_table.specs.Prelude.{AllowSamePorts, AreRight, Stretch, has_no_range, is_nothing, row_if, rows_in, walk}

-- ---- connections

-- ranges that are some hold a port
some_port : (ranges : List (Range ℕ)) → AscendsInPorts ranges → has_no_range ranges ≡ false → (port : ℕ) × (nat_le 1 port ≡ true) × (nat_le port 65535 ≡ true) × (holds (λ p. p) ranges port ≡ true)
some_port [] ascends some = absurd (false≢true (sym some))
some_port (range ∷ ranges) ascends some = (
  range.lo,
  le-leb 1 range.lo ascends.0,
  le-leb range.lo 65535 (omega (arith, ascends.1, ascends.2)),
  rw (le-leb range.lo range.lo (omega arith), le-leb range.lo range.hi ascends.1) refl,
)

some_spot : (conns : Conns) (proto : Proto) → AscendsInPorts (ranges_of conns proto) → has_no_range (ranges_of conns proto) ≡ false → LetSomePass conns
some_spot conns proto ascends some =
    let one = some_port (ranges_of conns proto) ascends some in
    (record { proto = proto; port = one.0 }, and_from (nat_le 1 one.0) (nat_le one.0 65535) one.1 one.2, one.3)

-- by connections that are not nothing some port passes
pub some_pass : (conns : Conns) → IsConns conns → is_nothing conns ≡ false → LetSomePass conns
some_pass conns well some = by (has_no_range conns.tcp) (has_no_range conns.udp) (has_no_range conns.sctp) refl refl refl
  where
    by : (tcp udp sctp : Bool) → has_no_range conns.tcp ≡ tcp → has_no_range conns.udp ≡ udp → has_no_range conns.sctp ≡ sctp → LetSomePass conns
    by false udp sctp is is' is'' = some_spot conns Tcp well.tcp is
    by true false sctp is is' is'' = some_spot conns Udp well.udp is'
    by true true false is is' is'' = some_spot conns Sctp well.sctp is''
    by true true true is is' is'' =
        let nothing : is_nothing conns ≡ true = and_from _ _ (and_from _ _ is is') is'' in absurd (false≢true (sym some ∙ nothing))

-- the rows of connections are none, or the one of a set by which some port passes
pub row_if-each : (Is : Row → Type 0) (key : RowKey) (mark : Option Family) (passes : PortSpot → Bool)
    → (LetSomePass (conns_of passes) → Is (record { key = key; family = mark; conns = conns_of passes })) → All Is (row_if key mark (conns_of passes))
row_if-each Is key mark passes make = by (is_nothing (conns_of passes)) refl
  where
    by : (nothing : Bool) → is_nothing (conns_of passes) ≡ nothing → All Is (if nothing then [] else record { key = key; family = mark; conns = conns_of passes } ∷ [])
    by true is = All-nil Is
    by false is = All-cons Is (record { key = key; family = mark; conns = conns_of passes }) [] (make (some_pass (conns_of passes) (conns_of-well passes) is)) (All-nil Is)

-- ---- families

-- the list has IPv4 alone, IPv6 alone, or both
pub families-cases : (P : List Family → Type 0) → P (Four ∷ []) → P (Six ∷ []) → P (Four ∷ Six ∷ []) → (pods : List Pod) → P (families_of pods)
families-cases P four six both pods = by (has_family pods Four) (has_family pods Six)
  where
    by : (first second : Bool) → P (or_four (if first then Four ∷ (if second then Six ∷ [] else []) else (if second then Six ∷ [] else [])))
    by true true = both
    by true false = four
    by false true = six
    by false false = four

-- the same ports pass in each of some families
abbrev pub Agree : List Family → (Family → PortSpot → Bool) → Type 0
Agree families passes = (one other : Family) → Contains families one → Contains families other → AllowSamePorts (passes one) (passes other)

pub agree-one : (family : Family) (passes : Family → PortSpot → Bool) → Agree (family ∷ []) passes
agree-one family passes = λ one other has has' spot is. ap (λ (own : Family). passes own spot) (sym (Contains-one family one has) ∙ Contains-one family other has')

agree-both : (passes : Family → PortSpot → Bool) → AllowSamePorts (passes Four) (passes Six) → Agree (Four ∷ Six ∷ []) passes
agree-both passes same = λ one other has has'. by one other
  where
    by : (one other : Family) → AllowSamePorts (passes one) (passes other)
    by Four Four = λ spot is. refl
    by Four Six = same
    by Six Four = λ spot is. sym (same spot is)
    by Six Six = λ spot is. refl

no_mark : (family : Family) → Some family ≡ None → ⊥
no_mark family is = cc

-- Each row of two workloads has a mark exactly where the families differ, and by each some port passes.
module _ (Is : Row → Type 0) (key : RowKey) (passes : Family → PortSpot → Bool) where
  abbrev Makes : List Family → Type 0
  Makes families = (mark : Option Family) (family : Family) → ((mark ≡ None) ↔ Agree families passes) → LetSomePass (conns_of (passes family)) → Is
      (record { key = key; family = mark; conns = conns_of (passes family) })

  one-each : (family : Family) → Makes (family ∷ []) → All Is (rows_in (family ∷ []) key (λ one. conns_of (passes one)))
  one-each family make = row_if-each Is key None (passes family) (make None family ((λ unmarked. agree-one family passes), λ agree. refl))

  both-each : Makes (Four ∷ Six ∷ []) → All Is (rows_in (Four ∷ Six ∷ []) key (λ one. conns_of (passes one)))
  both-each make = by (are_same_conns (conns_of (passes Four)) (conns_of (passes Six))) refl
    where
      ports : (are_same_conns (conns_of (passes Four)) (conns_of (passes Six)) ≡ true) ↔ AllowSamePorts (passes Four) (passes Six)
      ports = are_same_conns-ports (passes Four) (passes Six)

      differ : (family : Family) → are_same_conns (conns_of (passes Four)) (conns_of (passes Six)) ≡ false → (Some family ≡ None) ↔ Agree (Four ∷ Six ∷ []) passes
      differ family is = (
        λ unmarked. absurd (no_mark family unmarked),
        λ agree. absurd (false≢true (sym is ∙ ports.1 (agree Four Six (0, omega arith, refl) (1, omega arith, refl)))),
      )

      by : (same : Bool) → are_same_conns (conns_of (passes Four)) (conns_of (passes Six)) ≡ same →
          All Is (if same then row_if key None (conns_of (passes Four)) else row_if key (Some Four) (conns_of (passes Four)) ++ row_if key (Some Six) (conns_of (passes Six)))
      by true is = row_if-each Is key None (passes Four) (make None Four ((λ unmarked. agree-both passes (ports.0 is)), λ agree. refl))
      by false is =
          All-append Is (row_if key (Some Four) (conns_of (passes Four))) (row_if key (Some Six) (conns_of (passes Six)))
          (row_if-each Is key (Some Four) (passes Four) (make (Some Four) Four (differ Four is))) (row_if-each Is key (Some Six) (passes Six) (make (Some Six) Six (differ Six is)))

  pub families-each : (pods : List Pod) → Makes (families_of pods) → All Is (rows_in (families_of pods) key (λ one. conns_of (passes one)))
  families-each = families-cases (λ (families : List Family). Makes families → All Is (rows_in families key (λ one. conns_of (passes one)))) (one-each Four) (one-each Six) both-each

-- ---- ranges

-- A range of numbers up to the greatest of a space is not empty, and behind it something else passes.
pub record IsStretchOf (passes : ℕ → PortSpot → Bool) (high : ℕ) (stretch : Stretch) : Type 0 where
  pub filled : stretch.lo ≤ stretch.hi
  pub within : stretch.hi ≤ high
  pub changes : stretch.hi + 1 ≤ high → AllowSamePorts (has_spot stretch.conns) (passes (stretch.hi + 1)) → ⊥

-- where stretches go on, other connections pass than before
next-differs : (passes : ℕ → PortSpot → Bool) (from high : ℕ) (conns : Conns) (stretches : List Stretch) → AreRight passes from (high + 1) (Some conns) stretches → from ≤ high →
    conns_of (passes from) ≢ conns
next-differs passes from high conns [] right below = absurd (omega (arith, right, below))
next-differs passes from high conns (next ∷ stretches) right below = λ same.
    let start = right.0.start in
    let filled = right.0.filled in
    right.0.differs (ap (λ (one : Conns). Some one) (sym same ∙ right.0.conns from (omega (arith, start)) (omega (arith, start, filled))))

right-stretches : (passes : ℕ → PortSpot → Bool) (from high : ℕ) (before : Option Conns) (stretches : List Stretch) → AreRight passes from (high + 1) before stretches →
    All (IsStretchOf passes high) stretches
right-stretches passes from high before [] right = All-nil (IsStretchOf passes high)
right-stretches passes from high before (stretch ∷ stretches) right =
    let past = AreRight-ordered passes (stretch.hi + 1) (high + 1) (Some stretch.conns) stretches right.1 in
    let same : conns_of (passes stretch.lo) ≡ stretch.conns = right.0.conns stretch.lo (omega arith) right.0.filled in
    let well : IsConns stretch.conns = subst IsConns same (conns_of-well (passes stretch.lo)) in
    All-cons (IsStretchOf passes high) stretch stretches (record {
      filled = right.0.filled;
      within = omega (arith, past);
      changes = λ below alike. next-differs passes (stretch.hi + 1) high stretch.conns stretches right.1 below (sym (conns_of-set stretch.conns (passes (stretch.hi + 1)) well alike));
    })
    (right-stretches passes (stretch.hi + 1) high (Some stretch.conns) stretches right.1)

pub walk-stretches : (passes : ℕ → PortSpot → Bool) (high : ℕ) → All (IsStretchOf passes high) (walk passes 0 high)
walk-stretches passes high = right-stretches passes 0 high None (walk passes 0 high) (walk-right passes 0 high (omega arith))
