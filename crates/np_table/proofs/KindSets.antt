-- What passes between the pods that stand for kinds, by the sets that their sides allow. For `set_of_kinds`.
use Rattle.std.proofs.Common.{◌≡◌, ◌<◌, ℕ, true, false, ◌&&◌, is_some, length, slice_index, refl, sym, ap, subst, ◌∙◌}
use Rattle.np_conns.specs.Prelude.{Conns, IsConns, has_spot, is_spot}
use Rattle.np_fold.specs.Prelude.{folding_of}
use Rattle.np_kinds.specs.Prelude.{IsWorkload, KnownSides, KnowsMore, kind_side, known_at, knows, side_allows_pod}
use Rattle.np_rules.specs.Prelude.{PodSide}
use Rattle.np_table.proofs.SideLemmas.{both-pass, received-pass}
use Rattle.np_table.specs.Prelude.{AreEnds, Direction, Egress, EstateLists, Family, Ingress, KnowsPair, PortSpot, conns_of_kinds}

-- ---- what is known

knows-more : (old new : KnownSides) (direction : Direction) (workload : ℕ) → KnowsMore old new → knows old direction workload ≡ true → knows new direction workload ≡ true
knows-more old new Egress workload more known =
    more.senders.each (slice_index (folding_of new.lists).kinds workload)
    (subst (λ (l : EstateLists). is_some (known_at old.senders (slice_index (folding_of l).kinds workload)) ≡ true) (sym more.lists) known)
knows-more old new Ingress workload more known =
    more.receivers.each (slice_index (folding_of new.lists).kinds workload)
    (subst (λ (l : EstateLists). is_some (known_at old.receivers (slice_index (folding_of l).kinds workload)) ≡ true) (sym more.lists) known)

-- what was known of a pair is
pub pair_stays_known : (old new : KnownSides) (source destination : ℕ) → KnowsMore old new → KnowsPair old source destination → KnowsPair new source destination
pair_stays_known old new source destination more known = record {
  source_in = subst (λ (l : EstateLists). IsWorkload l source) (sym more.lists) known.source_in;
  destination_in = subst (λ (l : EstateLists). IsWorkload l destination) (sym more.lists) known.destination_in;
  sends = knows-more old new Egress source more known.sends;
  receives = knows-more old new Ingress destination more known.receives;
}

-- ---- the pods

pub place-within : (lists lists' : EstateLists) (direction : Direction) (workload place : ℕ) (side : PodSide) → lists' ≡ lists → side ≡ kind_side lists direction workload → place ≡ side.pod →
    side.pod < length side.lists.pods → place < length lists'.pods
place-within lists lists' direction workload place side same is at within =
    subst (λ (l : EstateLists). place < length l.pods) (sym same)
    (subst (λ (s : PodSide). place < length s.lists.pods) is (subst (λ (n : ℕ). n < length side.lists.pods) (sym at) within))

pub place-is : (lists : EstateLists) (direction : Direction) (workload place : ℕ) (side : PodSide) → side ≡ kind_side lists direction workload → place ≡ side.pod →
    place ≡ (kind_side lists direction workload).pod
place-is lists direction workload place side is at = at ∙ ap (λ (s : PodSide). s.pod) is

-- ---- the sets

-- the set has what the side of a workload's kind allows with a pod
abbrev AllowsToward : EstateLists → Direction → ℕ → ℕ → Family → Conns → Type 0
AllowsToward lists direction workload place family set = (spot : PortSpot) → is_spot spot ≡ true → has_spot set spot ≡ side_allows_pod (kind_side lists direction workload) place family spot

kinds-both : (lists : EstateLists) (source destination : ℕ) → AreEnds (kind_side lists Egress source) (kind_side lists Ingress destination)
kinds-both lists source destination = record { lists = refl; sends = refl; receives = refl }

pub kinds-received : (lists : EstateLists) (source destination place : ℕ) (family : Family) (received : Conns) → place ≡ (kind_side lists Egress source).pod → IsConns received →
    ((spot : PortSpot) → is_spot spot ≡ true → has_spot received spot ≡ side_allows_pod (kind_side lists Ingress destination) place family spot) →
    ((spot : PortSpot) → has_spot received spot ≡ false) → received ≡ conns_of_kinds lists source destination family
kinds-received lists source destination place family received at well members none =
    received-pass (kind_side lists Egress source) (kind_side lists Ingress destination) family received (kinds-both lists source destination) well
    (subst (λ (p : ℕ). AllowsToward lists Ingress destination p family received) at members) none

pub kinds-pass : (lists lists' : EstateLists) (source destination place place' : ℕ) (family : Family) (sent received made : Conns) → lists' ≡ lists → place ≡ (kind_side lists Egress source).pod →
    place' ≡ (kind_side lists Ingress destination).pod → IsConns made →
    ((spot : PortSpot) → is_spot spot ≡ true → has_spot sent spot ≡ side_allows_pod (kind_side lists' Egress source) place' family spot) →
    ((spot : PortSpot) → is_spot spot ≡ true → has_spot received spot ≡ side_allows_pod (kind_side lists Ingress destination) place family spot) →
    ((spot : PortSpot) → has_spot made spot ≡ (has_spot sent spot && has_spot received spot)) → made ≡ conns_of_kinds lists source destination family
kinds-pass lists lists' source destination place place' family sent received made same at at' well sends receives members =
    both-pass (kind_side lists Egress source) (kind_side lists Ingress destination) family sent received made (kinds-both lists source destination) well
    (subst (λ (p : ℕ). AllowsToward lists Egress source p family sent) at' (subst (λ (l : EstateLists). AllowsToward l Egress source place' family sent) same sends))
    (subst (λ (p : ℕ). AllowsToward lists Ingress destination p family received) at receives) members
