-- What a search for used rules has found.
use Rattle.std.specs.Prelude.{◌≡◌, ℕ, ◌<◌, List, Bool, true, ◌&&◌, ◌||◌, Some, slice_get}
use Rattle.std.specs.List.{Contains}
use Rattle.np_unused.specs.Types.{AllEnds, Decider, Direction, Egress, EstateLists, Family, Ingress, KindPod, Kinds, LayerRules, Left, OneKind, RuleRef, Search, Tier, UsedRules}
use Rattle.np_conns.specs.Prelude.{is_spot}
use Rattle.np_model.specs.Prelude.{IsLawful, families_of}
use Rattle.np_explain.specs.Prelude.{admin_rules, base_rules, net_rules}
use Rattle.np_unused.specs.Rules.{rule_count_at}
use Rattle.np_unused.specs.Used.{is_used, stands_in}
use Rattle.np_unused.specs.steps.Kinds.{AreKindPods, is_asked}
use Rattle.np_unused.specs.steps.Known.{is_known}
use Rattle.np_unused.specs.steps.Unknown.{some_unknown_speaks}
use Rattle.np_unused.specs.declared.rule_ref.Tier.TheVariants as tier
use Rattle.np_reach.specs.Prelude.{may_at, may_reach, reach_of}
use Rattle.np_rules.specs.Prelude.{Contact, NamesAdmin, NamesBase, NamesNet, Pairwise, PodSide, decider, is_address_spot, near_pod, pod, pod_at, side_of, with_addresses, with_pod}
use Rattle.np_kinds.specs.Prelude.{first_ends}

-- ---- rules of one direction

abbrev pub ref_of : Direction → Tier → ℕ → ℕ → RuleRef
ref_of direction tier policy place = record { tier = tier; policy = policy; direction = direction; place = place }

-- what was known stays known
abbrev pub Grows : UsedRules → UsedRules → Type 0
Grows old new = (tier : Tier) (policy place : ℕ) → is_known old tier policy place ≡ true → is_known new tier policy place ≡ true

-- the rules of the estate that are known are used
unfoldable pub IsSound : EstateLists → Direction → UsedRules → Type 0
IsSound lists direction used = (tier : Tier) (policy place : ℕ)
    → place < rule_count_at lists tier direction policy → is_known used tier policy place ≡ true → is_used lists (ref_of direction tier policy place) ≡ true

-- the rules of the estate that stand in a decider are known
unfoldable pub Knows : EstateLists → Direction → UsedRules → Decider → Type 0
Knows lists direction used decides = (tier : Tier) (policy place : ℕ)
    → place < rule_count_at lists tier direction policy → stands_in lists (ref_of direction tier policy place) decides ≡ true → is_known used tier policy place ≡ true

-- they are used
unfoldable pub AreUsed : EstateLists → Direction → Decider → Type 0
AreUsed lists direction decides = (tier : Tier) (policy place : ℕ)
    → place < rule_count_at lists tier direction policy → stands_in lists (ref_of direction tier policy place) decides ≡ true → is_used lists (ref_of direction tier policy place) ≡ true

-- ---- one side

-- the rules are those of the side, place by place
pub record AreRulesOf (side : PodSide) (rules : LayerRules) : Type 0 where
  pub admin : Pairwise (NamesAdmin side.lists.admin_policies) rules.admin (admin_rules side)
  pub net : Pairwise (NamesNet side.lists.net_policies) rules.net (net_rules side)
  pub base : Pairwise NamesBase rules.base (base_rules side)

-- what decides something that the side looks at
abbrev pub side_decider : PodSide → Contact → Decider
side_decider side looks_at = decider side.lists side.direction (pod (near_pod side)) looks_at

-- whatever stands in what decides there is known
abbrev pub KnowsAll : {Spot : Type 0} → (Spot → Bool) → PodSide → (PodSide → Spot → Contact) → UsedRules → Type 0
KnowsAll {Spot} in_space side looks_at used = (spot : Spot) → in_space spot ≡ true → Knows side.lists side.direction used (side_decider side (looks_at side spot))

-- it is used
abbrev pub AllAreUsed : {Spot : Type 0} → (Spot → Bool) → PodSide → (PodSide → Spot → Contact) → Type 0
AllAreUsed {Spot} in_space side looks_at = (spot : Spot) → in_space spot ≡ true → AreUsed side.lists side.direction (side_decider side (looks_at side spot))

-- ---- the side of a kind

-- whatever stands in what decides with a kind as the far end, which is asked for, is known, in packets of a family
abbrev pub KnowsFar : PodSide → List KindPod → ℕ → Family → ℕ → UsedRules → Type 0
KnowsFar side kinds near family kind used = (far : KindPod) → slice_get kinds kind ≡ Some far → is_asked near kind far ≡ true → KnowsAll is_spot side (with_pod far.pod family) used

-- with all kinds
unfoldable pub KnowsPods : PodSide → List KindPod → ℕ → Family → UsedRules → Type 0
KnowsPods side kinds near family used = (kind : ℕ) → KnowsFar side kinds near family kind used

-- what decides there is used
unfoldable pub PodsAreUsed : PodSide → List KindPod → ℕ → Family → Type 0
PodsAreUsed side kinds near family = (kind : ℕ) (far : KindPod) → slice_get kinds kind ≡ Some far → is_asked near kind far ≡ true → AllAreUsed is_spot side (with_pod far.pod family)

-- in each family of the estate
abbrev pub KnowsFamilies : PodSide → List KindPod → ℕ → UsedRules → Type 0
KnowsFamilies side kinds near used = (family : Family) → Contains (families_of side.lists.pods) family → KnowsPods side kinds near family used

-- and with all addresses
pub record KnowsSide (side : PodSide) (kinds : List KindPod) (near : ℕ) (used : UsedRules) : Type 0 where
  pub addresses : KnowsAll is_address_spot side with_addresses used
  pub pods : KnowsFamilies side kinds near used

-- with one kind alone
abbrev pub KnowsToward : PodSide → List KindPod → ℕ → ℕ → UsedRules → Type 0
KnowsToward side kinds near kind used = (family : Family) → Contains (families_of side.lists.pods) family → KnowsFar side kinds near family kind used

-- with the far ends that were left to be looked at
abbrev pub KnowsLeft : PodSide → List KindPod → ℕ → Left → UsedRules → Type 0
KnowsLeft side kinds near AllEnds used = KnowsSide side kinds near used
KnowsLeft side kinds near (OneKind kind) used = KnowsToward side kinds near kind used

-- so it is for the side of the pod that stands for a kind
abbrev pub KnowsLeftOf : EstateLists → Direction → List KindPod → ℕ → Left → UsedRules → Type 0
KnowsLeftOf lists direction kinds near left used = (one : KindPod) → slice_get kinds near ≡ Some one → KnowsLeft (side_of lists one.pod direction) kinds near left used

-- with all far ends
abbrev pub KnowsKind : EstateLists → Direction → List KindPod → ℕ → UsedRules → Type 0
KnowsKind lists direction kinds near used = (one : KindPod) → slice_get kinds near ≡ Some one → KnowsSide (side_of lists one.pod direction) kinds near used

-- for the kinds before it
abbrev pub KnowsBefore : EstateLists → Direction → List KindPod → ℕ → UsedRules → Type 0
KnowsBefore lists direction kinds near used = (kind : ℕ) → kind < near → KnowsKind lists direction kinds kind used

-- for all kinds
unfoldable pub KnowsSides : EstateLists → Direction → List KindPod → UsedRules → Type 0
KnowsSides lists direction kinds used = (near : ℕ) → KnowsKind lists direction kinds near used

-- ---- what a search goes by

-- the pods stand for the kinds of the estate, and it is known what they may let through
pub record AreKinds (kinds : Kinds) : Type 0 where
  pub lawful : IsLawful kinds.estate.now
  pub pods : AreKindPods kinds.estate.now kinds.pods.now
  pub reach : kinds.reach.now ≡ reach_of kinds.estate.now kinds.direction (first_ends kinds.estate.now)

-- seen from the side of one of them, of which these are the rules; what decides what the side looks at is used
pub record IsSearchOf (estate : EstateLists) (direction : Direction) (side : PodSide) (pods : List KindPod) (marks : List (List Bool)) (near : ℕ) (ids : LayerRules) : Type 0 where
  pub estate_is : estate ≡ side.lists
  pub direction_is : direction ≡ side.direction
  pub lawful : IsLawful side.lists
  pub kinds : AreKindPods side.lists pods
  pub rules : AreRulesOf side ids
  pub addresses : AllAreUsed is_address_spot side with_addresses
  pub families : (family : Family) → Contains (families_of side.lists.pods) family → PodsAreUsed side pods near family
  pub reach : (kind : ℕ) (far : KindPod) → slice_get pods kind ≡ Some far → may_at marks near kind ≡ may_reach side.lists side.direction (near_pod side) (pod (pod_at side.lists far.pod))

abbrev pub IsSearch : Search → Type 0
IsSearch search = IsSearchOf search.kinds.estate.now search.kinds.direction search.side.now search.kinds.pods.now search.kinds.reach.now search.near search.rules.now

-- the kind that is left, if it is one, is one of so many
abbrev pub IsWithin : ℕ → Left → Type 0
IsWithin count AllEnds = Unit {0}
IsWithin count (OneKind kind) = kind < count

-- whether a rule of a tier that is not known speaks of a kind, in packets of a family
abbrev pub speaks_in : Search → UsedRules → Tier → KindPod → Family → Bool
speaks_in search used one far family = some_unknown_speaks search.kinds.estate.now search.kinds.direction used search.rules.now one (pod (pod_at search.kinds.estate.now far.pod)) family

-- Whether a kind may tell of a rule that is not known: it is asked for, and such an admin rule speaks of it, or it may be let
-- through and such a rule of the other tiers does.
abbrev pub may_tell : Search → UsedRules → ℕ → KindPod → Family → Bool
may_tell search used kind far family =
    is_asked search.near kind far
    && (speaks_in search used tier.Admin far family
    || (may_at search.kinds.reach.now search.near kind && (speaks_in search used tier.Net far family || speaks_in search used tier.Base far family)))

-- ---- what a search finds

-- A step of the search: what was known stays known, nothing more is known than is used, and so it is found.
pub record Searched (lists : EstateLists) (direction : Direction) (Found : UsedRules → Type 0) (old new : UsedRules) : Type 0 where
  pub grows : Grows old new
  pub sound : IsSound lists direction old → IsSound lists direction new
  pub finds : Found new

-- the rules of the direction that are known are those that are used
unfoldable pub Finds : EstateLists → Direction → UsedRules → Type 0
Finds lists direction used = (tier : Tier) (policy place : ℕ) → place < rule_count_at lists tier direction policy → is_known used tier policy place ≡ is_used lists (ref_of direction tier policy place)

-- whether a rule is known, by what is known of its direction
abbrev pub known_in : UsedRules → UsedRules → Direction → UsedRules
known_in ingress egress Ingress = ingress
known_in ingress egress Egress = egress

abbrev pub is_known_by : UsedRules → UsedRules → RuleRef → Bool
is_known_by ingress egress rule = is_known (known_in ingress egress rule.direction) rule.tier rule.policy rule.place
