-- Of a far end that is out of reach of a side, no rule of a NetworkPolicy or of the baseline decides anything.
-- For `search_kind` and `search_side`.
use Rattle.std.proofs.Common.{◌≡◌, ℕ, ◌<◌, List, [], ◌∷◌, Bool, true, false, ◌&&◌, ◌||◌, filter, length, slice_get, Option, Some, None, refl, sym, ap, ◌∙◌, subst, arith, if◌then◌else◌}
use Rattle.std.specs.List.{list_any}
use Rattle.std.specs.Option.{option_map, option_map_or}
use Rattle.std.proofs.lemmas.Bool.{false≢true, or_parts}
use Rattle.std.proofs.lemmas.Option.{slice_get-get_or, slice_get-map, slice_get_within}
use Rattle.np_unused.specs.Prelude.{AreKindPods, AreKinds, AreRulesOf, Decider, Direction, EstateLists, Family, IsSearch, IsSearchOf, KindPod, Kinds, Knows, KnowsAll, KnowsLeft, KnowsLeftOf, LayerRules, Left, RuleName, Search, Searched, Tier, UsedRules, is_asked, is_known, may_tell, ref_of, rule_count_at, rule_in, rule_name, side_decider, some_unknown_speaks, speaks_in, stands_in}
use Rattle.np_conns.specs.Prelude.{is_spot}
use Rattle.np_model.specs.Prelude.{IsLawful}
use Rattle.np_explain.specs.Prelude.{same_rule}
use Rattle.np_fold.specs.Prelude.{folding_of}
use Rattle.np_unused.proofs.FindLemmas.{addresses_listed, pods_listed}
use Rattle.np_unused.proofs.SearchLemmas.{speaker_known}
use Rattle.np_unused.proofs.StepLemmas.{kind_at, kind_is, pod_of_kind, searched_as}
use Rattle.np_unused.specs.declared.rule_ref.Tier.TheVariants as tier
use Rattle.np_model.specs.declared.admin_policy.Action.{Action}
use Rattle.np_model.specs.declared.admin_policy.Action.TheVariants.{Allow, Deny, Pass}
use Rattle.np_reach.proofs.MarkLemmas.{may_at-of}
use Rattle.np_reach.proofs.ReachLemmas.{isolated-out_of_reach, unmatched-out_of_reach}
use Rattle.np_reach.specs.Prelude.{may_at, may_reach}
use Rattle.np_rules.specs.Prelude.{Contact, PlacedAdminRule, PlacedNetRule, PodEnd, PodSide, PortSpot, action_decides, admin_decider, admin_decides, admin_rule_name, base_decider, base_decides, decider, isolating_names, least_by, lower_decider, near_pod, net_decider, net_decides, net_places, net_precedes, placed_net_matches, pod, pod_at, side_of, with_pod}
use Rattle.np_rules.specs.declared.decider.Decider.TheVariants as decides
use Rattle.np_kinds.specs.Prelude.{first_end, first_ends}

-- ---- deciders

filter_nothing : {X : Type 0} (test : X → Bool) (xs : List X) → list_any test xs ≡ false → filter test xs ≡ []
filter_nothing test [] none = refl
filter_nothing {X} test (x ∷ xs) none =
    let parts = or_parts (test x) (list_any test xs) none in
    ap (λ (b : Bool). if b then x ∷ filter test xs else filter test xs) parts.0 ∙ filter_nothing test xs parts.1

module _ (lists : EstateLists) (direction : Direction) (near : PodEnd) (contact : Contact) (out : may_reach lists direction near contact.far ≡ false) where
  -- below the admin tier it is decided that the pod is isolated
  lower_isolated : (pass : Option RuleName) → lower_decider lists direction near contact pass ≡ decides.Isolated pass (isolating_names lists.net_policies direction near)
  lower_isolated pass =
      let names = isolating_names lists.net_policies direction near in
      ap (λ (b : Bool). if b then net_decides pass names (net_decider lists.net_policies direction near contact) else base_decides pass (base_decider lists.baseline direction near contact))
      (isolated-out_of_reach lists direction near contact.far out)
      ∙ ap (λ (found : List PlacedNetRule). net_decides pass names (least_by net_precedes found))
      (filter_nothing (placed_net_matches contact) (net_places lists.net_policies direction near) (unmatched-out_of_reach lists direction near contact out))

  -- so that a rule of the lower tiers stands in nothing that decides
  no_rule : (rule_of : Decider → Option RuleName) → ((rule : RuleName) (allow : Bool) → rule_of (decides.Admin rule allow) ≡ None) →
      ((pass : Option RuleName) (names : List (List ℕ)) → rule_of (decides.Isolated pass names) ≡ None) → rule_of (decider lists direction (pod near) contact) ≡ None
  no_rule rule_of of_admin of_isolated = by_admin (admin_decider lists.admin_policies direction near contact)
    where
      lower : (pass : Option RuleName) → rule_of (lower_decider lists direction near contact pass) ≡ None
      lower pass = ap rule_of (lower_isolated pass) ∙ of_isolated pass (isolating_names lists.net_policies direction near)

      by_action : (action : Action) (rule : RuleName) → rule_of (action_decides action rule (lower_decider lists direction near contact)) ≡ None
      by_action Allow rule = of_admin rule true
      by_action Deny rule = of_admin rule false
      by_action Pass rule = lower (Some rule)

      by_admin : (found : Option PlacedAdminRule) → rule_of (admin_decides found (lower_decider lists direction near contact)) ≡ None
      by_admin None = lower None
      by_admin (Some placed) = by_action placed.rule.action (admin_rule_name placed)

-- ---- a kind that is out of reach

module _ (side : PodSide) (lawful : IsLawful side.lists) (rules : LayerRules) (are : AreRulesOf side rules) (used : UsedRules) (far : ℕ) (family : Family) where
  -- whether a rule of a tier that is not known speaks of the pod
  abbrev speaks : Tier → Bool
  speaks one = some_unknown_speaks side.lists side.direction used rules one (pod (pod_at side.lists far)) family

  heard : (one : Tier) → speaks one ≡ false → (spot : PortSpot) (policy place : ℕ) → place < rule_count_at side.lists one side.direction policy →
      stands_in side.lists (ref_of side.direction one policy place) (side_decider side (with_pod far family side spot)) ≡ true → is_known used one policy place ≡ true
  heard one silent spot policy place valid stands = speaker_known side lawful rules are used (with_pod far family side spot) one silent policy place valid stands

  -- where none of any tier does, whatever stands in what decides with it is known
  silent_known : speaks tier.Admin ≡ false → speaks tier.Net ≡ false → speaks tier.Base ≡ false → KnowsAll is_spot side (with_pod far family) used
  unfolding Knows
  silent_known admin net base spot inside tier.Admin = heard tier.Admin admin spot
  silent_known admin net base spot inside tier.Net = heard tier.Net net spot
  silent_known admin net base spot inside tier.Base = heard tier.Base base spot

  -- and so it is where no such admin rule does, and the pod is out of the side's reach
  quiet_known : speaks tier.Admin ≡ false → may_reach side.lists side.direction (near_pod side) (pod (pod_at side.lists far)) ≡ false → KnowsAll is_spot side (with_pod far family) used
  unfolding Knows
  quiet_known admin out spot inside tier.Admin policy place valid stands = heard tier.Admin admin spot policy place valid stands
  quiet_known admin out spot inside tier.Net policy place valid stands =
      absurd (false≢true (sym (ap (λ (found : Option RuleName). option_map_or (same_rule (rule_name side.lists (ref_of side.direction tier.Net policy place))) found false)
      (no_rule side.lists side.direction (near_pod side) (with_pod far family side spot) out (rule_in tier.Net) (λ rule allow. refl) (λ pass names. refl))) ∙ stands))
  quiet_known admin out spot inside tier.Base policy place valid stands =
      absurd (false≢true (sym (ap (λ (found : Option RuleName). option_map_or (same_rule (rule_name side.lists (ref_of side.direction tier.Base policy place))) found false)
      (no_rule side.lists side.direction (near_pod side) (with_pod far family side spot) out (rule_in tier.Base) (λ rule allow. refl) (λ pass names. refl))) ∙ stands))

-- a kind that tells of nothing may be passed over
pub quiet_kind : (search : Search) → IsSearch search → (used : UsedRules) (kind : ℕ) (far : KindPod) → slice_get search.kinds.pods.now kind ≡ Some far → (family : Family) →
    may_tell search used kind far family ≡ false → is_asked search.near kind far ≡ true → KnowsAll is_spot search.side.now (with_pod far.pod family) used
quiet_kind search is used kind far at family silent asked = by (may_at search.kinds.reach.now search.near kind) refl parts.1
  where
    parts : (speaks_in search used tier.Admin far family ≡ false)
        × ((may_at search.kinds.reach.now search.near kind && (speaks_in search used tier.Net far family || speaks_in search used tier.Base far family)) ≡ false)
    parts = or_parts (speaks_in search used tier.Admin far family)
        (may_at search.kinds.reach.now search.near kind && (speaks_in search used tier.Net far family || speaks_in search used tier.Base far family))
        (ap (λ (b : Bool). b && (speaks_in search used tier.Admin far family
        || (may_at search.kinds.reach.now search.near kind && (speaks_in search used tier.Net far family || speaks_in search used tier.Base far family)))) (sym asked) ∙ silent)

    unheard : (one : Tier) → speaks_in search used one far family ≡ false → some_unknown_speaks search.side.now.lists search.side.now.direction used search.rules.now one (pod (pod_at search.side.now.lists far.pod)) family ≡ false
    unheard one none =
        sym (ap (λ (lists : EstateLists). some_unknown_speaks lists search.kinds.direction used search.rules.now one (pod (pod_at lists far.pod)) family) is.estate_is
        ∙ ap (λ (direction : Direction). some_unknown_speaks search.side.now.lists direction used search.rules.now one (pod (pod_at search.side.now.lists far.pod)) family) is.direction_is)
        ∙ none

    by : (reaches : Bool) → may_at search.kinds.reach.now search.near kind ≡ reaches → (reaches && (speaks_in search used tier.Net far family || speaks_in search used tier.Base far family)) ≡ false →
        KnowsAll is_spot search.side.now (with_pod far.pod family) used
    by false out none = quiet_known search.side.now is.lawful search.rules.now is.rules used far.pod family (unheard tier.Admin parts.0) (sym (is.reach kind far at) ∙ out)
    by true within none =
        let lower = or_parts (speaks_in search used tier.Net far family) (speaks_in search used tier.Base far family) none in
        silent_known search.side.now is.lawful search.rules.now is.rules used far.pod family (unheard tier.Admin parts.0) (unheard tier.Net lower.0) (unheard tier.Base lower.1)

-- ---- what the first pods of the kinds may let through

first_of : (lists : EstateLists) (kinds : List KindPod) → AreKindPods lists kinds → (kind : ℕ) (one : KindPod) → slice_get kinds kind ≡ Some one →
    slice_get (first_ends lists) kind ≡ Some (pod_at lists one.pod)
first_of lists kinds are kind one at =
    let firsts = (folding_of lists).first_of_kinds in
    let within : kind < length firsts = omega (arith, are.count, slice_get_within kinds kind one at) in
    slice_get-map (first_end lists) firsts kind
    ∙ ap (option_map (first_end lists)) (slice_get-get_or firsts kind 0 within)
    ∙ ap (λ (place : ℕ). Some (pod_at lists place)) (sym (are.each kind one at).pod)

-- what a search goes by is right, where the side is that of the pod of a kind
pub search_is : (kinds : Kinds) → AreKinds kinds → (near : ℕ) → near < length kinds.pods.now → (side : PodSide) → side ≡ side_of kinds.estate.now (pod_of_kind kinds.pods.now near).pod kinds.direction →
    (rules : LayerRules) → AreRulesOf side rules → IsSearchOf kinds.estate.now kinds.direction side kinds.pods.now kinds.reach.now near rules
search_is kinds are near within side is rules of_side =
    let lists = kinds.estate.now in
    let pods = kinds.pods.now in
    let one = pod_of_kind pods near in
    let at : slice_get pods near ≡ Some one = kind_at pods near within in
    subst (λ (s : PodSide). IsSearchOf lists kinds.direction s pods kinds.reach.now near rules) (sym is) (record {
      estate_is = refl;
      direction_is = refl;
      lawful = are.lawful;
      kinds = are.pods;
      rules = subst (λ (s : PodSide). AreRulesOf s rules) is of_side;
      addresses = addresses_listed lists are.lawful pods are.pods kinds.direction near one at;
      families = pods_listed lists are.lawful pods are.pods kinds.direction near one at;
      reach = λ kind far far_at.
          ap (λ (rows : List (List Bool)). may_at rows near kind) are.reach
          ∙ may_at-of lists kinds.direction (first_ends lists) near kind (pod_at lists one.pod) (pod_at lists far.pod) (first_of lists pods are.pods near one at)
          (first_of lists pods are.pods kind far far_at);
    })

-- what was found at the side of the pod of a kind
pub searched_side : (lists : EstateLists) (direction : Direction) (kinds : List KindPod) (near : ℕ) (left : Left) (side : PodSide) → side ≡ side_of lists (pod_of_kind kinds near).pod direction →
    (old new : UsedRules) → Searched side.lists side.direction (KnowsLeft side kinds near left) old new → Searched lists direction (KnowsLeftOf lists direction kinds near left) old new
searched_side lists direction kinds near left side is old new searched =
    let first = side_of lists (pod_of_kind kinds near).pod direction in
    searched_as lists direction (KnowsLeft first kinds near left) (KnowsLeftOf lists direction kinds near left) old new
    (λ known one at. subst (λ (k : KindPod). KnowsLeft (side_of lists k.pod direction) kinds near left new) (kind_is kinds near one at) known)
    (subst (λ (s : PodSide). Searched s.lists s.direction (KnowsLeft s kinds near left) old new) is searched)
