-- A side allows nothing with a far end that is out of its reach. For `no_port_out_of_reach` and crates above.
use Rattle.std.proofs.Common.{◌≡◌, ℕ, List, [], ◌∷◌, Bool, true, false, ◌&&◌, ◌||◌, filter, unwrap_or, Option, Some, None, refl, ap, ◌∙◌, inl, inr, if◌then◌else◌}
use Rattle.std.specs.List.{list_any}
use Rattle.std.proofs.lemmas.Bool.{and_left, or_parts, or_from, not-false}
use Rattle.std.proofs.lemmas.List.Folds.{list_any-append}
use Rattle.np_reach.specs.Prelude.{AdminPolicy, AdminRule, Direction, EstateLists, Family, Four, NetPolicy, NetRule, Six, admin_reaches, admin_rule_reaches, may_reach, net_reaches}
use Rattle.np_model.specs.declared.admin_policy.Action.{Action}
use Rattle.np_model.specs.declared.admin_policy.Action.TheVariants.{Allow, Deny, Pass}
use Rattle.np_rules.proofs.AdminTierLemmas as admin
use Rattle.np_rules.proofs.DeciderLemmas.{least_is_among}
use Rattle.np_rules.proofs.KeptLemmas.{quieter}
use Rattle.np_rules.proofs.NetTierLemmas as net
use Rattle.np_rules.proofs.PlacesLemmas.{list_any-numbered}
use Rattle.np_rules.proofs.SideLemmas.{places-matches}
use Rattle.np_rules.specs.Prelude.{Contact, IsAmong, ModelEnd, PlacedAdminRule, PodEnd, admin_candidates, admin_decider, admin_entry_matches, admin_peer_matches, admin_places, admin_places_of, admin_precedes, admin_rule_matches, admin_rules_of, base_decider, is_isolated, net_entry_matches, net_peer_matches, net_places, net_rule_matches, net_rules_of, net_selects, none_or_any, permits, placed_net_matches, subject_selects}
use Rattle.np_model.specs.Prelude.{action_says}
use Rattle.np_rules.specs.model.Sides.{admin_says, base_says, is_allow, side_allows}

and_quieter : (a b c : Bool) → (b ≡ false → c ≡ false) → (a && b) ≡ false → (a && c) ≡ false
and_quieter true b c weaker none = weaker none
and_quieter false b c weaker none = refl

-- ---- NetworkPolicies

-- a rule that does not speak of the far end does not match
net_rule_quiet : (namespace : List ℕ) (contact : Contact) (rule : NetRule) → none_or_any (λ peer. net_peer_matches namespace peer contact.far) rule.peers ≡ false →
    net_rule_matches namespace rule contact ≡ false
net_rule_quiet namespace contact rule none =
    and_left (none_or_any (λ peer. net_peer_matches namespace peer contact.far) rule.peers) (none_or_any (λ entry. net_entry_matches entry contact.destination contact.spot) rule.ports) none

-- a policy that selects the pod and does not speak of the far end has no rule that matches
net_policy_quiet : (direction : Direction) (near : PodEnd) (contact : Contact) (policy : NetPolicy) → (net_selects policy near && net_reaches direction contact.far policy) ≡ false →
    list_any (placed_net_matches contact) (net.places_by direction near policy) ≡ false
net_policy_quiet direction near contact policy none =
    places-matches direction near contact policy
    ∙ and_quieter (net_selects policy near) (net_reaches direction contact.far policy) _
    (quieter (λ rule. none_or_any (λ peer. net_peer_matches policy.namespace peer contact.far) rule.peers) (λ rule. net_rule_matches policy.namespace rule contact)
    (unwrap_or (net_rules_of direction policy) []) (λ rule. net_rule_quiet policy.namespace contact rule))
    none

net_quiet : (direction : Direction) (near : PodEnd) (contact : Contact) (policies : List NetPolicy) →
    list_any (λ policy. net_selects policy near && net_reaches direction contact.far policy) policies ≡ false → permits policies direction near contact ≡ false
net_quiet direction near contact [] none = refl
net_quiet direction near contact (policy ∷ policies) none =
    let parts = or_parts (net_selects policy near && net_reaches direction contact.far policy) (list_any (λ one. net_selects one near && net_reaches direction contact.far one) policies) none in
    list_any-append (placed_net_matches contact) (net.places_by direction near policy) (net_places policies direction near)
    ∙ or_from _ _ (net_policy_quiet direction near contact policy parts.0) (net_quiet direction near contact policies parts.1)

-- ---- admin policies

-- whether a rule allows and matches
abbrev lets : Contact → AdminRule → Bool
lets contact rule = is_allow rule.action && admin_rule_matches rule contact

abbrev lets_placed : Contact → PlacedAdminRule → Bool
lets_placed contact placed = lets contact placed.rule

family_quiet : (family : Family) (passes : Family → Bool) → (passes Four || passes Six) ≡ false → passes family ≡ false
family_quiet Four passes none = (or_parts (passes Four) (passes Six) none).0
family_quiet Six passes none = (or_parts (passes Four) (passes Six) none).1

-- a rule that does not allow, or does not speak of the far end, lets nothing through
admin_rule_quiet : (contact : Contact) (rule : AdminRule) → admin_rule_reaches contact.far rule ≡ false → lets contact rule ≡ false
admin_rule_quiet contact rule none =
    let speaks : Family → Bool = λ family. list_any (λ peer. admin_peer_matches peer contact.far family) rule.peers in
    and_quieter (is_allow rule.action) (speaks Four || speaks Six) (admin_rule_matches rule contact)
    (λ silent. and_left (speaks contact.family) (none_or_any (λ entry. admin_entry_matches entry contact.destination contact.spot) rule.ports) (family_quiet contact.family speaks silent))
    none

admin_policy_quiet : (direction : Direction) (near : PodEnd) (contact : Contact) (policy : AdminPolicy) → (subject_selects policy.subject near && admin_reaches direction contact.far policy) ≡ false →
    list_any (lets_placed contact) (admin.places_by direction near policy) ≡ false
admin_policy_quiet direction near contact policy none = go (subject_selects policy.subject near) none
  where
    go : (b : Bool) → (b && admin_reaches direction contact.far policy) ≡ false → list_any (lets_placed contact) (if b then admin_places_of direction policy else []) ≡ false
    go true silent =
        list_any-numbered (λ numbered. record { policy = policy; place = numbered.0; rule = numbered.1 }) (lets contact) (lets_placed contact) (λ numbered. refl) 0 (admin_rules_of direction policy)
        ∙ quieter (admin_rule_reaches contact.far) (lets contact) (admin_rules_of direction policy) (admin_rule_quiet contact) silent
    go false silent = refl

admin_quiet : (direction : Direction) (near : PodEnd) (contact : Contact) (policies : List AdminPolicy) →
    list_any (λ policy. subject_selects policy.subject near && admin_reaches direction contact.far policy) policies ≡ false →
    list_any (lets_placed contact) (admin_places policies direction near) ≡ false
admin_quiet direction near contact [] none = refl
admin_quiet direction near contact (policy ∷ policies) none =
    let parts = or_parts (subject_selects policy.subject near && admin_reaches direction contact.far policy)
    (list_any (λ one. subject_selects one.subject near && admin_reaches direction contact.far one) policies) none in
    list_any-append (lets_placed contact) (admin.places_by direction near policy) (admin_places policies direction near)
    ∙ or_from _ _ (admin_policy_quiet direction near contact policy parts.0) (admin_quiet direction near contact policies parts.1)

-- where no rule allows and matches, none of those that match allows
among_quiet : (contact : Contact) (items : List PlacedAdminRule) (found : PlacedAdminRule) → list_any (lets_placed contact) items ≡ false →
    IsAmong found (filter (λ placed. admin_rule_matches placed.rule contact) items) → is_allow found.rule.action ≡ false
among_quiet contact [] found none among = absurd among
among_quiet contact (item ∷ items) found none among =
    let parts = or_parts (lets_placed contact item) (list_any (lets_placed contact) items) none in
    go (admin_rule_matches item.rule contact) parts.0 (among_quiet contact items found parts.1) among
  where
    and_true : (b : Bool) → (b && true) ≡ false → b ≡ false
    and_true true is = is
    and_true false is = refl

    go : (b : Bool) → (is_allow item.rule.action && b) ≡ false → (IsAmong found (filter (λ placed. admin_rule_matches placed.rule contact) items) → is_allow found.rule.action ≡ false) →
        IsAmong found (if b then item ∷ filter (λ placed. admin_rule_matches placed.rule contact) items else filter (λ placed. admin_rule_matches placed.rule contact) items) →
        is_allow found.rule.action ≡ false
    go true silent rest (inl same) = ap (λ (placed : PlacedAdminRule). is_allow placed.rule.action) same ∙ and_true (is_allow item.rule.action) silent
    go true silent rest (inr later) = rest later
    go false silent rest later = rest later

action_quiet : (action : Action) (below : Bool) → is_allow action ≡ false → below ≡ false → action_says action below ≡ false
action_quiet Allow below silent none = silent
action_quiet Deny below silent none = refl
action_quiet Pass below silent none = none

admin_says_quiet : (decides : Option PlacedAdminRule) (below : Bool) → ((found : PlacedAdminRule) → decides ≡ Some found → is_allow found.rule.action ≡ false) → below ≡ false →
    admin_says decides below ≡ false
admin_says_quiet None below silent none = none
admin_says_quiet (Some found) below silent none = action_quiet found.rule.action below (silent found refl) none

-- ---- all tiers

-- a pod that a far end is out of reach of is isolated
pub isolated-out_of_reach : (lists : EstateLists) (direction : Direction) (near : PodEnd) (far : ModelEnd) → may_reach lists direction near far ≡ false →
    is_isolated lists.net_policies direction near ≡ true
unfolding may_reach
isolated-out_of_reach lists direction near far none = not-false _ (or_parts _ _ none).0

-- and no rule of a NetworkPolicy matches
pub unmatched-out_of_reach : (lists : EstateLists) (direction : Direction) (near : PodEnd) (contact : Contact) → may_reach lists direction near contact.far ≡ false →
    permits lists.net_policies direction near contact ≡ false
unfolding may_reach
unmatched-out_of_reach lists direction near contact none = net_quiet direction near contact lists.net_policies (or_parts _ _ (or_parts _ _ none).1).0

pub out_of_reach : (lists : EstateLists) (direction : Direction) (near : PodEnd) (contact : Contact) → may_reach lists direction near contact.far ≡ false →
    side_allows lists direction near contact ≡ false
unfolding may_reach side_allows
out_of_reach lists direction near contact none =
    let parts = or_parts _ _ none in
    let policies = or_parts _ _ parts.1 in
    let isolated = isolated-out_of_reach lists direction near contact.far none in
    let below : (if is_isolated lists.net_policies direction near then permits lists.net_policies direction near contact else base_says (base_decider lists.baseline direction near contact)) ≡ false =
    ap (λ b. if b then permits lists.net_policies direction near contact else base_says (base_decider lists.baseline direction near contact)) isolated
    ∙ unmatched-out_of_reach lists direction near contact none in
    admin_says_quiet (admin_decider lists.admin_policies direction near contact) _
    (λ found is. among_quiet contact (admin_places lists.admin_policies direction near) found (admin_quiet direction near contact lists.admin_policies policies.1)
    (least_is_among admin_precedes (admin_candidates lists.admin_policies direction near contact) found is))
    below
