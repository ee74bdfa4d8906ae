-- What a side says as policies and rules come and go. For `network_policies_alone_isolate`, `policies_add_up` and 3 more.
use Rattle.std.proofs.Common.{◌≡◌, List, [], ◌∷◌, ◌++◌, Bool, true, false, ◌&&◌, ◌||◌, Option, Some, None, is_some, unwrap_or, refl, sym, ap, ◌∙◌, if◌then◌else◌}
use Rattle.std.specs.List.{flat_map, list_any}
use Rattle.std.specs.Option.{option_map, option_map_or}
use Rattle.std.proofs.lemmas.Bool.{and_left, or_parts, or_from, or_left}
use Rattle.std.proofs.lemmas.Grind.{flat_map-append}
use Rattle.std.proofs.lemmas.List.Folds.{list_any-append}
use Rattle.np_rules.specs.Prelude.{Action, Allow, BasePolicy, Contact, Deny, Direction, Egress, EstateLists, Ingress, NetPolicy, NetRule, Pass, PlacedAdminRule, PodEnd, admin_decider, admin_places_of, admin_says, base_decider, base_places, base_says, is_isolated, isolates, net_places, net_places_of, net_rule_matches, net_rules_of, net_selects, permits, placed_net_matches, side_allows, subject_selects, with_net_policies, with_rule}
use Rattle.np_model.specs.Prelude.{action_says}
use Rattle.np_rules.proofs.NetTierLemmas.{places_by}
use Rattle.np_rules.proofs.PlacesLemmas.{list_any-numbered}

-- ---- pods that no policy selects

-- policies of which none selects have no rules
none_placed : {X Y : Type 0} (selects : X → Bool) (places : X → List Y) (policies : List X) → list_any selects policies ≡ false →
    flat_map (λ policy. if selects policy then places policy else []) policies ≡ []
none_placed selects places [] unselected = refl
none_placed {X} {Y} selects places (policy ∷ policies) unselected =
    let parts = or_parts (selects policy) (list_any selects policies) unselected in
    ap (λ b. (if b then places policy else []) ++ flat_map (λ q. if selects q then places q else []) policies) parts.0 ∙ none_placed selects places policies parts.1

-- no policy isolates what none selects
none_isolates : (direction : Direction) (p : PodEnd) (policies : List NetPolicy) → list_any (λ policy. net_selects policy p) policies ≡ false → is_isolated policies direction p ≡ false
none_isolates direction p [] unselected = refl
none_isolates direction p (policy ∷ policies) unselected =
    let parts = or_parts _ _ unselected in
    or_from _ _ (and_left _ _ parts.0) (none_isolates direction p policies parts.1)

none_in_baseline : (direction : Direction) (p : PodEnd) (baseline : Option BasePolicy) → option_map_or (λ policy. subject_selects policy.subject p) baseline false ≡ false →
    base_places baseline direction p ≡ []
none_in_baseline direction p None unselected = refl
none_in_baseline direction p (Some policy) unselected = rw unselected refl

pub unselected_is_free : (lists : EstateLists) (direction : Direction) (p : PodEnd) (contact : Contact) → list_any (λ policy. subject_selects policy.subject p) lists.admin_policies ≡ false →
    list_any (λ policy. net_selects policy p) lists.net_policies ≡ false → option_map_or (λ policy. subject_selects policy.subject p) lists.baseline false ≡ false →
    side_allows lists direction p contact ≡ true
unfolding side_allows
unselected_is_free lists direction p contact no_admin no_net no_base =
    rw (
      none_placed (λ policy. subject_selects policy.subject p) (admin_places_of direction) lists.admin_policies no_admin,
      none_isolates direction p lists.net_policies no_net,
      none_in_baseline direction p lists.baseline no_base,
    ) refl

-- ---- NetworkPolicies alone

pub net_alone : (lists : EstateLists) (direction : Direction) (p : PodEnd) (contact : Contact) → lists.admin_policies ≡ [] → lists.baseline ≡ None →
    side_allows lists direction p contact ≡ (if is_isolated lists.net_policies direction p then permits lists.net_policies direction p contact else true)
unfolding side_allows
net_alone lists direction p contact no_admin no_base = rw (no_admin, no_base) refl

-- ---- what is added

action-more : (action : Action) (below more : Bool) → (below ≡ true → more ≡ true) → action_says action below ≡ true → action_says action more ≡ true
action-more Allow below more grows says = refl
action-more Deny below more grows says = says
action-more Pass below more grows says = grows says

admin-more : (decides : Option PlacedAdminRule) (below more : Bool) → (below ≡ true → more ≡ true) → admin_says decides below ≡ true → admin_says decides more ≡ true
admin-more None below more grows says = grows says
admin-more (Some placed) below more grows says = action-more placed.rule.action below more grows says

-- a side that is isolated before and after, and permits more, allows more
side-more : (lists : EstateLists) (old new : List NetPolicy) (direction : Direction) (p : PodEnd) (contact : Contact) → is_isolated old direction p ≡ true → is_isolated new direction p ≡ true →
    (permits old direction p contact ≡ true → permits new direction p contact ≡ true) → side_allows (with_net_policies lists old) direction p contact ≡ true →
    side_allows (with_net_policies lists new) direction p contact ≡ true
unfolding side_allows
side-more lists old new direction p contact isolated still grows says =
    let decides = admin_decider lists.admin_policies direction p contact in
    let base = base_says (base_decider lists.baseline direction p contact) in
    let was : admin_says decides (permits old direction p contact) ≡ true = ap (λ b. admin_says decides (if b then permits old direction p contact else base)) (sym isolated) ∙ says in
    ap (λ b. admin_says decides (if b then permits new direction p contact else base)) still ∙ admin-more decides (permits old direction p contact) (permits new direction p contact) grows was

-- a policy between others
permits-parts : (front back : List NetPolicy) (policy : NetPolicy) (direction : Direction) (p : PodEnd) (contact : Contact) →
    permits (front ++ policy ∷ back) direction p contact ≡ (permits front direction p contact ||
    (list_any (placed_net_matches contact) (places_by direction p policy) || permits back direction p contact))
permits-parts front back policy direction p contact =
    ap (list_any (placed_net_matches contact)) (flat_map-append (places_by direction p) front (policy ∷ back))
    ∙ list_any-append (placed_net_matches contact) (net_places front direction p) (places_by direction p policy ++ net_places back direction p)
    ∙ ap (λ b. permits front direction p contact || b) (list_any-append (placed_net_matches contact) (places_by direction p policy) (net_places back direction p))

permits-both : (front back : List NetPolicy) (direction : Direction) (p : PodEnd) (contact : Contact) →
    permits (front ++ back) direction p contact ≡ (permits front direction p contact || permits back direction p contact)
permits-both front back direction p contact =
    ap (list_any (placed_net_matches contact)) (flat_map-append (places_by direction p) front back)
    ∙ list_any-append (placed_net_matches contact) (net_places front direction p) (net_places back direction p)

isolated-parts : (front back : List NetPolicy) (policy : NetPolicy) (direction : Direction) (p : PodEnd) →
    is_isolated (front ++ policy ∷ back) direction p ≡ (is_isolated front direction p || (isolates direction p policy || is_isolated back direction p))
isolated-parts front back policy direction p = list_any-append (isolates direction p) front (policy ∷ back)

or_middle : (a b c b' : Bool) → (b ≡ true → b' ≡ true) → (a || (b || c)) ≡ true → (a || (b' || c)) ≡ true
or_middle true b c b' grows is = refl
or_middle false true c b' grows is = rw (grows refl) refl
or_middle false false c true grows is = refl
or_middle false false c false grows is = is

or_insert : (a b c : Bool) → (a || c) ≡ true → (a || (b || c)) ≡ true
or_insert true b c is = refl
or_insert false true c is = refl
or_insert false false c is = is

pub policy_adds : (lists : EstateLists) (front back : List NetPolicy) (policy : NetPolicy) (direction : Direction) (p : PodEnd) (contact : Contact) → is_isolated (front ++ back) direction p ≡ true →
    side_allows (with_net_policies lists (front ++ back)) direction p contact ≡ true → side_allows (with_net_policies lists (front ++ policy ∷ back)) direction p contact ≡ true
policy_adds lists front back policy direction p contact isolated says =
    side-more lists (front ++ back) (front ++ policy ∷ back) direction p contact isolated
    (isolated-parts front back policy direction p ∙ or_insert (is_isolated front direction p) (isolates direction p policy) (is_isolated back direction p)
    (sym (list_any-append (isolates direction p) front back) ∙ isolated))
    (λ permitted. permits-parts front back policy direction p contact ∙ or_insert (permits front direction p contact) (list_any (placed_net_matches contact) (places_by direction p policy))
    (permits back direction p contact) (sym (permits-both front back direction p contact) ∙ permitted))
    says

-- ---- a policy with one more rule

some_still : {X : Type 0} (f : X → X) (o : Option X) → is_some (option_map f o) ≡ is_some o
some_still f None = refl
some_still f (Some x) = refl

isolates-with_rule : (direction : Direction) (p : PodEnd) (rule : NetRule) (policy : NetPolicy) → isolates direction p (with_rule direction rule policy) ≡ isolates direction p policy
isolates-with_rule Ingress p rule policy = ap (λ b. net_selects policy p && b) (some_still (λ rules. rules ++ rule ∷ []) policy.ingress)
isolates-with_rule Egress p rule policy = ap (λ b. net_selects policy p && b) (some_still (λ rules. rules ++ rule ∷ []) policy.egress)

-- some rule of a policy that selects the pod matches
pub places-matches : (direction : Direction) (p : PodEnd) (contact : Contact) (policy : NetPolicy) →
    list_any (placed_net_matches contact) (places_by direction p policy) ≡
    (net_selects policy p && list_any (λ rule. net_rule_matches policy.namespace rule contact) (unwrap_or (net_rules_of direction policy) []))
places-matches direction p contact policy = go (net_selects policy p)
    (list_any-numbered (λ numbered. record { policy = policy; place = numbered.0; rule = numbered.1 }) (λ rule. net_rule_matches policy.namespace rule contact) (placed_net_matches contact)
    (λ numbered. refl) 0 (unwrap_or (net_rules_of direction policy) []))
  where
    go : (b : Bool) →
        list_any (placed_net_matches contact) (net_places_of direction policy) ≡ list_any (λ rule. net_rule_matches policy.namespace rule contact) (unwrap_or (net_rules_of direction policy) []) →
        list_any (placed_net_matches contact) (if b then net_places_of direction policy else []) ≡
        (b && list_any (λ rule. net_rule_matches policy.namespace rule contact) (unwrap_or (net_rules_of direction policy) []))
    go true same = same
    go false same = refl

-- some rule matches of those that did, and of one more
any-more : (test : NetRule → Bool) (rule : NetRule) (rules : Option (List NetRule)) → list_any test (unwrap_or rules []) ≡ true →
    list_any test (unwrap_or (option_map (λ rs. rs ++ rule ∷ []) rules) []) ≡ true
any-more test rule None is = is
any-more test rule (Some rules) is = list_any-append test rules (rule ∷ []) ∙ or_left _ _ is

and-more : (a b c : Bool) → (b ≡ true → c ≡ true) → (a && b) ≡ true → (a && c) ≡ true
and-more true b c grows is = grows is
and-more false b c grows is = is

rule-more : (direction : Direction) (p : PodEnd) (contact : Contact) (rule : NetRule) (policy : NetPolicy) → list_any (placed_net_matches contact) (places_by direction p policy) ≡ true →
    list_any (placed_net_matches contact) (places_by direction p (with_rule direction rule policy)) ≡ true
rule-more Ingress p contact rule policy is = places-matches Ingress p contact (with_rule Ingress rule policy) ∙ and-more (net_selects policy p) _ _
    (any-more (λ r. net_rule_matches policy.namespace r contact) rule policy.ingress) (sym (places-matches Ingress p contact policy) ∙ is)
rule-more Egress p contact rule policy is = places-matches Egress p contact (with_rule Egress rule policy) ∙ and-more (net_selects policy p) _ _
    (any-more (λ r. net_rule_matches policy.namespace r contact) rule policy.egress) (sym (places-matches Egress p contact policy) ∙ is)

pub rule_adds : (lists : EstateLists) (front back : List NetPolicy) (policy : NetPolicy) (rule : NetRule) (direction : Direction) (p : PodEnd) (contact : Contact) →
    is_isolated (front ++ policy ∷ back) direction p ≡ true → side_allows (with_net_policies lists (front ++ policy ∷ back)) direction p contact ≡ true →
    side_allows (with_net_policies lists (front ++ with_rule direction rule policy ∷ back)) direction p contact ≡ true
rule_adds lists front back policy rule direction p contact isolated says =
    let more = with_rule direction rule policy in
    side-more lists (front ++ policy ∷ back) (front ++ more ∷ back) direction p contact isolated
    (isolated-parts front back more direction p ∙ ap (λ b. is_isolated front direction p || (b || is_isolated back direction p)) (isolates-with_rule direction p rule policy) ∙ sym
    (isolated-parts front back policy direction p) ∙ isolated)
    (λ permitted. permits-parts front back more direction p contact ∙ or_middle _ _ _ _ (rule-more direction p contact rule policy)
    (sym (permits-parts front back policy direction p contact) ∙ permitted))
    says
