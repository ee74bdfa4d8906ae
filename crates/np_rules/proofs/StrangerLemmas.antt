-- What the rules that are kept for strangers say of one. For `StrangerRules::layer`, `StrangerRules::net` and `rules_with_conns`.
use Rattle.std.proofs.Common.{◌≡◌, ℕ, ◌+◌, ◌<◌, List, [], ◌∷◌, ◌++◌, Bool, true, ◌&&◌, ◌||◌, Option, filter, find, get_or, length, map, take, refl, sym, ap, ◌∙◌, subst}
use Rattle.std.specs.List.{AllByRecursion, list_any}
use Rattle.std.proofs.lemmas.List.{map-append, take_more}
use Rattle.std.proofs.Math.Bool.{or-false}
use Rattle.std.proofs.lemmas.Bool.{and_left}
use Rattle.np_rules.specs.Prelude.{Address, AdminRule, ArePermitted, Contact, Direction, Egress, Four, HasPorts, HavePorts, Ingress, IsAdminPart, IsBasePart, IsNetOf, KeepsRules, Layer, ModelEnd, NetPort, NetRule, Pairwise, PlacedAdminRule, PlacedNetRule, PodSide, PortSpot, RuleConns, SaysVerdicts, Six, Stranger, address, admin_places, admin_rule_matches, admin_rule_reaches, admin_says, base_places, base_says, destination_of, kept_matches, matches_of, near_pod, net_entry_matches, net_peer_matches, net_places, net_rule_matches, none_or_any, placed_net_matches, pod, rule_of, stranger_end, with_stranger}
use Rattle.np_conns.specs.Prelude.{Conns, has_spot, is_spot}
use Rattle.np_model.specs.declared.network_policy.NetPort.TheVariants as net
use Rattle.np_rules.proofs.FilterLemmas.{filter-map, find_kept}
use Rattle.np_rules.proofs.LayerLemmas.{admin_same, base_same, matches_in, matches_in_namespace, walk_by_tiers}
use Rattle.np_rules.proofs.PairwiseLemmas.{Pairwise-map}
use Rattle.np_rules.proofs.AddressLemmas.{none_or_any-same}
use Rattle.np_tiers.specs.Prelude.{admin_allows, base_allows}

-- ---- the sets of the rules

-- a stranger has no named ports, as an address has none
entry_same : (direction : Direction) (near : ModelEnd) (s : Stranger) (a : Address) (spot : PortSpot) (entry : NetPort) → net_entry_matches entry
    (destination_of direction near (address a)) spot ≡ net_entry_matches entry (destination_of direction near (pod (stranger_end s))) spot
entry_same Ingress near s a spot entry = refl
entry_same Egress near s a spot (net.Span proto lo hi) = refl
entry_same Egress near s a spot (net.Named proto name) = refl

-- what the entries of a rule match at some address they match at each stranger
ports_same : (direction : Direction) (near : ModelEnd) (s : Stranger) (a : Address) (spot : PortSpot) (entries : List NetPort) → none_or_any
    (λ entry. net_entry_matches entry (destination_of direction near (address a)) spot) entries ≡ none_or_any
    (λ entry. net_entry_matches entry (destination_of direction near (pod (stranger_end s))) spot) entries
ports_same direction near s a spot entries = none_or_any-same (λ entry. net_entry_matches entry (destination_of direction near (address a)) spot)
    (λ entry. net_entry_matches entry (destination_of direction near (pod (stranger_end s))) spot) (entry_same direction near s a spot) entries

-- so a set of what the entries of a rule match at addresses is one of what they match at strangers
pub has_ports : (direction : Direction) (near : ModelEnd) (kept : RuleConns) →
    ((a : Address) (spot : PortSpot) → is_spot spot ≡ true → has_spot kept.conns spot ≡ none_or_any
    (λ entry. net_entry_matches entry (destination_of direction near (address a)) spot) (rule_of kept).ports) → HasPorts direction near kept
has_ports direction near kept at_addresses = λ s spot within. at_addresses (Six 0) spot within ∙ ports_same direction near s (Six 0) spot (rule_of kept).ports

-- one rule more
pub images-next : {X Y Z : Type 0} (f : X → Y) (g : Z → Y) (made new : List X) (x : X) (zs : List Z) (i : ℕ) (z : Z) → i < length zs → z ≡ get_or zs i z → new
    ≡ made ++ x ∷ [] → f x ≡ g z → map f made ≡ map g (take i zs) → map f new ≡ map g (take (i + 1) zs)
images-next {X} {Y} {Z} f g made new x zs i z within is pushed same so_far =
    ap (map f) pushed
    ∙ map-append f made (x ∷ [])
    ∙ ap (λ (ys : List Y). ys ++ f x ∷ []) so_far
    ∙ ap (λ (y : Y). map g (take i zs) ++ y ∷ []) same
    ∙ sym (ap (map g) (take_more zs i z within ∙ ap (λ (last : Z). take i zs ++ last ∷ []) (sym is)) ∙ map-append g (take i zs) (z ∷ []))

pub all-push : {X : Type 0} (P : X → Type 0) (xs : List X) (x : X) → AllByRecursion P xs → P x → AllByRecursion P (xs ++ x ∷ [])
all-push P [] x all here = (here, tt)
all-push P (y ∷ xs) x all here = (all.0, all-push P xs x all.1 here)

-- ---- what they say together

pub any-map : {X Y : Type 0} (f : Y → Bool) (g : X → Y) (xs : List X) → list_any f (map g xs) ≡ list_any (λ x. f (g x)) xs
any-map f g [] = refl
any-map f g (x ∷ xs) = ap (λ b. f (g x) || b) (any-map f g xs)

-- the kept rules match what they match as rules
kept_same : (side : PodSide) (s : Stranger) (namespace : List ℕ) (spot : PortSpot) → is_spot spot ≡ true → (kept : List RuleConns) → HavePorts side kept → list_any
    (kept_matches namespace (pod (stranger_end s)) spot) kept ≡ list_any (λ k. net_rule_matches namespace (rule_of k) (with_stranger s side spot)) kept
kept_same side s namespace spot within [] have = refl
kept_same side s namespace spot within (k ∷ kept) have =
    let peers = none_or_any (λ peer. net_peer_matches namespace peer (pod (stranger_end s))) (rule_of k).peers in
    let rule_matches : RuleConns → Bool = λ k'. net_rule_matches namespace (rule_of k') (with_stranger s side spot) in
    ap (λ b. (peers && b) || list_any (kept_matches namespace (pod (stranger_end s)) spot) kept) (have.0 s spot within)
    ∙ ap (λ b. rule_matches k || b) (kept_same side s namespace spot within kept have.1)

-- some kept rule matches a stranger where NetworkPolicies permit that
pub net_of_kept : (side : PodSide) (admin : List AdminRule) (isolated : Bool) (kept : List RuleConns) (base : List AdminRule) → KeepsRules side admin isolated
    (map rule_of kept) base → HavePorts side kept → IsNetOf side kept
net_of_kept side admin isolated kept base keeps have s spot within =
    kept_same side s (near_pod side).namespace spot within kept have
    ∙ sym (any-map by_rule rule_of kept)
    ∙ ap (list_any by_rule) keeps.net_rules
    ∙ any-map by_rule (λ placed. placed.rule) nets
    ∙ sym (any-map passes (matches_in (near_pod side).namespace) nets)
    ∙ ap (list_any passes) (sym (matches_in_namespace side.lists.net_policies side.direction (near_pod side)))
    ∙ any-map passes matches_of nets
  where
    nets : List PlacedNetRule
    nets = net_places side.lists.net_policies side.direction (near_pod side)

    by_rule : NetRule → Bool
    by_rule rule = net_rule_matches (near_pod side).namespace rule (with_stranger s side spot)

    passes : (Contact → Bool) → Bool
    passes matches = matches (with_stranger s side spot)

-- A layer whose parts are those of the kept rules, and whose only set has what NetworkPolicies permit the stranger, says what the side says of it.
pub says_of_stranger : (side : PodSide) (s : Stranger) (admin : List AdminRule) (isolated : Bool) (net : List NetRule) (base kept : List AdminRule) (at : PortSpot → Contact)
    (permitted : Conns) (made : Layer Conns) → at ≡ with_stranger s side → KeepsRules side admin isolated net base →
    kept ≡ filter (admin_rule_reaches (pod (stranger_end s)) Four) admin → ArePermitted side s permitted → Pairwise (IsAdminPart has_spot is_spot at) made.admin kept → made.isolated ≡ isolated → made.net ≡ permitted ∷ [] → Pairwise (IsBasePart has_spot is_spot at) made.base base
    → SaysVerdicts has_spot is_spot side (with_stranger s) made
says_of_stranger side s admin isolated net base kept at permitted made is_at keeps are_kept are_permitted are_admin same is_net are_base spot within =
    walk_by_tiers has_spot side.lists side.direction (near_pod side) (contacts spot) made spot keeps.ascending (same ∙ keeps.isolation) net_says base_is admin_is
  where
    contacts : PortSpot → Contact
    contacts = with_stranger s side

    net_says : list_any (λ set. has_spot set spot) made.net ≡ list_any (placed_net_matches (contacts spot)) (net_places side.lists.net_policies side.direction (near_pod side))
    net_says = ap (list_any (λ set. has_spot set spot)) is_net ∙ or-false (has_spot permitted spot) ∙ are_permitted spot within

    base_is : base_allows (find (λ part. has_spot part.set spot) made.base) ≡ base_says
        (find (λ placed. admin_rule_matches placed.rule (contacts spot)) (base_places side.lists.baseline side.direction (near_pod side)))
    base_is =
        base_same has_spot is_spot contacts spot within made.base (base_places side.lists.baseline side.direction (near_pod side))
        (Pairwise-map (IsBasePart has_spot is_spot contacts) (λ placed. placed.rule) made.base (base_places side.lists.baseline side.direction (near_pod side))
        (subst (λ (rules : List AdminRule). Pairwise (IsBasePart has_spot is_spot contacts) made.base rules) keeps.base_rules
        (subst (λ (c : PortSpot → Contact). Pairwise (IsBasePart has_spot is_spot c) made.base base) is_at are_base)))

    admins : List PlacedAdminRule
    admins = admin_places side.lists.admin_policies side.direction (near_pod side)

    reaches : AdminRule → Bool
    reaches = admin_rule_reaches (pod (stranger_end s)) Four

    reaching : List PlacedAdminRule
    reaching = filter (λ placed. reaches placed.rule) admins

    kept_rules : kept ≡ map (λ placed. placed.rule) reaching
    kept_rules = are_kept ∙ ap (filter reaches) keeps.admin_rules ∙ filter-map (λ placed. placed.rule) reaches admins

    admin_is : (below : Bool) → admin_allows (find (λ part. has_spot part.set spot) made.admin) below ≡ admin_says
        (find (λ placed. admin_rule_matches placed.rule (contacts spot)) admins) below
    admin_is below =
        admin_same has_spot is_spot contacts spot within below made.admin reaching
        (Pairwise-map (IsAdminPart has_spot is_spot contacts) (λ placed. placed.rule) made.admin reaching
        (subst (λ (rules : List AdminRule). Pairwise (IsAdminPart has_spot is_spot contacts) made.admin rules) kept_rules
        (subst (λ (c : PortSpot → Contact). Pairwise (IsAdminPart has_spot is_spot c) made.admin kept) is_at are_admin)))
        ∙ ap (λ (found : Option PlacedAdminRule). admin_says found below)
        (find_kept (λ placed. admin_rule_matches placed.rule (contacts spot)) (λ placed. reaches placed.rule) admins (λ placed none. and_left _ _ none))
