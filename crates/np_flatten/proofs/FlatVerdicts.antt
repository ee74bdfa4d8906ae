-- The flat policies alone allow what the whole estate does. For `flat_policies_give_the_verdicts` and crates above.
use Rattle.std.proofs.Common.{◌≡◌, ◌≢◌, ℕ, ◌<◌, List, [], ◌∷◌, Bool, true, false, ◌&&◌, ◌||◌, Option, Some, None, Contains, length, not, get_or, codes, if◌then◌else◌, refl, sym, ap, subst, ◌∙◌}
use Rattle.std.specs.Option.{option_map_or}
use Rattle.std.specs.List.{AllByRecursion, list_any}
use Rattle.std.specs.Str.{bytes_eq}
use Rattle.std.proofs.lemmas.Bool.{false_from_ne_true}
use Rattle.std.proofs.lemmas.List.Elements.{All-get_or}
use Rattle.std.proofs.lemmas.List.Folds.{list_any-append}
use Rattle.std.proofs.lemmas.Option.{get_or_from_slice_get, slice_get-get_or}
use Rattle.std.proofs.Math.Bool.{and-false, and-true, or-false}
use Rattle.np_flatten.specs.Prelude.{AddressRow, Direction, Egress, EstateLists, Family, Ingress, NetPeer, NetRule, Pod, PortSpot, are_together, egress_rules, first_of_group, flat_fault, flat_policy, flattened, group_count, group_namespace, group_of, group_peer, group_rows, ingress_rules, is_defined, look_alike, ports_of, relevant, rule_if, rules_from_group, rules_from_groups, rules_of_addresses, rules_of_set, seen, set_from, set_in}
use Rattle.np_classes.proofs.Relations.{class_of_first, class_within, firsts_within, same_class}
use Rattle.np_classes.specs.Classes.{firsts, places}
use Rattle.np_conns.specs.Prelude.{Conns, has_spot, is_spot}
use Rattle.np_model.specs.Prelude.{IsLawful, SaysItsNamespace, families_of}
use Rattle.np_fold.proofs.WorkloadLemmas.{number-in_workloads, one_workload}
use Rattle.np_fold.specs.Prelude.{folding_of, workload_number}
use Rattle.np_labels.specs.Prelude.{value_of}
use Rattle.np_rules.specs.Prelude.{Contact, ModelEnd, PodEnd, address, allows, net_entry_matches, net_peer_matches, net_rule_matches, net_rules_of, net_selects, no_pod, none_or_any, pod, pod_at, pod_end, side_allows}
use Rattle.np_flatten.proofs.AddressVerdicts.{IsWellSpan, addresses-no_pod, addresses-permit, any-never, at_address, row_tells, rows-any, rows-well}
use Rattle.np_flatten.proofs.ClassFirsts.{first-alike}
use Rattle.np_flatten.proofs.DifferLemmas.{own_rows}
use Rattle.np_flatten.proofs.FlatFacts.{family-set, first-of, group-rows, set_from-is}
use Rattle.np_flatten.proofs.GroupLemmas.{look_decides, together-is}
use Rattle.np_flatten.proofs.KindGroups.{kind-looks}
use Rattle.np_flatten.proofs.OnePolicy.{any-flat_map, only-one, side-by_one}
use Rattle.np_flatten.proofs.PortLemmas.{ports-match}
use Rattle.np_flatten.proofs.SelectLemmas.{meets-namespace_named, meets-selector_of}
use Rattle.np_kinds.specs.Prelude.{address_allows, address_numbered, between_pods, first_end, number_of_workloads, pair_allows, source_pod, with_address}
use Rattle.np_kinds.proofs.MemberLemmas.{member-number, members-some, members-within, not-alone, own-member, source-member}
use Rattle.np_kinds.proofs.PairLemmas.{between_pods-pair_allows, pod_there, with_address-address_allows}
use Rattle.np_conns.proofs.ConnLemmas.{conns_of-has}
use Rattle.np_table.specs.Prelude.{IsInFamily, address_rows, estate_table, is_nothing, table_of}
use Rattle.np_table.proofs.SaidLemmas.{has_spot-nothing}
use Rattle.np_base.proofs.Lists.{list_any-agrees}

-- ---- pods and groups

pub number-within : (lists : EstateLists) (p : ℕ) → p < length lists.pods → workload_number lists p < number_of_workloads lists
unfolding folding_of
number-within lists p within = number-in_workloads lists p within

-- what selectors see of a pod is what they see of the first pod of its workload
pub seen-pod : (lists : EstateLists) (p : ℕ) → p < length lists.pods → seen (relevant lists) (pod_at lists p) ≡ seen (relevant lists) (first_end lists (workload_number lists p))
seen-pod lists p within =
    let folding = folding_of lists in
    let x = workload_number lists p in
    let x_in = number-within lists p within in
    let near = source_pod folding x in
    let has = source-member folding x (members-some lists folding x refl x_in) in
    let near_in = members-within lists folding x near refl x_in has in
    let a = pod_there lists p within in
    let b = pod_there lists near near_in in
    let alike = (one_workload lists p near a.0 b.0 a.1 b.1).0 (sym (member-number lists x near near_in has)) in
    ap (λ (found : Option Pod). seen (relevant lists) (option_map_or pod_end found no_pod)) a.1
    ∙ (look_decides (relevant lists) (pod_end a.0) (pod_end b.0)).0 (kind-looks lists a.0 b.0 alike.kind)
    ∙ sym (ap (λ (found : Option Pod). seen (relevant lists) (option_map_or pod_end found no_pod)) b.1)

-- the group of a pod
abbrev group_at : EstateLists → ℕ → ℕ
group_at lists p = group_of lists (workload_number lists p)

group-within : (lists : EstateLists) (p : ℕ) → p < length lists.pods → group_at lists p < group_count lists
group-within lists p within = class_within (are_together lists) (number_of_workloads lists) (together-is lists (number_of_workloads lists)) (workload_number lists p) (number-within lists p within)

-- whether a pod is as the first pod of a group, as far as selectors see
abbrev has_pod : EstateLists → ℕ → ℕ → Bool
has_pod lists group p = look_alike (relevant lists) (first_end lists (first_of_group lists group)) (pod_at lists p)

-- so it is in its own group
own-pod : (lists : EstateLists) (p : ℕ) → p < length lists.pods → has_pod lists (group_at lists p) p ≡ true
unfolding are_together
own-pod lists p within =
    let x = workload_number lists p in
    let first = first_of_group lists (group_at lists p) in
    let tied = first-alike (are_together lists) (number_of_workloads lists) (together-is lists (number_of_workloads lists)) x (number-within lists p within) in
    (look_decides (relevant lists) (first_end lists first) (pod_at lists p)).1
    ((look_decides (relevant lists) (first_end lists first) (first_end lists x)).0 tied ∙ sym (seen-pod lists p within))

-- and in no other
other-pod : (lists : EstateLists) (p group : ℕ) → p < length lists.pods → group < group_count lists → group ≢ group_at lists p → has_pod lists group p ≡ false
unfolding are_together
other-pod lists p group within below apart =
    false_from_ne_true (has_pod lists group p) (λ yes.
    let n = number_of_workloads lists in
    let x = workload_number lists p in
    let first = first_of_group lists group in
    let lawful = together-is lists n in
    let at = slice_get-get_or (firsts (are_together lists) n) group 0 below in
    let first_in = All-get_or (λ (k : ℕ). k < n) (firsts (are_together lists) n) group 0 below (firsts_within (are_together lists) n) in
    let tied = (look_decides (relevant lists) (first_end lists first) (first_end lists x)).1
    ((look_decides (relevant lists) (first_end lists first) (pod_at lists p)).0 yes ∙ seen-pod lists p within) in
    apart (sym (class_of_first (are_together lists) n lawful group first at) ∙ same_class (are_together lists) n lawful first x first_in (number-within lists p within) tied))

-- the policy of a group selects the pods that are so
selects : (lists : EstateLists) (group p : ℕ) → net_selects (flat_policy lists group) (pod_at lists p) ≡ has_pod lists group p
unfolding flat_policy
selects lists group p =
    ap (λ (b : Bool). bytes_eq (group_namespace lists group) (pod_at lists p).namespace && b)
    (meets-selector_of (relevant lists) (first_end lists (first_of_group lists group)).labels (pod_at lists p).labels)

says_namespace : (lists : EstateLists) (p : ℕ) → IsLawful lists → p < length lists.pods →
    value_of (pod_at lists p).namespace_labels (codes "kubernetes.io/metadata.name") ≡ Some (pod_at lists p).namespace
says_namespace lists p lawful within =
    let a = pod_there lists p within in
    let says : SaysItsNamespace (get_or lists.pods p a.0) = All-get_or SaysItsNamespace lists.pods p a.0 within lawful.namespaces_named in
    let own : SaysItsNamespace a.0 = subst SaysItsNamespace (get_or_from_slice_get lists.pods p a.0 a.0 a.1) says in
    let of : PodEnd → Type 0 = λ e. value_of e.namespace_labels (codes "kubernetes.io/metadata.name") ≡ Some e.namespace in
    subst of (sym (ap (λ (found : Option Pod). option_map_or pod_end found no_pod) a.1)) own

-- and so does its peer
peer-is : (lists : EstateLists) (namespace : List ℕ) (group p : ℕ) → IsLawful lists → p < length lists.pods →
    net_peer_matches namespace (group_peer lists group) (pod (pod_at lists p)) ≡ has_pod lists group p
peer-is lists namespace group p lawful within =
    rw (
      meets-namespace_named (group_namespace lists group) (pod_at lists p).namespace (pod_at lists p).namespace_labels (says_namespace lists p lawful within),
      meets-selector_of (relevant lists) (first_end lists (first_of_group lists group)).labels (pod_at lists p).labels,
    ) refl

-- ---- rules of groups

-- whether a set that may be missing has a spot
abbrev told : Option Conns → PortSpot → Bool
told None spot = false
told (Some set) spot = has_spot set spot

rule-any : (namespace : List ℕ) (peer : NetPeer) (set : Conns) (contact : Contact) → is_spot contact.spot ≡ true →
    list_any (λ rule. net_rule_matches namespace rule contact) (rule_if (peer ∷ []) set) ≡ (net_peer_matches namespace peer contact.far && has_spot set contact.spot)
rule-any namespace peer set contact is = by (is_nothing set) refl
  where
    by : (nothing : Bool) → is_nothing set ≡ nothing →
        list_any (λ rule. net_rule_matches namespace rule contact) (if nothing then [] else record { peers = peer ∷ []; ports = ports_of set } ∷ []) ≡
        (net_peer_matches namespace peer contact.far && has_spot set contact.spot)
    by true none = sym (ap (λ (b : Bool). net_peer_matches namespace peer contact.far && b) (has_spot-nothing set contact.spot none) ∙ and-false (net_peer_matches namespace peer contact.far))
    by false some =
        or-false ((net_peer_matches namespace peer contact.far || false) && none_or_any (λ entry. net_entry_matches entry contact.destination contact.spot) (ports_of set))
        ∙ rw (or-false (net_peer_matches namespace peer contact.far), ports-match set contact.destination contact.spot is some) refl

set-any : (namespace : List ℕ) (peer : NetPeer) (set : Option Conns) (contact : Contact) → is_spot contact.spot ≡ true →
    list_any (λ rule. net_rule_matches namespace rule contact) (rules_of_set peer set) ≡ (net_peer_matches namespace peer contact.far && told set contact.spot)
set-any namespace peer None contact is = sym (and-false (net_peer_matches namespace peer contact.far))
set-any namespace peer (Some set) contact is = rule-any namespace peer set contact is

abbrev from_pod : EstateLists → ℕ → ModelEnd → Family → PortSpot → Contact
from_pod lists p destination family spot = record { far = pod (pod_at lists p); destination = destination; family = family; spot = spot }

-- the rules of all groups allow a pod what its own group may send
groups-any : (lists : EstateLists) (namespace : List ℕ) (group p : ℕ) (destination : ModelEnd) (family : Family) (spot : PortSpot) → IsLawful lists → p < length lists.pods → is_spot spot ≡ true →
    list_any (λ rule. net_rule_matches namespace rule (from_pod lists p destination family spot)) (rules_from_groups lists group) ≡ told (set_from lists (group_at lists p) group) spot
groups-any lists namespace group p destination family spot lawful within is =
    let contact = from_pod lists p destination family spot in
    let each : (h : ℕ) → list_any (λ rule. net_rule_matches namespace rule contact) (rules_from_group lists group h) ≡ (has_pod lists h p && told (set_from lists h group) spot) = λ h.
    set-any namespace (group_peer lists h) (set_from lists h group) contact is ∙ ap (λ (b : Bool). b && told (set_from lists h group) spot) (peer-is lists namespace h p lawful within) in
    any-flat_map (λ (rule : NetRule). net_rule_matches namespace rule contact) (rules_from_group lists group) (places (group_count lists))
    ∙ only-one (λ (h : ℕ). list_any (λ rule. net_rule_matches namespace rule contact) (rules_from_group lists group h)) (group_count lists) (group_at lists p) (group-within lists p within)
    (λ h below apart. each h ∙ ap (λ (b : Bool). b && told (set_from lists h group) spot) (other-pod lists p h within below apart))
    ∙ each (group_at lists p)
    ∙ ap (λ (b : Bool). b && told (set_from lists (group_at lists p) group) spot) (own-pod lists p within)

-- and no address
groups-no_address : (lists : EstateLists) (namespace : List ℕ) (group : ℕ) (family : Family) (number : ℕ) (destination : ModelEnd) (spot : PortSpot) → is_spot spot ≡ true →
    list_any (λ rule. net_rule_matches namespace rule (at_address family number destination spot)) (rules_from_groups lists group) ≡ false
groups-no_address lists namespace group family number destination spot is =
    let contact = at_address family number destination spot in
    any-flat_map (λ (rule : NetRule). net_rule_matches namespace rule contact) (rules_from_group lists group) (places (group_count lists))
    ∙ list_any-agrees (λ (h : ℕ). list_any (λ rule. net_rule_matches namespace rule contact) (rules_from_group lists group h)) (λ (h : ℕ). false)
    (λ h. set-any namespace (group_peer lists h) (set_from lists h group) contact is) (places (group_count lists))
    ∙ any-never (places (group_count lists))

-- ---- the sides of a pod

abbrev rules_in : EstateLists → ℕ → Direction → List NetRule
rules_in lists group Ingress = ingress_rules lists group
rules_in lists group Egress = egress_rules lists group

has-rules : (lists : EstateLists) (group : ℕ) (direction : Direction) → net_rules_of direction (flat_policy lists group) ≡ Some (rules_in lists group direction)
unfolding flat_policy
has-rules lists group Ingress = refl
has-rules lists group Egress = refl

abbrev name_of_group : EstateLists → ℕ → List ℕ
name_of_group lists group = (flat_policy lists group).namespace

side-is : (lists : EstateLists) (p : ℕ) (direction : Direction) (contact : Contact) → p < length lists.pods →
    side_allows (flattened lists) direction (pod_at lists p) contact ≡ list_any (λ rule. net_rule_matches (name_of_group lists (group_at lists p)) rule contact)
    (rules_in lists (group_at lists p) direction)
side-is lists p direction contact within =
    side-by_one lists (flat_policy lists) (group_count lists) (group_at lists p) direction (pod_at lists p) contact (rules_in lists (group_at lists p) direction) (group-within lists p within)
    (selects lists (group_at lists p) p ∙ own-pod lists p within)
    (λ h below apart. selects lists h p ∙ other-pod lists p h within below apart)
    (has-rules lists (group_at lists p) direction)

-- a pod may send to every pod
egress-pod : (lists : EstateLists) (p q : ℕ) (destination : ModelEnd) (family : Family) (spot : PortSpot) → p < length lists.pods →
    side_allows (flattened lists) Egress (pod_at lists p) (from_pod lists q destination family spot) ≡ true
egress-pod lists p q destination family spot within = side-is lists p Egress (from_pod lists q destination family spot) within

wells : (lists : EstateLists) (group : ℕ) (direction : Direction) → AllByRecursion (λ (row : AddressRow). IsWellSpan row.span) (group_rows lists group direction)
unfolding address_rows
wells lists group direction = rows-well ((estate_table lists).addresses (first_of_group lists group) direction)

-- and receive of it what its group may send
ingress-pod : (lists : EstateLists) (q p : ℕ) (destination : ModelEnd) (family : Family) (spot : PortSpot) → IsLawful lists → q < length lists.pods → p < length lists.pods → is_spot spot ≡ true →
    side_allows (flattened lists) Ingress (pod_at lists q) (from_pod lists p destination family spot) ≡ told (set_from lists (group_at lists p) (group_at lists q)) spot
ingress-pod lists q p destination family spot lawful q_in p_in is =
    let name = name_of_group lists (group_at lists q) in
    let contact = from_pod lists p destination family spot in
    let rows = group_rows lists (group_at lists q) Ingress in
    side-is lists q Ingress contact q_in
    ∙ list_any-append (λ (rule : NetRule). net_rule_matches name rule contact) (rules_from_groups lists (group_at lists q)) (rules_of_addresses rows)
    ∙ ap (λ (b : Bool). list_any (λ rule. net_rule_matches name rule contact) (rules_from_groups lists (group_at lists q)) || b)
    (addresses-no_pod name rows (pod_at lists p) family destination spot (wells lists (group_at lists q) Ingress))
    ∙ or-false (list_any (λ rule. net_rule_matches name rule contact) (rules_from_groups lists (group_at lists q)))
    ∙ groups-any lists name (group_at lists q) p destination family spot lawful p_in is

-- ---- addresses

own-rows : (lists : EstateLists) → flat_fault lists ≡ None → (p : ℕ) (direction : Direction) → p < length lists.pods →
    group_rows lists (group_at lists p) direction ≡ address_rows (estate_table lists) (workload_number lists p) direction
own-rows lists fine p direction within =
    let x = workload_number lists p in
    let x_in = number-within lists p within in
    let first = first-of lists x x_in in
    let same = group-rows lists fine (first_of_group lists (group_at lists p)) x first.0 x_in first.1 in
    by direction same
  where
    by : (d : Direction) → own_rows lists (first_of_group lists (group_at lists p)) ≡ own_rows lists (workload_number lists p) →
        group_rows lists (group_at lists p) d ≡ address_rows (estate_table lists) (workload_number lists p) d
    by Ingress same = ap (λ (rows : List AddressRow × List AddressRow). rows.0) same
    by Egress same = ap (λ (rows : List AddressRow × List AddressRow). rows.1) same

pub row-any : (lists : EstateLists) (x : ℕ) (direction : Direction) (family : Family) (number : ℕ) (spot : PortSpot) → IsInFamily family number → is_spot spot ≡ true →
    list_any (row_tells family number spot) (address_rows (estate_table lists) x direction) ≡ address_allows lists (folding_of lists) x direction family number spot
unfolding address_rows table_of
row-any lists x direction family number spot within is = rows-any (address_allows lists (folding_of lists) x direction) family number spot within is

-- the rules of addresses of a pod's group allow an address what the whole estate does
addresses-any : (lists : EstateLists) → flat_fault lists ≡ None → (namespace : List ℕ) (p : ℕ) (direction : Direction) (family : Family) (number : ℕ) (destination : ModelEnd) (spot : PortSpot) →
    p < length lists.pods → IsInFamily family number → is_spot spot ≡ true →
    list_any (λ rule. net_rule_matches namespace rule (at_address family number destination spot)) (rules_of_addresses (group_rows lists (group_at lists p) direction)) ≡ address_allows lists
    (folding_of lists) (workload_number lists p) direction family number spot
addresses-any lists fine namespace p direction family number destination spot within in_family is =
    addresses-permit namespace (group_rows lists (group_at lists p) direction) family number destination spot (wells lists (group_at lists p) direction) is
    ∙ ap (list_any (row_tells family number spot)) (own-rows lists fine p direction within)
    ∙ row-any lists (workload_number lists p) direction family number spot in_family is

address-side : (lists : EstateLists) → flat_fault lists ≡ None → (p : ℕ) (direction : Direction) (family : Family) (number : ℕ) (destination : ModelEnd) (spot : PortSpot) → p < length lists.pods →
    IsInFamily family number → is_spot spot ≡ true →
    side_allows (flattened lists) direction (pod_at lists p) (at_address family number destination spot) ≡ address_allows lists (folding_of lists) (workload_number lists p) direction family number spot
address-side lists fine p Ingress family number destination spot within in_family is =
    let name = name_of_group lists (group_at lists p) in
    let contact = at_address family number destination spot in
    side-is lists p Ingress contact within
    ∙ list_any-append (λ (rule : NetRule). net_rule_matches name rule contact) (rules_from_groups lists (group_at lists p)) (rules_of_addresses (group_rows lists (group_at lists p) Ingress))
    ∙ ap (λ (b : Bool). b || list_any (λ rule. net_rule_matches name rule contact) (rules_of_addresses (group_rows lists (group_at lists p) Ingress)))
    (groups-no_address lists name (group_at lists p) family number destination spot is)
    ∙ addresses-any lists fine name p Ingress family number destination spot within in_family is
address-side lists fine p Egress family number destination spot within in_family is =
    let name = name_of_group lists (group_at lists p) in
    let contact = at_address family number destination spot in
    side-is lists p Egress contact within
    ∙ addresses-any lists fine name p Egress family number destination spot within in_family is

-- ---- packets

-- between a pod and an address the flat policies allow what the whole estate does
pub addresses-same : (lists : EstateLists) (p : ℕ) (direction : Direction) (family : Family) (number : ℕ) (spot : PortSpot) → IsLawful lists → flat_fault lists ≡ None → p < length lists.pods →
    IsInFamily family number → is_spot spot ≡ true →
    with_address (flattened lists) direction (pod (pod_at lists p)) family number spot ≡ with_address lists direction (pod (pod_at lists p)) family number spot
unfolding allows
addresses-same lists p direction family number spot lawful fine within in_family is =
    flat direction ∙ sym (with_address-address_allows lists p direction family number spot lawful within)
  where
    flat : (d : Direction) → with_address (flattened lists) d (pod (pod_at lists p)) family number spot ≡ address_allows lists (folding_of lists) (workload_number lists p) d family number spot
    flat Ingress = address-side lists fine p Ingress family number (pod (pod_at lists p)) spot within in_family is
    flat Egress =
        and-true (side_allows (flattened lists) Egress (pod_at lists p) (at_address family number (address (address_numbered family number)) spot))
        ∙ address-side lists fine p Egress family number (address (address_numbered family number)) spot within in_family is

set-has : (lists : EstateLists) (family : Family) (x y : ℕ) (spot : PortSpot) → is_spot spot ≡ true → has_spot (set_in lists family x y) spot ≡ pair_allows lists (folding_of lists) x y family spot
unfolding set_in
set-has lists family x y spot is = conns_of-has (pair_allows lists (folding_of lists) x y family) spot is

-- and between two pods
pub pods-same : (lists : EstateLists) (p q : ℕ) (family : Family) (spot : PortSpot) → IsLawful lists → flat_fault lists ≡ None → p < length lists.pods → q < length lists.pods → p ≢ q →
    Contains (families_of lists.pods) family → is_spot spot ≡ true → between_pods (flattened lists) p q family spot ≡ between_pods lists p q family spot
unfolding allows
pods-same lists p q family spot lawful fine p_in q_in apart listed is =
    let x = workload_number lists p in
    let y = workload_number lists q in
    let x_in = number-within lists p p_in in
    let y_in = number-within lists q q_in in
    let defined : is_defined lists x y ≡ true = ap not (not-alone (folding_of lists) x y p q (own-member lists p p_in) (own-member lists q q_in) apart) in
    let sides : (side_allows (flattened lists) Egress (pod_at lists p) (from_pod lists q (pod (pod_at lists q)) family spot) && side_allows (flattened lists) Ingress (pod_at lists q)
    (from_pod lists p (pod (pod_at lists q)) family spot)) ≡ told (set_from lists (group_at lists p) (group_at lists q)) spot
    = rw (egress-pod lists p q (pod (pod_at lists q)) family spot p_in) (ingress-pod lists q p (pod (pod_at lists q)) family spot lawful q_in p_in is) in
    sides
    ∙ ap (λ (o : Option Conns). told o spot) (set_from-is lists fine x y x_in y_in defined)
    ∙ ap (λ (set : Conns). has_spot set spot) (family-set lists fine x y family x_in y_in defined listed)
    ∙ set-has lists family x y spot is
    ∙ sym (between_pods-pair_allows lists p q family spot lawful p_in q_in apart)
