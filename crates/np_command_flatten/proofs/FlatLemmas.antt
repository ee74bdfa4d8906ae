-- Flat policies are as the API has them, and no two have one name. For `flat_policies_are_read_again`.
use Rattle.std.proofs.Common.{◌≡◌, ◌≢◌, ℕ, zero, suc, ◌+◌, ◌^◌, ◌<◌, ◌≤◌, List, [], ◌∷◌, ◌++◌, Bool, true, false, not, ◌&&◌, ◌==◌, flat_map, length, map, Option, Some, None, Ok, codes, decimal, option_map, refl, sym, ap, subst, ◌∙◌, arith, le-leb, ne_eqb}
use Rattle.std.specs.Option.{option_map_or}
use Rattle.std.proofs.lemmas.Bool.{and_from, and_parts, cond_both, lt-leb}
use Rattle.std.proofs.lemmas.Fmt.{decimal_injective, decimal_is_IsNumeral}
use Rattle.std.proofs.lemmas.List.{length-map}
use Rattle.std.proofs.lemmas.List.FromFn.{length-range_with_len}
use Rattle.std.proofs.lemmas.List.Elements.{recursion_from_All}
use Rattle.std.proofs.lemmas.Option.{same_Some}
use Rattle.std.specs.Cmp.Lexicographic.{bytes_decides}
use Rattle.std.specs.List.{AllByRecursion, list_all, range_with_len, slice_get}
use Rattle.std.specs.Prelude.{AllPairs}
use Rattle.std.specs.Str.Parse.{AllDigits}
use Rattle.std.specs.Str.{bytes_eq}
use Rattle.np_addr.specs.Prelude.{prefixes_of}
use Rattle.np_command_flatten.specs.Prelude.{AddressRow, AreApart, Block, Cidr, Direction, Egress, EstateLists, Ingress, NetPeer, NetRule, Proto, Range, Sctp, Tcp, Udp, estate_with, is_printable, is_printable_block, is_printable_peer, is_printable_port, is_printable_rule}
use Rattle.np_base.proofs.Lists.{list_all-both}
use Rattle.np_base.proofs.Bools.{not_both}
use Rattle.np_base.proofs.Texts.{digit_range}
use Rattle.np_classes.proofs.Lists.{All-places}
use Rattle.np_classes.proofs.Relations.{firsts-le-count}
use Rattle.np_classes.specs.Classes.{places}
use Rattle.np_conns.specs.Prelude.{Conns, IsRun, is_whole}
use Rattle.np_reading.proofs.LawfulLists.{AllLater, AllPairs-from_later, list_all-from_all}
use Rattle.np_reading.specs.Prelude.{estate_of}
use Rattle.np_model.specs.Prelude.{IsLawful, has_slash, is_name, is_well, is_well_label, is_well_labels, is_well_pod, is_well_ports, is_whole_word, is_word, is_word_byte, is_worded}
use Rattle.np_model.specs.declared.pod.Pod.{Pod}
use Rattle.np_fold.proofs.WorkloadLemmas.{workloads-count}
use Rattle.np_fold.specs.Prelude.{folding_of, keys_of_estate, pods_alike}
use Rattle.np_items.specs.Prelude.{json_of}
use Rattle.np_labels.proofs.Distinct.{list_all-distinct}
use Rattle.np_labels.specs.Prelude.{value_of}
use Rattle.np_labels.specs.WellFormed as labels
use Rattle.np_labels.specs.declared.pair.Pair.{Pair}
use Rattle.np_model.specs.WellPolicies.{is_well_selector}
use Rattle.np_rules.specs.Prelude.{no_pod, pod_end}
use Rattle.np_flatten.proofs.AddressVerdicts.{IsWellSpan, rows-well, span-set}
use Rattle.np_flatten.proofs.KindGroups.{in_count}
use Rattle.np_flatten.proofs.ReceiverFacts.{group-first-in, groups-le}
use Rattle.np_flatten.specs.Prelude.{blocks_of_span, family_of_list, first_of_group, flat_name, flat_policies, flat_policy, group_count, group_firsts, group_namespace, group_peer, group_rows, group_selector, ingress_rules, namespace_named, ports_of, ranges_of_span, receiver_in, relevant, requirement_at, requirement_of_key, rule_if, rules_from_group, rules_from_groups, rules_of_addresses, rules_of_set, set_from, set_in, set_of, span_of, spans_of_all}
use Rattle.np_kinds.proofs.PairLemmas.{pod_there, source-within}
use Rattle.np_kinds.specs.Prelude.{first_end, number_of_workloads, pair_allows, source_pod}
use Rattle.np_table.specs.Prelude.{address_rows, estate_table, is_nothing}
use Rattle.np_table.specs.declared.rows.AddressSpan.TheVariants as span
use Rattle.np_manifests.specs.Lists.{list_data}
use Rattle.np_command_flatten.proofs.EstateLemmas.{estate_of-list}
use Rattle.np_command_flatten.proofs.KeyLemmas.{estate-keys}
use Rattle.np_command_flatten.proofs.LawfulReads.{estate-lawful}
use Rattle.np_command_flatten.proofs.PrefixLemmas.{prefixes-printable}
use Rattle.np_command_flatten.proofs.RunLemmas.{AreRuns, conns_of-runs, rows-runs}
use Rattle.np_command_flatten.proofs.ShapeLemmas.{all-mapped}

-- ---- the first pod of a workload

found-passes : {X : Type 0} (test : X → Bool) (xs : List X) (place : ℕ) (x : X) → list_all test xs ≡ true → slice_get xs place ≡ Some x → test x ≡ true
found-passes test [] place x all at = cc
found-passes test (y ∷ ys) zero x all at = ap test (sym (same_Some y x at)) ∙ (and_parts (test y) (list_all test ys) all).0
found-passes test (y ∷ ys) (suc place) x all at = found-passes test ys place x (and_parts (test y) (list_all test ys) all).1 at

pods-well : (lists : EstateLists) → is_well lists ≡ true → list_all is_well_pod lists.pods ≡ true
pods-well lists well = (and_parts (list_all is_well_pod lists.pods) _ (and_parts _ _ (and_parts _ _ (and_parts _ _ (and_parts _ _ well).0).0).0).0).0

pod-parts : (pod : Pod) → is_well_pod pod ≡ true → (is_name pod.namespace ≡ true) × (is_well_labels pod.labels ≡ true)
pod-parts pod well =
    let ports = and_parts _ (is_well_ports pod.ports) (and_parts _ (is_name pod.owner.kind) (and_parts _ (is_name pod.owner.name) well).0).0 in
    let own = and_parts _ (is_well_labels pod.labels) ports.0 in
    let names = and_parts (is_name pod.namespace && is_name pod.name) (is_well_labels pod.namespace_labels) own.0 in
    ((and_parts (is_name pod.namespace) (is_name pod.name) names.0).0, own.1)

end-well : (lists : EstateLists) (w : ℕ) → is_well lists ≡ true → w < number_of_workloads lists → (is_name (first_end lists w).namespace ≡ true) × (is_well_labels (first_end lists w).labels ≡ true)
end-well lists w well within =
    let place = source_pod (folding_of lists) w in
    let found = pod_there lists place (source-within lists w (in_count lists w within)) in
    let of : Option Pod → Type 0 = λ o. (is_name (option_map_or pod_end o no_pod).namespace ≡ true) × (is_well_labels (option_map_or pod_end o no_pod).labels ≡ true) in
    subst of (sym found.1) (pod-parts found.0 (found-passes is_well_pod lists.pods place found.0 (pods-well lists well) found.1))

-- ---- selectors

value-word : (own : List Pair) (key value : List ℕ) → is_well_labels own ≡ true → value_of own key ≡ Some value → is_word value ≡ true
value-word [] key value well found = cc
value-word (pair ∷ own) key value well found =
    let parts = and_parts (is_well_label pair) (is_well_labels own) well in
    by (bytes_eq pair.key key) refl (and_parts _ (is_word pair.value) parts.0).1 (value-word own key value parts.1)
  where
    by : (b : Bool) → bytes_eq pair.key key ≡ b → is_word pair.value ≡ true → (value_of own key ≡ Some value → is_word value ≡ true) → is_word value ≡ true
    by true same here rest = let one : Some pair.value ≡ Some value = rw same at found in ap is_word (sym (same_Some pair.value value one)) ∙ here
    by false other here rest = rest (rw other at found)

requirement-well : (own : List Pair) (key : List ℕ) → is_whole_word key ≡ true → is_well_labels own ≡ true →
    (labels.is_well_requirement (requirement_of_key own key) ≡ true) × (is_worded (requirement_of_key own key) ≡ true)
requirement-well own key is well = by (value_of own key) refl
  where
    by : (o : Option (List ℕ)) → value_of own key ≡ o → (labels.is_well_requirement (requirement_at key o) ≡ true) × (is_worded (requirement_at key o) ≡ true)
    by None found = (refl, and_from (is_whole_word key) true is refl)
    by (Some value) found = (refl, and_from (is_whole_word key) (is_word value && true) is (and_from (is_word value) true (value-word own key value well found) refl))

requirements-well : (own : List Pair) (keys : List (List ℕ)) → is_well_labels own ≡ true → list_all is_whole_word keys ≡ true →
    (list_all labels.is_well_requirement (map (requirement_of_key own) keys) ≡ true) × (list_all is_worded (map (requirement_of_key own) keys) ≡ true)
requirements-well own [] well all = (refl, refl)
requirements-well own (key ∷ keys) well all =
    let parts = and_parts (is_whole_word key) (list_all is_whole_word keys) all in
    let here = requirement-well own key parts.0 well in
    let rest = requirements-well own keys well parts.1 in
    (and_from (labels.is_well_requirement (requirement_of_key own key)) _ here.0 rest.0, and_from (is_worded (requirement_of_key own key)) _ here.1 rest.1)

named-well : (name : List ℕ) → is_name name ≡ true → is_well_selector (namespace_named name) ≡ true
named-well name is =
    let some = and_parts (not (length name == 0) && is_word name) (not (has_slash name)) is in
    rw (and_parts (not (length name == 0)) (is_word name) some.0).1 refl

relevant-keys : (lists : EstateLists) → is_well lists ≡ true → list_all is_whole_word (relevant lists) ≡ true
unfolding folding_of
relevant-keys lists well = list_all-distinct is_whole_word (keys_of_estate lists) (estate-keys lists well)

-- ---- ports

spans-printable : (proto : Proto) (runs : List (Range ℕ)) → AllByRecursion IsRun runs → list_all is_printable_port (map (span_of proto) runs) ≡ true
spans-printable proto [] all = refl
spans-printable proto (run ∷ runs) all = rw (le-leb 1 run.lo all.0.low, le-leb run.lo run.hi all.0.ordered, le-leb run.hi 65535 all.0.high, spans-printable proto runs all.1) refl

ports-printable : (conns : Conns) → AreRuns conns → list_all is_printable_port (ports_of conns) ≡ true
ports-printable conns are =
    let tcp = map (span_of Tcp) conns.tcp in
    let udp = map (span_of Udp) conns.udp in
    let sctp = map (span_of Sctp) conns.sctp in
    let all = list_all-both is_printable_port (tcp ++ udp) sctp (list_all-both is_printable_port tcp udp (spans-printable Tcp conns.tcp are.tcp) (spans-printable Udp conns.udp are.udp))
    (spans-printable Sctp conns.sctp are.sctp) in
    cond_both (is_whole conns.tcp && is_whole conns.udp && is_whole conns.sctp) [] (spans_of_all conns) (λ ports. list_all is_printable_port ports ≡ true) (λ yes. refl) (λ no. all)

-- ---- rules

rule-printable : (peers : List NetPeer) (conns : Conns) → list_all is_printable_peer peers ≡ true → AreRuns conns → list_all is_printable_rule (rule_if peers conns) ≡ true
rule-printable peers conns all are =
    let one : NetRule = record { peers = peers; ports = ports_of conns } in
    let printable = and_from (list_all is_printable_peer peers) (list_all is_printable_port (ports_of conns)) all (ports-printable conns are) in
    cond_both (is_nothing conns) [] (one ∷ []) (λ rules. list_all is_printable_rule rules ≡ true) (λ yes. refl) (λ no. and_from (is_printable_rule one) true printable refl)

flat-printable : {X : Type 0} (f : X → List NetRule) (xs : List X) → AllByRecursion (λ x. list_all is_printable_rule (f x) ≡ true) xs → list_all is_printable_rule (flat_map f xs) ≡ true
flat-printable f [] all = refl
flat-printable f (x ∷ xs) all = list_all-both is_printable_rule (f x) (flat_map f xs) all.0 (flat-printable f xs all.1)

-- ---- rules of addresses

blocks-printable : (blocks : List Cidr) → list_all is_printable_block blocks ≡ true → list_all is_printable_peer (map (λ cidr. Block cidr []) blocks) ≡ true
blocks-printable [] all = refl
blocks-printable (block ∷ blocks) all =
    let parts = and_parts (is_printable_block block) (list_all is_printable_block blocks) all in
    rw (parts.0, blocks-printable blocks parts.1) refl

rows-printable : (rows : List AddressRow) → AllByRecursion (λ row. IsWellSpan row.span) rows → AllByRecursion (λ row. AreRuns row.conns) rows →
    list_all is_printable_rule (rules_of_addresses rows) ≡ true
rows-printable [] wells runs = refl
rows-printable (row ∷ rows) wells runs =
    let peers = blocks-printable (prefixes_of (ranges_of_span row.span)) (prefixes-printable (ranges_of_span row.span) (span-set row.span wells.0)) in
    list_all-both is_printable_rule (rule_if (blocks_of_span row.span) row.conns) (rules_of_addresses rows) (rule-printable (blocks_of_span row.span) row.conns peers runs.0)
    (rows-printable rows wells.1 runs.1)

group_rows-printable : (lists : EstateLists) (group : ℕ) (direction : Direction) → list_all is_printable_rule (rules_of_addresses (group_rows lists group direction)) ≡ true
unfolding address_rows
group_rows-printable lists group direction =
    let passes = (estate_table lists).addresses (first_of_group lists group) direction in
    rows-printable (group_rows lists group direction) (rows-well passes) (rows-runs passes)

-- ---- rules of groups

set-runs : (lists : EstateLists) (source destination : ℕ) → AreRuns (set_of lists source destination)
unfolding set_in
set-runs lists source destination = conns_of-runs (pair_allows lists (folding_of lists) source destination (family_of_list lists))

abbrev MayBeRuns : Option Conns → Type 0
MayBeRuns None = Unit {0}
MayBeRuns (Some conns) = AreRuns conns

set_from-runs : (lists : EstateLists) (sender group : ℕ) → MayBeRuns (set_from lists sender group)
set_from-runs lists sender group = by (receiver_in lists (first_of_group lists sender) group)
  where
    by : (receiver : Option ℕ) → MayBeRuns (option_map (set_of lists (first_of_group lists sender)) receiver)
    by None = tt
    by (Some receiver) = set-runs lists (first_of_group lists sender) receiver

module _ (lists : EstateLists) (well : is_well lists ≡ true) where
  group-end : (group : ℕ) → group < group_count lists → (is_name (group_namespace lists group) ≡ true) × (is_well_labels (first_end lists (first_of_group lists group)).labels ≡ true)
  group-end group within = end-well lists (first_of_group lists group) well (group-first-in lists (group_firsts lists) group refl within)

  selector-printable : (group : ℕ) → group < group_count lists → is_well_selector (group_selector lists group) ≡ true
  selector-printable group within =
      let both = requirements-well (first_end lists (first_of_group lists group)).labels (relevant lists) (group-end group within).1 (relevant-keys lists well) in
      and_from (labels.has_well_requirements (group_selector lists group)) _ both.0 both.1

  peer-printable : (group : ℕ) → group < group_count lists → is_printable_peer (group_peer lists group) ≡ true
  peer-printable group within =
      and_from (is_well_selector (namespace_named (group_namespace lists group))) (is_well_selector (group_selector lists group)) (named-well (group_namespace lists group) (group-end group within).0)
      (selector-printable group within)

  from-printable : (group sender : ℕ) → sender < group_count lists → list_all is_printable_rule (rules_from_group lists group sender) ≡ true
  from-printable group sender within = by (set_from lists sender group) (set_from-runs lists sender group)
    where
      by : (set : Option Conns) → MayBeRuns set → list_all is_printable_rule (rules_of_set (group_peer lists sender) set) ≡ true
      by None are = refl
      by (Some set) are = rule-printable (group_peer lists sender ∷ []) set (and_from (is_printable_peer (group_peer lists sender)) true (peer-printable sender within) refl) are

  ingress-printable : (group : ℕ) → list_all is_printable_rule (ingress_rules lists group) ≡ true
  ingress-printable group =
      let passes : ℕ → Type 0 = λ sender. list_all is_printable_rule (rules_from_group lists group sender) ≡ true in
      let each = recursion_from_All passes (places (group_count lists)) (All-places passes (group_count lists) (from-printable group)) in
      list_all-both is_printable_rule (rules_from_groups lists group) (rules_of_addresses (group_rows lists group Ingress)) (flat-printable (rules_from_group lists group) (places (group_count lists)) each)
      (group_rows-printable lists group Ingress)

-- ---- names

digits-word : (digits : List ℕ) → AllDigits 10 digits → (is_word digits ≡ true) × (has_slash digits ≡ false)
digits-word [] all = (refl, refl)
digits-word (digit ∷ digits) all =
    let range = digit_range digit all.0 in
    let rest = digits-word digits all.1 in
    let byte : is_word_byte digit ≡ true = rw (lt-leb 65 digit (omega arith), lt-leb 97 digit (omega arith), le-leb 48 digit range.0, le-leb digit 57 range.1) refl in
    let apart : digit ≢ 47 = λ same. omega arith in
    (and_from (is_word_byte digit) (is_word digits) byte rest.0, rw (ne_eqb digit 47 apart) rest.1)

flat_name-is : (group : ℕ) → group < 2 ^ 64 → is_name (flat_name group) ≡ true
flat_name-is group small =
    let digits = digits-word (decimal group) (decimal_is_IsNumeral group small).0.1 in
    let some : suc (length (codes "lat-" ++ decimal group)) ≢ 0 = λ none. omega arith in
    rw (ne_eqb (suc (length (codes "lat-" ++ decimal group))) 0 some, digits.0, digits.1) refl

-- ---- the policies

groups-few : (lists : EstateLists) → IsLawful lists → group_count lists ≤ 20000
unfolding folding_of
groups-few lists lawful = omega (arith, groups-le lists, workloads-count lists, firsts-le-count (pods_alike lists) (length lists.pods), lawful.few.pods)

policy-printable : (lists : EstateLists) (group : ℕ) → IsLawful lists → group < group_count lists → is_printable (flat_policy lists group) ≡ true
unfolding flat_policy
policy-printable lists group lawful within =
    let well = lawful.well in
    let small : group < 2 ^ 64 = omega (arith, groups-few lists lawful) in
    let names = and_from (is_name (group_namespace lists group)) (is_name (flat_name group)) (group-end lists well group within).0 (flat_name-is group small) in
    let subject = and_from (is_name (group_namespace lists group) && is_name (flat_name group)) (is_well_selector (group_selector lists group)) names (selector-printable lists well group within) in
    let ingress = ingress-printable lists well group in
    let egress = group_rows-printable lists group Egress in
    rw (subject, ingress, egress) refl

pub policies-printable : (lists : EstateLists) → IsLawful lists → list_all is_printable (flat_policies lists) ≡ true
policies-printable lists lawful =
    let passes : ℕ → Type 0 = λ group. is_printable (flat_policy lists group) ≡ true in
    let each = recursion_from_All passes (places (group_count lists)) (All-places passes (group_count lists) (λ group within. policy-printable lists group lawful within)) in
    list_all-from_all is_printable (flat_policies lists) (all-mapped (λ one. is_printable one ≡ true) (flat_policy lists) (places (group_count lists)) each)

-- ---- no two of one name

other_digits : (a b : ℕ) → a < b → b < 2 ^ 64 → bytes_eq (decimal a) (decimal b) ≡ false
other_digits a b below small = by (bytes_eq (decimal a) (decimal b)) refl
  where
    by : (t : Bool) → bytes_eq (decimal a) (decimal b) ≡ t → t ≡ false
    by false is = refl
    by true is = let same = decimal_injective a b (omega arith) small ((bytes_decides (decimal a) (decimal b)).0 is) in absurd (omega arith)

apart : (lists : EstateLists) (a b : ℕ) → a < b → b < 2 ^ 64 → AreApart (flat_policy lists a) (flat_policy lists b)
unfolding flat_policy
apart lists a b below small = not_both (bytes_eq (group_namespace lists a) (group_namespace lists b)) _ (other_digits a b below small)

behind-apart : (lists : EstateLists) (a from count : ℕ) → a < from → from + count ≤ 2 ^ 64 → AllByRecursion (AreApart (flat_policy lists a)) (map (flat_policy lists) (range_with_len from count))
behind-apart lists a from zero below within = tt
behind-apart lists a from (suc count) below within = (apart lists a from below (omega arith), behind-apart lists a (from + 1) count (omega arith) (omega arith))

later-apart : (lists : EstateLists) (from count : ℕ) → from + count ≤ 2 ^ 64 → AllLater AreApart (map (flat_policy lists) (range_with_len from count))
later-apart lists from zero within = tt
later-apart lists from (suc count) within = (behind-apart lists from (from + 1) count (omega arith) (omega arith), later-apart lists (from + 1) count (omega arith))

pub policies-few : (lists : EstateLists) → IsLawful lists → length (flat_policies lists) ≤ 20000
policies-few lists lawful = omega (arith, length-map (places (group_count lists)) (flat_policy lists), length-range_with_len 0 (group_count lists), groups-few lists lawful)

pub policies-apart : (lists : EstateLists) → IsLawful lists → AllPairs AreApart (flat_policies lists)
policies-apart lists lawful = AllPairs-from_later AreApart (flat_policies lists) (later-apart lists 0 (group_count lists) (omega (arith, groups-few lists lawful)))

-- ---- reading

pub estate_of-flat : (texts : List (List ℕ)) (lists : EstateLists) (text : List ℕ) → estate_of texts ≡ Ok lists → json_of text ≡ Some (list_data (flat_policies lists)) →
    estate_of (text ∷ []) ≡ Ok (estate_with (flat_policies lists))
estate_of-flat texts lists text read parsed =
    let lawful = estate-lawful texts lists read in
    estate_of-list text (flat_policies lists) parsed (policies-printable lists lawful) (policies-apart lists lawful) (policies-few lists lawful)
