-- The estate of the sample. For `samples_are_read_as_their_estates`.
use Rattle.std.proofs.Common.{◌≡◌, ℕ, ◌+◌, ◌≤◌, List, [], ◌∷◌, ◌++◌, map, fold, false, Option, Some, None, Ok, refl, ap, ◌∙◌, append-nil}
use Rattle.std.specs.Fmt.{digits}
use Rattle.std.specs.List.{AllByRecursion, filter_map, range_with_len}
use Rattle.np_reading.specs.Prelude.{admin_policies_of, admin_policy_in, base_policy_in, baseline_of, estate_of, estate_of_items, first_equal, first_item, ingress_in, ingresses_from, ingresses_of, labels_in, list_networks, net_policies_of, net_policy_in, notes_of, pods_of, ranks_of, service_in, services_of, with_admin, with_net, with_rank}
use Rattle.np_reading.proofs.EstateLemmas.{estate_of-read, same-notes}
use Rattle.np_model.specs.declared.notes.Notes.{Notes}
use Rattle.np_model.specs.declared.placed_ingress.PlacedIngress.{PlacedIngress}
use Rattle.np_command_sample.specs.Prelude.{AdminPolicy, Item, NetPolicy, Pod, estate_admin_policy, estate_net_policy, estate_pod, sample_estate}
use Rattle.np_model.specs.declared.service.ServiceItem.{ServiceItem}
use Rattle.np_owners.specs.Prelude.{owner_of_item}
use Rattle.np_model.specs.declared.admin_policy.BasePolicy.{BasePolicy}
use Rattle.np_sample.specs.Prelude.{namespace_count, sample_text}
use Rattle.np_command_sample.proofs.ApartLemmas.{first_repeat-sample}
use Rattle.np_command_sample.proofs.EstateLemmas.{count_left_out-none, first_in_cycle-none, gives_each, gives_none, gives_parts, gives_pod, IsKept, IsLone, pod_is_lone, pods_from-lone}
use Rattle.np_command_sample.proofs.ReadingLemmas.{all-items, items_of-sample}
use Rattle.np_command_sample.proofs.Items.{pod_item, sample_items}

-- ---- what the items give

nothing_given : {Y : Type 0} (h : Item → Option Y) (items : List Item) → AllByRecursion (λ one. h one ≡ None) items → filter_map h items ≡ []
nothing_given h [] all = refl
nothing_given h (one ∷ items) all = rw all.0 (nothing_given h items all.1)

no_ingresses : (number : ℕ) (items : List Item) → AllByRecursion (λ one. ingress_in one ≡ None) items → ingresses_from number items ≡ []
no_ingresses number [] all = refl
no_ingresses number (one ∷ items) all = rw all.0 (no_ingresses (number + 1) items all.1)

pods_of-sample : (n : ℕ) → pods_of (sample_items n) ≡ map estate_pod (range_with_len 0 n)
pods_of-sample n =
    let items = sample_items n in
    let labels = all-items (λ one. labels_in (Some one) ≡ []) n (λ j. refl) (λ i. refl) (λ j. refl) refl in
    let lone = all-items (IsLone items) n (λ j place at. refl) (λ i. pod_is_lone items labels i) (λ j place at. refl) (λ place at. refl) in
    let pods = map estate_pod (range_with_len 0 n) in
    pods_from-lone items [] items 0 refl refl lone
    ∙ gives_parts gives_pod n ∙ rw (gives_each gives_pod pod_item estate_pod (λ i. refl) 0 n) (append-nil (pods ++ []) ∙ append-nil pods)

admins_given : (n : ℕ) → filter_map admin_policy_in (sample_items n) ≡ estate_admin_policy ∷ []
admins_given n = gives_parts admin_policy_in n ∙ rw (gives_none admin_policy_in pod_item (λ i. refl) 0 n) refl

nets_given : (n : ℕ) → filter_map net_policy_in (sample_items n) ≡ map estate_net_policy (range_with_len 0 namespace_count)
nets_given n = gives_parts net_policy_in n ∙ rw (gives_none net_policy_in pod_item (λ i. refl) 0 n) refl

-- they stand in the order of their namespaces
nets_in_order : map (λ entry. entry.1) (fold with_net [] (map estate_net_policy (range_with_len 0 namespace_count))) ≡ map estate_net_policy (range_with_len 0 namespace_count)
unfolding digits
nets_in_order = refl

net_policies_of-sample : (n : ℕ) → net_policies_of (sample_items n) ≡ map estate_net_policy (range_with_len 0 namespace_count)
net_policies_of-sample n = ap (λ found. map (λ entry. entry.1) (fold with_net [] found)) (nets_given n) ∙ nets_in_order

admin_policies_of-sample : (n : ℕ) → admin_policies_of (sample_items n) ≡ estate_admin_policy ∷ []
admin_policies_of-sample n = ap (λ found. map (λ entry. entry.1) (fold with_admin [] found)) (admins_given n)

first_equal-sample : (n : ℕ) → first_equal (ranks_of (sample_items n)) ≡ None
first_equal-sample n = ap (λ found. first_equal (map (λ entry. entry.0) (fold with_rank [] found))) (admins_given n)

-- ---- notes

notes_of-kept : (items : List Item) → AllByRecursion IsKept items → list_networks (admin_policies_of items) (baseline_of items) ≡ false →
    notes_of items ≡ record { host = 0; finished = 0; skipped = 0; unaddressed = 0 }
notes_of-kept items all none = same-notes _ _ _ _ (search (count_left_out-none, all)) (search (count_left_out-none, all)) (search (count_left_out-none, all)) (rw none refl)

-- ---- the whole

same_lists : (items : List Item) (pods : List Pod) (nets : List NetPolicy) (admins : List AdminPolicy) (baseline : Option BasePolicy) (services : List ServiceItem) (ingresses : List PlacedIngress)
    (notes : Notes)
    → pods_of items ≡ pods → net_policies_of items ≡ nets → admin_policies_of items ≡ admins → baseline_of items ≡ baseline → services_of items ≡ services → ingresses_of items ≡ ingresses →
    notes_of items ≡ notes
    → estate_of_items items ≡ record { pods = pods; net_policies = nets; admin_policies = admins; baseline = baseline; services = services; ingresses = ingresses; notes = notes }
same_lists items pods nets admins baseline services ingresses notes p n a b s i o = rw (o, p, n, a, b, s, i) refl

estate_of_items-sample : (n : ℕ) → estate_of_items (sample_items n) ≡ sample_estate n
estate_of_items-sample n =
    let items = sample_items n in
    let baseline : baseline_of items ≡ None = ap first_item (nothing_given base_policy_in items (all-items (λ one. base_policy_in one ≡ None) n (λ j. refl) (λ i. refl) (λ j. refl) refl)) in
    let kept = all-items IsKept n (λ j makes. refl) (λ i makes. refl) (λ j makes. refl) (λ makes. refl) in
    same_lists items _ _ _ _ _ _ _ (pods_of-sample n) (net_policies_of-sample n) (admin_policies_of-sample n) baseline
    (nothing_given service_in items (all-items (λ one. service_in one ≡ None) n (λ j. refl) (λ i. refl) (λ j. refl) refl))
    (no_ingresses 1 items (all-items (λ one. ingress_in one ≡ None) n (λ j. refl) (λ i. refl) (λ j. refl) refl))
    (notes_of-kept items kept (rw (admin_policies_of-sample n, baseline) refl))

pub estate_of-sample : (n : ℕ) → n ≤ 1000 → estate_of (sample_text n ∷ []) ≡ Ok (sample_estate n)
estate_of-sample n few =
    let items = sample_items n in
    let ownerless = all-items (λ one. owner_of_item one ≡ None) n (λ j. refl) (λ i. refl) (λ j. refl) refl in
    estate_of-read (sample_text n ∷ []) items (items_of-sample n few) (first_repeat-sample n few) (first_equal-sample n) (first_in_cycle-none items ownerless) ∙ ap Ok (estate_of_items-sample n)
