-- The estate of the items of a list of policies. For `policies_are_read_again`.
use Rattle.std.proofs.Common.{◌≡◌, ℕ, zero, suc, ◌+◌, ◌≤◌, List, [], ◌∷◌, Bool, true, false, length, map, fold, Option, Some, None, Ok, refl, ap, subst, ◌∙◌}
use Rattle.std.specs.List.{filter_map, list_all, range_with_len, slice_get}
use Rattle.std.specs.Option.{option_and_then, option_map_or}
use Rattle.std.specs.Prelude.{AllPairs, IsPermutation}
use Rattle.np_base.proofs.Lists.{count-none}
use Rattle.np_owners.specs.Prelude.{first_in_cycle, makes_pod, owner_place, places_of_owners, up, ups}
use Rattle.np_owners.proofs.Owned.{owns_itself-none}
use Rattle.np_reading.specs.Prelude.{admin_policies_of, admin_policy_in, base_policy_in, baseline_of, count_left_out, estate_of, estate_of_items, first_equal, first_item, ingresses_from, ingresses_of, is_for, is_left_out, left_out, net_policies_of, net_policy_in, notes_of, pods_from, pods_of, ranks_of, service_in, services_of, with_admin, with_rank}
use Rattle.np_model.specs.declared.notes.Notes.{Notes}
use Rattle.np_reading.proofs.OnceLemmas.{net_policies-once}
use Rattle.np_reading.proofs.EstateLemmas.{estate_of-read, same-notes}
use Rattle.np_items.specs.Prelude.{json_of}
use Rattle.np_command_flatten.specs.Prelude.{AreApart, Item, NetPolicy, estate_with, is_printable, net_item, net_items}
use Rattle.np_manifests.specs.Lists.{list_data}
use Rattle.np_command_flatten.proofs.ItemLemmas.{first_repeat-none, items_of-list}

-- ---- what policies are not

nothing-given : {Y : Type 0} (given : Item → Option Y) → ((one : NetPolicy) → given (net_item one) ≡ None) → (policies : List NetPolicy) → filter_map given (net_items policies) ≡ []
nothing-given given none [] = refl
nothing-given given none (one ∷ policies) = rw (none one) (nothing-given given none policies)

no-pods : (items : List Item) (place : ℕ) (policies : List NetPolicy) → pods_from items place (net_items policies) ≡ []
no-pods items place [] = refl
no-pods items place (one ∷ policies) = no-pods items (place + 1) policies

no-ingresses : (number : ℕ) (policies : List NetPolicy) → ingresses_from number (net_items policies) ≡ []
no-ingresses number [] = refl
no-ingresses number (one ∷ policies) = no-ingresses (number + 1) policies

-- ---- owners

none-up : (items : List Item) (policies : List NetPolicy) (place : ℕ) → up (map (owner_place items) (net_items policies)) place ≡ None
none-up items [] place = refl
none-up items (one ∷ policies) zero = refl
none-up items (one ∷ policies) (suc place) = none-up items policies place

no-cycle : (policies : List NetPolicy) → first_in_cycle (net_items policies) ≡ None
no-cycle policies = let items = net_items policies in rw (owns_itself-none (ups items) (none-up items policies) (places_of_owners (ups items))) refl

-- ---- notes

kept : (why : _) (makes : Bool) (policies : List NetPolicy) (place : ℕ) → option_map_or (is_for why) (option_and_then (left_out makes) (slice_get (net_items policies) place)) false ≡ false
kept why makes [] place = refl
kept why makes (one ∷ policies) zero = refl
kept why makes (one ∷ policies) (suc place) = kept why makes policies place

none-left_out : (policies : List NetPolicy) (why : _) → count_left_out (net_items policies) why ≡ 0
none-left_out policies why =
    let items = net_items policies in
    count-none (is_left_out items why) (λ k. kept why (makes_pod items k) policies k) 0 (range_with_len 0 (length items))

-- ---- the whole

no-admins : (policies : List NetPolicy) → admin_policies_of (net_items policies) ≡ []
no-admins policies = ap (λ found. map (λ entry. entry.1) (fold with_admin [] found)) (nothing-given admin_policy_in (λ one. refl) policies)

no-ranks : (policies : List NetPolicy) → first_equal (ranks_of (net_items policies)) ≡ None
no-ranks policies = ap (λ found. first_equal (map (λ entry. entry.0) (fold with_rank [] found))) (nothing-given admin_policy_in (λ one. refl) policies)

no-baseline : (policies : List NetPolicy) → baseline_of (net_items policies) ≡ None
no-baseline policies = ap first_item (nothing-given base_policy_in (λ one. refl) policies)

no-notes : (policies : List NetPolicy) → notes_of (net_items policies) ≡ record { host = 0; finished = 0; skipped = 0; unaddressed = 0 }
no-notes policies =
    same-notes _ _ _ _ (search none-left_out) (search none-left_out) (search none-left_out) (rw (no-admins policies, no-baseline policies) refl)

same-lists : (items : List Item) (notes : Notes) → notes_of items ≡ notes → pods_of items ≡ [] → admin_policies_of items ≡ [] → baseline_of items ≡ None → services_of items ≡ [] →
    ingresses_of items ≡ []
    → estate_of_items items ≡ record { pods = []; net_policies = net_policies_of items; admin_policies = []; baseline = None; services = []; ingresses = []; notes = notes }
same-lists items notes counted pods admins baseline services ingresses = rw (counted, pods, admins, baseline, services, ingresses) refl

lists-are : (policies : List NetPolicy) → estate_of_items (net_items policies) ≡ estate_with policies
lists-are policies =
    same-lists (net_items policies) _ (no-notes policies) (no-pods (net_items policies) 0 policies) (no-admins policies) (no-baseline policies) (nothing-given service_in (λ one. refl) policies)
    (no-ingresses 1 policies)

nets-given : (policies : List NetPolicy) → filter_map net_policy_in (net_items policies) ≡ policies
nets-given [] = refl
nets-given (one ∷ policies) = ap (λ (rest : List NetPolicy). one ∷ rest) (nets-given policies)

-- each policy stands once in the estate, and nothing else does
pub policies-once : (policies : List NetPolicy) → AllPairs AreApart policies → IsPermutation policies (estate_with policies).net_policies
policies-once policies apart =
    subst (λ (nets : List NetPolicy). IsPermutation nets (net_policies_of (net_items policies))) (nets-given policies) (net_policies-once (net_items policies) (first_repeat-none policies apart))

pub estate_of-list : (text : List ℕ) (policies : List NetPolicy) → json_of text ≡ Some (list_data policies) → list_all is_printable policies ≡ true → AllPairs AreApart policies →
    length policies ≤ 20000 → estate_of (text ∷ []) ≡ Ok (estate_with policies)
estate_of-list text policies parsed all apart few =
    estate_of-read (text ∷ []) (net_items policies) (items_of-list text policies parsed all few) (first_repeat-none policies apart) (no-ranks policies) (no-cycle policies) ∙ ap Ok (lists-are policies)
