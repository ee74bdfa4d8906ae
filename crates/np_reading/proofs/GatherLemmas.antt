-- What is gathered of items, one after another, and all at once. For `gather` and `lists_of`.
use Rattle.std.proofs.Common.{◌≡◌, ℕ, ◌+◌, List, [], ◌∷◌, ◌++◌, length, map, Option, Some, None, refl, sym, ap, ◌∙◌, arith, append_assoc, append-nil, length-append, add-zero}
use Rattle.std.specs.Prelude.{fold, option_to_list}
use Rattle.std.specs.List.{cons_option, filter_map}
use Rattle.std.specs.Option.{option_and_then}
use Rattle.np_reading.specs.Prelude.{AdminPolicy, BasePolicy, EstateLists, Finished, Host, IngressItem, Item, NetPolicy, PlacedIngress, Pod, PodContext, Seen, ServiceItem, Skipped, admin_policy_in, base_policy_in, context_at, contexts_from, contexts_of, count_left_out, estate_of_items, first_item, in_order, ingress_in, ingresses_from, net_policy_in, notes_of, nothing, or_first, placed, pod_of_item, pod_of_object, pods_from, service_in, with_admin, with_item, with_items, with_net, with_object, with_pairs, with_pod, with_policy}
use Rattle.np_items.specs.declared.item.Item.TheVariants as item
use Rattle.np_objects.specs.declared.object.Object.TheVariants as object
use Rattle.np_policies.specs.declared.policy.Policy.TheVariants as policy

-- one pair more
pub with_pairs-push : (so_far : Seen) (number : ℕ) (pairs : List (Item × Option PodContext)) (one : Item) (around : Option PodContext) →
    with_pairs so_far number (pairs ++ (one, around) ∷ []) ≡ with_item (with_pairs so_far number pairs) (number + length pairs) one around
with_pairs-push so_far number [] one around = ap (λ n. with_item so_far n one around) (sym (add-zero number))
with_pairs-push so_far number (pair ∷ pairs) one around =
    with_pairs-push (with_item so_far number pair.0 pair.1) (number + 1) pairs one around
    ∙ ap (λ n. with_item (with_pairs (with_item so_far number pair.0 pair.1) (number + 1) pairs) n one around) (omega arith)

-- what is gathered, and all that is left beside it
abbrev joined : Seen → List Pod → List NetPolicy → List AdminPolicy → List BasePolicy → List ServiceItem → List PlacedIngress → Seen
joined so_far pods nets admins bases services ingresses = record {
  pods = so_far.pods ++ pods;
  nets = fold with_net so_far.nets nets;
  admins = fold with_admin so_far.admins admins;
  baseline = or_first so_far.baseline (first_item bases);
  services = so_far.services ++ services;
  ingresses = so_far.ingresses ++ ingresses;
}

or_first-assoc : (first : Option BasePolicy) (base : BasePolicy) (later : Option BasePolicy) → or_first (or_first first (Some base)) later ≡ or_first first (Some base)
or_first-assoc None base later = refl
or_first-assoc (Some x) base later = refl

or_first-None : (first : Option BasePolicy) → or_first first None ≡ first
or_first-None None = refl
or_first-None (Some x) = refl

-- nothing more
joined-nothing : (so_far : Seen) → joined so_far [] [] [] [] [] [] ≡ so_far
joined-nothing so_far =
    ap (λ (all : List Pod). record (joined so_far [] [] [] [] [] []) { pods = all }) (append-nil so_far.pods)
    ∙ ap (λ (first : Option BasePolicy). record so_far { baseline = first; services = so_far.services ++ []; ingresses = so_far.ingresses ++ [] }) (or_first-None so_far.baseline)
    ∙ ap (λ (all : List ServiceItem). record so_far { services = all; ingresses = so_far.ingresses ++ [] }) (append-nil so_far.services)
    ∙ ap (λ (all : List PlacedIngress). record so_far { ingresses = all }) (append-nil so_far.ingresses)

-- what an item gives may be gathered now, or be left beside
module _ (so_far : Seen) (number : ℕ) (pods : List Pod) (nets : List NetPolicy) (admins : List AdminPolicy) (bases : List BasePolicy) (services : List ServiceItem)
    (ingresses : List PlacedIngress) where
  joined-pod : (pod : Option Pod) → joined (with_pod so_far pod) pods nets admins bases services ingresses ≡ joined so_far (option_to_list pod ++ pods) nets admins bases services ingresses
  joined-pod None = refl
  joined-pod (Some pod) = ap (λ (all : List Pod). record (joined so_far [] nets admins bases services ingresses) { pods = all }) (append_assoc so_far.pods (pod ∷ []) pods)

  joined-base : (base : BasePolicy) → joined (with_policy so_far (policy.Base base)) pods nets admins bases services ingresses ≡ joined so_far pods nets admins (base ∷ bases) services ingresses
  joined-base base = ap (λ (first : Option BasePolicy). record (joined so_far pods nets admins [] services ingresses) { baseline = first }) (or_first-assoc so_far.baseline base (first_item bases))

  joined-service : (one : ServiceItem) →
      joined (with_object so_far number (object.Service one) None) pods nets admins bases services ingresses ≡ joined so_far pods nets admins bases (one ∷ services) ingresses
  joined-service one = ap (λ (all : List ServiceItem). record (joined so_far pods nets admins bases [] ingresses) { services = all }) (append_assoc so_far.services (one ∷ []) services)

  joined-ingress : (one : IngressItem) →
      joined (with_object so_far number (object.Ingress one) None) pods nets admins bases services ingresses ≡ joined so_far pods nets admins bases services (placed number (Some one) ++ ingresses)
  joined-ingress one = ap (λ (all : List PlacedIngress). record (joined so_far pods nets admins bases services []) { ingresses = all })
      (append_assoc so_far.ingresses (placed number (Some one)) ingresses)

  joined-item : (one : Item) (around : Option PodContext) → joined (with_item so_far number one around) pods nets admins bases services ingresses
      ≡ joined so_far (option_to_list (option_and_then (pod_of_item one) around) ++ pods) (cons_option (net_policy_in one) nets) (cons_option (admin_policy_in one) admins)
      (cons_option (base_policy_in one) bases) (cons_option (service_in one) services) (placed number (ingress_in one) ++ ingresses)
  joined-item (item.Policy (policy.Net net)) None = refl
  joined-item (item.Policy (policy.Net net)) (Some around) = refl
  joined-item (item.Policy (policy.Admin admin)) None = refl
  joined-item (item.Policy (policy.Admin admin)) (Some around) = refl
  joined-item (item.Policy (policy.Base base)) None = joined-base base
  joined-item (item.Policy (policy.Base base)) (Some around) = joined-base base
  joined-item (item.Object (object.Service one)) None = joined-service one
  joined-item (item.Object (object.Service one)) (Some around) = joined-service one
  joined-item (item.Object (object.Ingress one)) None = joined-ingress one
  joined-item (item.Object (object.Ingress one)) (Some around) = joined-ingress one
  joined-item (item.Object (object.Namespace one)) None = refl
  joined-item (item.Object (object.Namespace one)) (Some around) = refl
  joined-item (item.Object object.Other) None = refl
  joined-item (item.Object object.Other) (Some around) = refl
  joined-item (item.Object (object.Pod pod)) None = refl
  joined-item (item.Object (object.Pod pod)) (Some around) = joined-pod (pod_of_object (object.Pod pod) around)
  joined-item (item.Object (object.Controller controller)) None = refl
  joined-item (item.Object (object.Controller controller)) (Some around) = joined-pod (pod_of_object (object.Controller controller) around)

-- one after another, and all at once
gathers : (all : List Item) (place : ℕ) (so_far : Seen) (number : ℕ) (items : List Item) → with_items so_far number items (contexts_from all place items)
    ≡ joined so_far (pods_from all place items) (filter_map net_policy_in items) (filter_map admin_policy_in items) (filter_map base_policy_in items) (filter_map service_in items) (ingresses_from number items)
gathers all place so_far number [] = sym (joined-nothing so_far)
gathers all place so_far number (one ∷ items) =
    gathers all (place + 1) (with_item so_far number one (context_at all place one)) (number + 1) items
    ∙ joined-item so_far number (pods_from all (place + 1) items) (filter_map net_policy_in items) (filter_map admin_policy_in items) (filter_map base_policy_in items) (filter_map service_in items)
    (ingresses_from (number + 1) items) one (context_at all place one)

-- ---- a loop over items

pub gathered-more : (number : ℕ) (pairs : List (Item × Option PodContext)) (one : Item) (around : Option PodContext) (before after : Seen) → number ≡ length pairs → before ≡ with_pairs nothing 1 pairs
    → after ≡ with_item before (number + 1) one around → after ≡ with_pairs nothing 1 (pairs ++ (one, around) ∷ [])
gathered-more number pairs one around before after count so_far is =
    is ∙ ap (λ (s : Seen). with_item s (number + 1) one around) so_far
    ∙ ap (λ n. with_item (with_pairs nothing 1 pairs) n one around) (omega (arith, count))
    ∙ sym (with_pairs-push nothing 1 pairs one around)

pub counted-more : (number : ℕ) (pairs : List (Item × Option PodContext)) (one : Item × Option PodContext) → number ≡ length pairs → number + 1 ≡ length (pairs ++ one ∷ [])
counted-more number pairs one count = omega (arith, count, length-append pairs (one ∷ []))

pub pairs-same : (pairs : List (Item × Option PodContext)) → map (λ (p : Item × Option PodContext). (p.0, p.1)) pairs ≡ pairs
pairs-same [] = refl
pairs-same (pair ∷ pairs) = ap (λ (others : List (Item × Option PodContext)). pair ∷ others) (pairs-same pairs)

-- ---- the lists of an estate

pub lists-gathered : (items : List Item) (so_far : Seen) (host finished skipped : ℕ) → so_far ≡ with_items nothing 1 items (contexts_of items)
    → host ≡ count_left_out items Host → finished ≡ count_left_out items Finished → skipped ≡ count_left_out items Skipped
    → in_order so_far (record { host = host; finished = finished; skipped = skipped; unaddressed = 0 }) ≡ estate_of_items items
lists-gathered items so_far host finished skipped all hosts ends kinds =
    ap (λ (s : Seen). in_order s (record { host = host; finished = finished; skipped = skipped; unaddressed = 0 })) (all ∙ gathers items 0 nothing 1 items)
    ∙ ap (λ n. noted n finished skipped) hosts ∙ ap (λ n. noted (count_left_out items Host) n skipped) ends
    ∙ ap (λ n. noted (count_left_out items Host) (count_left_out items Finished) n) kinds
  where
    noted : ℕ → ℕ → ℕ → EstateLists
    noted host finished skipped = record (estate_of_items items) { notes = record (notes_of items) { host = host; finished = finished; skipped = skipped } }
