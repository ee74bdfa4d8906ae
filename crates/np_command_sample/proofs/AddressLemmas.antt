-- No rule of the sample matches an IPv6 address, so the same passes at each. For RowCountLemmas.
use Rattle.std.proofs.Common.{◌≡◌, ℕ, List, [], ◌∷◌, ◌++◌, Bool, true, false, ◌&&◌, map, refl, sym, ap, ◌∙◌, if◌then◌else◌}
use Rattle.std.specs.List.{list_any, range_with_len}
use Rattle.np_addr.specs.declared.address.Address.TheVariants as at
use Rattle.np_addr.specs.declared.address.Family.TheVariants.{Six}
use Rattle.np_command_sample.specs.Prelude.{Direction, Egress, Ingress, PortSpot, estate_net_policy, sample_estate}
use Rattle.np_rules.specs.Prelude.{Contact, ModelEnd, PodEnd, address, allows, is_isolated, net_places, net_places_of, net_selects, permits, placed_net_matches, pod, side_allows}
use Rattle.np_kinds.specs.Prelude.{with_address}
use Rattle.np_sample.specs.Prelude.{namespace_count}

-- what passes between a far IPv6 address and some end
abbrev six_contact : ℕ → ModelEnd → PortSpot → Contact
six_contact number destination spot = record { far = address (at.Six number); destination = destination; family = Six; spot = spot }

-- no rule of a NetworkPolicy matches it
permits-six : (direction : Direction) (p : PodEnd) (number : ℕ) (destination : ModelEnd) (spot : PortSpot) (js : List ℕ) →
    permits (map estate_net_policy js) direction p (six_contact number destination spot) ≡ false
permits-six direction p number destination spot [] = refl
permits-six direction p number destination spot (j ∷ js) = by direction (net_selects (estate_net_policy j) p) (permits-six direction p number destination spot js)
  where
    by : (direction : Direction) (selects : Bool) → permits (map estate_net_policy js) direction p (six_contact number destination spot) ≡ false
        → list_any (placed_net_matches (six_contact number destination spot))
        ((if selects then net_places_of direction (estate_net_policy j) else []) ++ net_places (map estate_net_policy js) direction p) ≡ false
    by Ingress true rest = rest
    by Ingress false rest = rest
    by Egress true rest = rest
    by Egress false rest = rest

-- nor does the admin rule, so a pod's side allows it exactly where no policy isolates the pod
side_allows-six : (n : ℕ) (direction : Direction) (p : PodEnd) (number : ℕ) (destination : ModelEnd) (spot : PortSpot) →
    side_allows (sample_estate n) direction p (six_contact number destination spot) ≡ (if is_isolated (sample_estate n).net_policies direction p then false else true)
unfolding side_allows
side_allows-six n Ingress p number destination spot =
    ap (λ b. if is_isolated (sample_estate n).net_policies Ingress p then b else true) (permits-six Ingress p number destination spot (range_with_len 0 namespace_count))
side_allows-six n Egress p number destination spot =
    ap (λ b. if is_isolated (sample_estate n).net_policies Egress p then b else true) (permits-six Egress p number destination spot (range_with_len 0 namespace_count))

-- so a packet passes at an IPv6 address exactly where it does at the first
pub with_address-six : (n : ℕ) (direction : Direction) (p : PodEnd) (number : ℕ) (spot : PortSpot) →
    with_address (sample_estate n) direction (pod p) Six number spot ≡ with_address (sample_estate n) direction (pod p) Six 0 spot
unfolding allows
with_address-six n Ingress p number spot = side_allows-six n Ingress p number (pod p) spot ∙ sym (side_allows-six n Ingress p 0 (pod p) spot)
with_address-six n Egress p number spot =
    ap (λ b. b && true) (side_allows-six n Egress p number (address (at.Six number)) spot ∙ sym (side_allows-six n Egress p 0 (address (at.Six 0)) spot))
