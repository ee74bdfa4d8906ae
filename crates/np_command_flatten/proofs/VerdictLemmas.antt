-- Verdicts by NetworkPolicies alone are the same in whatever order these stand. For PromiseLemmas.
use Rattle.std.proofs.Common.{◌≡◌, ℕ, List, Bool, true, ◌&&◌, if◌then◌else◌, refl, sym, ap, ◌∙◌}
use Rattle.std.specs.Prelude.{IsPermutation}
use Rattle.std.proofs.lemmas.List.Sorted.{list_any-IsPermutation}
use Rattle.np_command_flatten.specs.Prelude.{Direction, EstateLists, Family, NetPolicy, PortSpot, with_policies}
use Rattle.np_model.specs.declared.direction.Direction.TheVariants.{Egress, Ingress}
use Rattle.np_rules.specs.Prelude.{Contact, ModelEnd, ModelPacket, PodEnd, address, allows, contact_of, end_allows, is_isolated, isolates, permits, pod, pod_at, side_allows}
use Rattle.np_flatten.proofs.OnePolicy.{permits-any, policy_permits}
use Rattle.np_kinds.specs.Prelude.{address_numbered, between_pods, with_address}

module _ (lists : EstateLists) (policies nets : List NetPolicy) (same : IsPermutation policies nets) where
  isolated-same : (direction : Direction) (p : PodEnd) → is_isolated nets direction p ≡ is_isolated policies direction p
  isolated-same direction p = sym (list_any-IsPermutation (isolates direction p) policies nets same)

  permits-same : (direction : Direction) (p : PodEnd) (contact : Contact) → permits nets direction p contact ≡ permits policies direction p contact
  permits-same direction p contact =
      permits-any nets direction p contact
      ∙ sym (list_any-IsPermutation (policy_permits direction p contact) policies nets same)
      ∙ sym (permits-any policies direction p contact)

  side-same : (direction : Direction) (p : PodEnd) (contact : Contact) →
      side_allows (with_policies lists nets) direction p contact ≡ side_allows (with_policies lists policies) direction p contact
  unfolding side_allows
  side-same direction p contact =
      ap (λ (isolated : Bool). if isolated then permits nets direction p contact else true) (isolated-same direction p)
      ∙ ap (λ (permitted : Bool). if is_isolated policies direction p then permitted else true) (permits-same direction p contact)

  end-same : (direction : Direction) (e : ModelEnd) (contact : Contact) → end_allows (with_policies lists nets) direction e contact ≡ end_allows (with_policies lists policies) direction e contact
  end-same direction (pod p) contact = side-same direction p contact
  end-same direction (address a) contact = refl

  packet-same : (packet : ModelPacket) → allows (with_policies lists nets) packet ≡ allows (with_policies lists policies) packet
  unfolding allows
  packet-same packet =
      ap (λ (sent : Bool). sent && end_allows (with_policies lists nets) Ingress packet.destination (contact_of Ingress packet)) (end-same Egress packet.source (contact_of Egress packet))
      ∙ ap (λ (received : Bool). end_allows (with_policies lists policies) Egress packet.source (contact_of Egress packet) && received)
      (end-same Ingress packet.destination (contact_of Ingress packet))

  pub between-same : (p q : ℕ) (family : Family) (spot : PortSpot) → between_pods (with_policies lists nets) p q family spot ≡ between_pods (with_policies lists policies) p q family spot
  between-same p q family spot = packet-same (record { source = pod (pod_at lists p); destination = pod (pod_at lists q); family = family; spot = spot })

  pub address-same : (direction : Direction) (near : ModelEnd) (family : Family) (number : ℕ) (spot : PortSpot) →
      with_address (with_policies lists nets) direction near family number spot ≡ with_address (with_policies lists policies) direction near family number spot
  address-same Ingress near family number spot = packet-same (record { source = address (address_numbered family number); destination = near; family = family; spot = spot })
  address-same Egress near family number spot = packet-same (record { source = near; destination = address (address_numbered family number); family = family; spot = spot })
