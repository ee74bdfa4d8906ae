-- The families of the addresses of pods.
use Rattle.std.specs.Prelude.{List, [], ◌∷◌, Bool, true, false, filter}
use Rattle.std.specs.List.{list_any}
use Rattle.np_addr.specs.Prelude.{family_of}
use Rattle.np_addr.specs.declared.address.Address.{Address}
use Rattle.np_model.specs.Types.{AdminPeer, Family, Four, Pod, Six}
use Rattle.np_model.specs.declared.admin_policy.AdminPeer.TheVariants.{Pods, Networks}

-- whether two families are one
abbrev pub same_family : Family → Family → Bool
same_family Four Four = true
same_family Six Six = true
same_family one another = false

-- whether an address is of the family
abbrev pub is_of : Family → Address → Bool
is_of family address = same_family (family_of address) family

-- whether some pod has an address of the family
abbrev pub has_family : List Pod → Family → Bool
has_family pods family = list_any (λ pod. list_any (is_of family) pod.addresses) pods

-- IPv4 where there is none
abbrev pub or_four : List Family → List Family
or_four [] = Four ∷ []
or_four (family ∷ families) = family ∷ families

-- the families of which some pod has an address, IPv4 first, and IPv4 alone where no pod has one
abbrev pub families_of : List Pod → List Family
families_of pods = or_four (filter (has_family pods) (Four ∷ Six ∷ []))

-- whether a peer lists networks
abbrev pub is_networks : AdminPeer → Bool
is_networks (Pods namespaces pods) = false
is_networks (Networks cidrs) = true
