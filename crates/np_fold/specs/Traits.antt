-- What rules see of a pod.
use Rattle.std.specs.Prelude.{ℕ, List, Option, filter, map}
use Rattle.std.specs.List.{enumerate_from, filter_map}
use Rattle.std.specs.Option.{option_map}
use Rattle.np_fold.specs.Types.{Address, Cidr, Label, Owner, Pair, Pod, Traits}
use Rattle.np_fold.specs.Alike.{is_in}
use Rattle.np_labels.specs.Prelude.{value_of}

-- the label of a key, where it has a value
abbrev pub label_of : List Pair → List ℕ → Option Label
label_of pairs key = option_map (λ value. record { key = key; value = value }) (value_of pairs key)

-- the places, from 0, of the blocks that some of the addresses is in
abbrev pub blocks_of : List Cidr → List Address → List ℕ
blocks_of cidrs addresses = map (λ at. at.0) (filter (λ at. is_in addresses at.1) (enumerate_from 0 cidrs))

-- what keys and blocks tell of a pod
abbrev pub traits_of : List (List ℕ) → List Cidr → Pod → Traits
traits_of keys cidrs pod = record { namespace = pod.namespace; owner = pod.owner; labels = filter_map (label_of pod.labels) keys; ports = pod.ports; blocks = blocks_of cidrs pod.addresses }

-- the same of a pod of another owner
abbrev pub with_owner : Owner → Traits → Traits
with_owner owner traits = record traits { owner = owner }
