-- What a selector sees of a pod, as traits without all else.
use Rattle.std.specs.Prelude.{ℕ, List, []}
use Rattle.std.specs.List.{filter_map}
use Rattle.np_flatten.specs.Types.{EstateLists, Traits}
use Rattle.np_fold.specs.Prelude.{label_of}
use Rattle.np_model.specs.declared.owner.Owner.{Owner}
use Rattle.np_rules.specs.Prelude.{PodEnd}
use Rattle.np_flatten.specs.Groups.{relevant}
use Rattle.np_kinds.specs.Prelude.{first_end}

-- an owner of no name
abbrev pub nobody : Owner
nobody = record { kind = []; name = [] }

-- the namespace of a pod and its labels of these keys
abbrev pub seen : List (List ℕ) → PodEnd → Traits
seen keys p = record { namespace = p.namespace; owner = nobody; labels = filter_map (label_of p.labels) keys; ports = []; blocks = [] }

-- those of the first pod of a workload
abbrev pub seen_at : EstateLists → ℕ → Traits
seen_at lists workload = seen (relevant lists) (first_end lists workload)
