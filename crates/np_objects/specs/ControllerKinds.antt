-- The kinds of controllers, and their names.
use Rattle.std.specs.Prelude.{ℕ, List, [], ◌∷◌, Bool, codes}
use Rattle.std.specs.List.{list_any}
use Rattle.std.specs.Str.{bytes_eq}
use Rattle.np_objects.specs.Types.{ControllerKind, CronJob, DaemonSet, Deployment, Job, ReplicaSet, ReplicationController, StatefulSet}

abbrev pub kind_name : ControllerKind → List ℕ
kind_name Deployment = codes "Deployment"
kind_name ReplicaSet = codes "ReplicaSet"
kind_name StatefulSet = codes "StatefulSet"
kind_name DaemonSet = codes "DaemonSet"
kind_name ReplicationController = codes "ReplicationController"
kind_name Job = codes "Job"
kind_name CronJob = codes "CronJob"

abbrev pub kinds : List ControllerKind
kinds = Deployment ∷ ReplicaSet ∷ StatefulSet ∷ DaemonSet ∷ ReplicationController ∷ Job ∷ CronJob ∷ []

-- whether a name is that of one of them
abbrev pub is_controller_kind : List ℕ → Bool
is_controller_kind name = list_any (λ which. bytes_eq name (kind_name which)) kinds
