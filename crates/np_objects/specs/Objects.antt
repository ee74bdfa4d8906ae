-- Objects of any kind.
use Rattle.std.specs.Prelude.{ℕ, List, [], ◌∷◌, map, codes, if◌then◌else◌, Option, Some, None, Ok}
use Rattle.std.specs.Map.{lookup}
use Rattle.std.specs.Str.{bytes_eq}
use Rattle.serde_json.specs.Data.{Data}
use Rattle.np_json.specs.Prelude.{Read, type_meta, ◌>>=◌}
use Rattle.np_objects.specs.ControllerKinds.{kind_name}
use Rattle.np_objects.specs.Controllers.{controller}
use Rattle.np_objects.specs.Ingresses.{ingress}
use Rattle.np_objects.specs.Namespaces.{namespace_object}
use Rattle.np_objects.specs.Pods.{pod}
use Rattle.np_objects.specs.Services.{service}
use Rattle.np_objects.specs.Types.{ControllerKind, CronJob, DaemonSet, Deployment, Job, Object, ObjectKind, ReplicaSet, ReplicationController, StatefulSet}
use Rattle.np_objects.specs.declared.kind.ObjectKind.TheVariants as kind
use Rattle.np_objects.specs.declared.object.Object.TheVariants as object

-- kinds of controllers, by their names
abbrev pub controllers : List ControllerKind → List (List ℕ × ObjectKind)
controllers which = map (λ one. (kind_name one, kind.Controller one)) which

-- the kinds that are read of an API version, by their names
abbrev pub kinds_of : List ℕ → List (List ℕ × ObjectKind)
kinds_of version =
    if bytes_eq version (codes "v1") then (codes "Pod", kind.Pod) ∷ (codes "Namespace", kind.Namespace) ∷ (codes "Service", kind.Service) ∷ controllers (ReplicationController ∷ [])
    else if bytes_eq version (codes "apps/v1") then controllers (Deployment ∷ ReplicaSet ∷ StatefulSet ∷ DaemonSet ∷ [])
    else if bytes_eq version (codes "batch/v1") then controllers (Job ∷ CronJob ∷ [])
    else if bytes_eq version (codes "networking.k8s.io/v1") then (codes "Ingress", kind.Ingress) ∷ []
    else []

-- The kind of an object by its API version and the name of its kind. A kind in another version, as a Deployment of
-- `apps/v1beta1`, is none of them: it is skipped, and counted with the objects of other kinds.
abbrev pub object_kind : List ℕ → List ℕ → Option ObjectKind
object_kind version name = lookup (bytes_eq name) (kinds_of version)

-- the shape of each kind; an object of another kind is not read
unfoldable pub object_by : Option ObjectKind → Data → Read Object
object_by None value = Ok object.Other
object_by (Some kind.Pod) value = do Ok (object.Pod (← pod value))
object_by (Some kind.Namespace) value = do Ok (object.Namespace (← namespace_object value))
object_by (Some (kind.Controller which)) value = do Ok (object.Controller (← controller which value))
object_by (Some kind.Service) value = do Ok (object.Service (← service value))
object_by (Some kind.Ingress) value = do Ok (object.Ingress (← ingress value))

-- an object: first its API version and kind, and then the members of its kind
unfoldable pub object_of : Data → Read Object
object_of value = type_meta value >>= λ type. object_by (object_kind type.api_version type.kind) value
