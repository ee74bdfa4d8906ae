-- Which version and kind make an object what it is read as.
use Rattle.std.specs.Prelude.{◌≡◌, ℕ, List, codes, Ok, ⊤}
use Rattle.serde_json.specs.Data.{Data}
use Rattle.np_meaning.specs.MemberMeaning.{IsOfKind}
use Rattle.np_objects.specs.Prelude.{controller, ingress, kind_name, namespace_object, pod, service}
use Rattle.np_meaning.specs.Types.{ControllerKind, CronJob, DaemonSet, Deployment, Job, Object, ReplicaSet, ReplicationController, StatefulSet}
use Rattle.np_objects.specs.declared.object.Object.TheVariants as object

-- the version that is read of a kind of controllers
abbrev pub version_of : ControllerKind → List ℕ
version_of ReplicationController = codes "v1"
version_of Deployment = codes "apps/v1"
version_of ReplicaSet = codes "apps/v1"
version_of StatefulSet = codes "apps/v1"
version_of DaemonSet = codes "apps/v1"
version_of Job = codes "batch/v1"
version_of CronJob = codes "batch/v1"

-- what is read as an object of a kind names that kind, in the version that is read
abbrev pub IsOfItsKind : Data → Object → Type 0
IsOfItsKind value (object.Pod read) = IsOfKind (codes "v1") (codes "Pod") value × (pod value ≡ Ok read)
IsOfItsKind value (object.Namespace read) = IsOfKind (codes "v1") (codes "Namespace") value × (namespace_object value ≡ Ok read)
IsOfItsKind value (object.Controller read) = IsOfKind (version_of read.kind) (kind_name read.kind) value × (controller read.kind value ≡ Ok read)
IsOfItsKind value (object.Service read) = IsOfKind (codes "v1") (codes "Service") value × (service value ≡ Ok read)
IsOfItsKind value (object.Ingress read) = IsOfKind (codes "networking.k8s.io/v1") (codes "Ingress") value × (ingress value ≡ Ok read)
IsOfItsKind value object.Other = ⊤
