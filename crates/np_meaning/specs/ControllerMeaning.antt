-- What the members of a controller of pods in JSON say (Kubernetes API reference, DeploymentSpec, ReplicaSetSpec,
-- StatefulSetSpec, ReplicationControllerSpec, DaemonSetSpec, JobSpec, CronJobSpec and PodTemplateSpec).
use Rattle.std.specs.Prelude.{◌≡◌, ℤ, pos, negsuc, zero, suc, Bool, true, false, ◌&&◌, Option, Some, None, codes, ⊤}
use Rattle.serde_json.specs.Data.{Data}
use Rattle.np_json.specs.Prelude.{member_of}
use Rattle.np_meaning.specs.EachPod.{AreEach}
use Rattle.np_meaning.specs.ObjectMeaning.{metadata_of, named_ports, is_true_at, AreLabelsOf, IsContainerPort, IsNamed}
use Rattle.np_meaning.specs.Types.{ControllerItem, ControllerKind, CronJob, DaemonSet, Deployment, Job, ReplicaSet, ReplicationController, StatefulSet, Template}
use Rattle.np_meaning.specs.MemberMeaning.{number_at, object_at, spec_of}

-- where the spec of a controller of a kind has the template of its pods: a CronJob in the template of its jobs
abbrev pub template_in : ControllerKind → Data → Option Data
template_in CronJob spec = member_of (codes "template") (spec_of (object_at (codes "jobTemplate") spec))
template_in kind spec = member_of (codes "template") spec

-- whether controllers of a kind say how many pods are wanted
abbrev pub has_replicas : ControllerKind → Bool
has_replicas Deployment = true
has_replicas ReplicaSet = true
has_replicas StatefulSet = true
has_replicas ReplicationController = true
has_replicas DaemonSet = false
has_replicas Job = false
has_replicas CronJob = false

abbrev pub is_nought : Option ℤ → Bool
is_nought (Some (pos zero)) = true
is_nought (Some (pos (suc n))) = false
is_nought (Some (negsuc n)) = false
is_nought None = false

-- the labels of a template, its named container ports in order, and whether its pods are on the network of their node
pub record IsTemplateOf (value : Data) (template : Template) : Type 0 where
  pub labels : AreLabelsOf (metadata_of value) template.labels
  pub ports : AreEach IsContainerPort (named_ports (spec_of value)) template.ports
  pub host_network : template.host_network ≡ is_true_at (codes "hostNetwork") (spec_of value)

abbrev pub IsTemplateIn : Option Data → Option Template → Type 0
IsTemplateIn None None = ⊤
IsTemplateIn None (Some template) = ⊥
IsTemplateIn (Some value) None = ⊥
IsTemplateIn (Some value) (Some template) = IsTemplateOf value template

-- A controller of a kind: its namespace and its name, its template, and whether no pod is wanted, which is so where
-- `replicas` is 0.
pub record IsControllerOf (asked : ControllerKind) (value : Data) (controller : ControllerItem) : Type 0 where
  pub kind : controller.kind ≡ asked
  pub names : IsNamed value controller.namespace controller.name
  pub none_wanted : controller.none_wanted ≡ (has_replicas asked && is_nought (number_at (codes "replicas") (spec_of value)))
  pub template : IsTemplateIn (template_in asked (spec_of value)) controller.template
