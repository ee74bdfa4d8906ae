-- Valid controllers of pods (Kubernetes API reference, PodTemplateSpec, DeploymentSpec, ReplicaSetSpec, StatefulSetSpec,
-- ReplicationControllerSpec, DaemonSetSpec, JobSpec and CronJobSpec): of these what says something of pods.
use Rattle.std.specs.Prelude.{◌≡◌, ℕ, pos, Some, codes}
use Rattle.serde_json.specs.Data.{Data}
use Rattle.np_json.specs.Prelude.{as_whole}
use Rattle.np_meaning.specs.KindMeaning.{version_of}
use Rattle.np_meaning.specs.Types.{ControllerKind, CronJob, DaemonSet, Deployment, Job, ReplicaSet, ReplicationController, StatefulSet}
use Rattle.np_meaning.specs.ValidMembers.{Has, IsLabel, IsMapOf, IsObject, IsTyped, MayHave}
use Rattle.np_meaning.specs.ValidPods.{IsOwnedMeta, IsValidPodSpec}
use Rattle.np_objects.specs.Prelude.{kind_name}

-- ---- templates

pub record IsValidTemplateMeta (value : Data) : Type 0 where
  pub object : IsObject value
  pub labels : MayHave (codes "labels") (IsMapOf IsLabel) value

pub record IsValidTemplate (value : Data) : Type 0 where
  pub object : IsObject value
  pub metadata : MayHave (codes "metadata") IsValidTemplateMeta value
  pub spec : Has (codes "spec") IsValidPodSpec value

-- ---- specs

-- a number of pods
abbrev pub IsCount : Data → Type 0
IsCount value = (n : ℕ) × (as_whole value ≡ Some (pos n))

pub record IsReplicatedSpec (value : Data) : Type 0 where
  pub object : IsObject value
  pub replicas : MayHave (codes "replicas") IsCount value
  pub template : MayHave (codes "template") IsValidTemplate value

pub record IsTemplateSpec (value : Data) : Type 0 where
  pub object : IsObject value
  pub template : MayHave (codes "template") IsValidTemplate value

pub record IsJobTemplate (value : Data) : Type 0 where
  pub object : IsObject value
  pub spec : MayHave (codes "spec") IsTemplateSpec value

pub record IsCronJobSpec (value : Data) : Type 0 where
  pub object : IsObject value
  pub jobs : MayHave (codes "jobTemplate") IsJobTemplate value

abbrev pub IsSpecOf : ControllerKind → Data → Type 0
IsSpecOf Deployment value = IsReplicatedSpec value
IsSpecOf ReplicaSet value = IsReplicatedSpec value
IsSpecOf StatefulSet value = IsReplicatedSpec value
IsSpecOf ReplicationController value = IsReplicatedSpec value
IsSpecOf DaemonSet value = IsTemplateSpec value
IsSpecOf Job value = IsTemplateSpec value
IsSpecOf CronJob value = IsCronJobSpec value

-- ---- controllers

pub record IsValidController (kind : ControllerKind) (value : Data) : Type 0 where
  pub type : IsTyped (version_of kind) (kind_name kind) value
  pub metadata : Has (codes "metadata") IsOwnedMeta value
  pub spec : MayHave (codes "spec") (IsSpecOf kind) value
