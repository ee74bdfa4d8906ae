-- A valid controller is read. For `valid_controllers_are_read`.
use Rattle.std.proofs.Common.{◌≡◌, pos, [], Ok, codes, refl, unwrap_or}
use Rattle.serde_json.specs.Data.{Data}
use Rattle.np_json.specs.Prelude.{listed, must_be_object, namespaced_name, optional, required, whole}
use Rattle.np_meaning.proofs.ValidNames.{label_map-reads, type-read}
use Rattle.np_meaning.proofs.ValidNetworkReads.{own-reads}
use Rattle.np_meaning.proofs.ValidPodReads.{owner-reads, pod_spec-reads}
use Rattle.np_meaning.proofs.ValidReads.{Reads, bind-reads, ends-reads, listed-reads, object-reads, optional-reads, required-reads, then-reads}
use Rattle.np_meaning.specs.Types.{ControllerItem, ControllerKind, CronJob, DaemonSet, Deployment, Job, ReplicaSet, ReplicationController, StatefulSet}
use Rattle.np_meaning.specs.ValidControllers.{IsCount, IsCronJobSpec, IsJobTemplate, IsReplicatedSpec, IsSpecOf, IsTemplateSpec, IsValidController, IsValidTemplate, IsValidTemplateMeta}
use Rattle.np_meaning.specs.ValidMembers.{IsLabel, IsMapOf}
use Rattle.np_meaning.specs.ValidPods.{IsOwnedMeta, IsValidOwner, IsValidPodSpec}
use Rattle.np_objects.specs.Prelude.{controller, controller_metadata, controller_spec, cron_job_spec, job_template, label_map, object_by, object_of, owner_reference, pod_spec, replicated_spec, template, template_metadata, template_spec}
use Rattle.np_objects.specs.declared.object.Object.TheVariants as object

-- ---- templates

template_metadata-reads : (value : Data) → IsValidTemplateMeta value → Reads (template_metadata value)
unfolding template_metadata
template_metadata-reads value is =
    let labelled = optional-reads label_map (IsMapOf IsLabel) label_map-reads (codes "labels") value is.labels in
    (unwrap_or labelled.0 [], rw ((object-reads value is.object).1, labelled.1) refl)

template-reads : (value : Data) → IsValidTemplate value → Reads (template value)
unfolding template
template-reads value is =
    let labelled = optional-reads template_metadata IsValidTemplateMeta template_metadata-reads (codes "metadata") value is.metadata in
    let spec = required-reads pod_spec IsValidPodSpec pod_spec-reads (codes "spec") value is.spec in (
      record { labels = unwrap_or labelled.0 []; ports = spec.0.ports; host_network = spec.0.host_network },
      rw ((object-reads value is.object).1, labelled.1, spec.1) refl,
    )

-- ---- specs

count-reads : (value : Data) → IsCount value → Reads (whole value)
count-reads value is = (pos is.0, rw is.1 refl)

replicated-reads : (value : Data) → IsReplicatedSpec value → Reads (replicated_spec value)
unfolding replicated_spec
replicated-reads value is =
    then-reads (must_be_object value) _ (object-reads value is.object)
    (bind-reads (optional (codes "replicas") whole value) _ (optional-reads whole IsCount count-reads (codes "replicas") value is.replicas) (λ replicas read.
    bind-reads (optional (codes "template") template value) _ (optional-reads template IsValidTemplate template-reads (codes "template") value is.template) (λ made read. ends-reads _)))

template_spec-reads : (value : Data) → IsTemplateSpec value → Reads (template_spec value)
unfolding template_spec
template_spec-reads value is =
    then-reads (must_be_object value) _ (object-reads value is.object)
    (bind-reads (optional (codes "template") template value) _ (optional-reads template IsValidTemplate template-reads (codes "template") value is.template) (λ made read. ends-reads _))

job_template-reads : (value : Data) → IsJobTemplate value → Reads (job_template value)
unfolding job_template
job_template-reads value is =
    then-reads (must_be_object value) _ (object-reads value is.object)
    (bind-reads (optional (codes "spec") template_spec value) _ (optional-reads template_spec IsTemplateSpec template_spec-reads (codes "spec") value is.spec) (λ made read. ends-reads _))

cron_job-reads : (value : Data) → IsCronJobSpec value → Reads (cron_job_spec value)
unfolding cron_job_spec
cron_job-reads value is =
    then-reads (must_be_object value) _ (object-reads value is.object)
    (bind-reads (optional (codes "jobTemplate") job_template value) _ (optional-reads job_template IsJobTemplate job_template-reads (codes "jobTemplate") value is.jobs) (λ made read. ends-reads _))

spec-reads : (kind : ControllerKind) (value : Data) → IsSpecOf kind value → Reads (controller_spec kind value)
spec-reads Deployment value is = replicated-reads value is
spec-reads ReplicaSet value is = replicated-reads value is
spec-reads StatefulSet value is = replicated-reads value is
spec-reads ReplicationController value is = replicated-reads value is
spec-reads DaemonSet value is = template_spec-reads value is
spec-reads Job value is = template_spec-reads value is
spec-reads CronJob value is = cron_job-reads value is

-- ---- controllers

metadata-reads : (value : Data) → IsOwnedMeta value → Reads (controller_metadata value)
unfolding controller_metadata
metadata-reads value is =
    let own = own-reads value (record { object = is.object; name = is.name; namespace = is.namespace }) in
    let owners = listed-reads owner_reference IsValidOwner owner-reads (codes "ownerReferences") value is.owners in
    bind-reads (namespaced_name value) _ own (λ meta read. bind-reads (listed (codes "ownerReferences") owner_reference value) _ owners (λ references read. ends-reads _))

controller-reads : (kind : ControllerKind) (value : Data) → IsValidController kind value → Reads (controller kind value)
unfolding controller
controller-reads kind value is =
    bind-reads (required (codes "metadata") controller_metadata value) _ (required-reads controller_metadata IsOwnedMeta metadata-reads (codes "metadata") value is.metadata) (λ meta read.
    bind-reads (optional (codes "spec") (controller_spec kind) value) _ (optional-reads (controller_spec kind) (IsSpecOf kind) (spec-reads kind) (codes "spec") value is.spec) (λ spec read. ends-reads _))

pub controller-valid : (kind : ControllerKind) (value : Data) → IsValidController kind value → (read : ControllerItem) × (object_of value ≡ Ok (object.Controller read))
unfolding object_of object_by
controller-valid kind value is = by kind is (controller-reads kind value is)
  where
    by : (kind : ControllerKind) → IsValidController kind value → Reads (controller kind value) → (read : ControllerItem) × (object_of value ≡ Ok (object.Controller read))
    by Deployment is read = (read.0, rw (type-read (codes "apps/v1") (codes "Deployment") value is.type, read.1) refl)
    by ReplicaSet is read = (read.0, rw (type-read (codes "apps/v1") (codes "ReplicaSet") value is.type, read.1) refl)
    by StatefulSet is read = (read.0, rw (type-read (codes "apps/v1") (codes "StatefulSet") value is.type, read.1) refl)
    by DaemonSet is read = (read.0, rw (type-read (codes "apps/v1") (codes "DaemonSet") value is.type, read.1) refl)
    by ReplicationController is read = (read.0, rw (type-read (codes "v1") (codes "ReplicationController") value is.type, read.1) refl)
    by Job is read = (read.0, rw (type-read (codes "batch/v1") (codes "Job") value is.type, read.1) refl)
    by CronJob is read = (read.0, rw (type-read (codes "batch/v1") (codes "CronJob") value is.type, read.1) refl)
