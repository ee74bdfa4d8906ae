-- Controllers of pods.
use Rattle.std.specs.Prelude.{ℤ, pos, ◌==◌, codes, Bool, false, Option, Some, None, unwrap_or, Ok}
use Rattle.serde_json.specs.Data.{Data}
use Rattle.np_json.specs.Prelude.{Read, listed, must_be_object, namespaced_name, optional, optional_or, required, whole, ◌>>=◌, ◌>>◌}
use Rattle.np_objects.specs.Owners.{owner_reference, owner_of}
use Rattle.np_objects.specs.Templates.{template}
use Rattle.np_objects.specs.Types.{ControllerItem, ControllerKind, ControllerMetadata, ControllerSpec, CronJob, DaemonSet, Job}
use Rattle.np_objects.specs.declared.owner_reference.Dependent.TheVariants as dependent

-- the metadata of a controller: first the name and the namespace
unfoldable pub controller_metadata : Data → Read ControllerMetadata
controller_metadata value = do
  Ok (record { own = (← namespaced_name value); owner = owner_of dependent.Controller (← listed (codes "ownerReferences") owner_reference value) })

abbrev pub is_zero : Option ℤ → Bool
is_zero (Some (pos n)) = n == 0
is_zero other = false

-- what a controller without a spec has
abbrev pub no_spec : ControllerSpec
no_spec = record { none_wanted = false; template = None }

-- the spec of a controller that is told how many pods are wanted
unfoldable pub replicated_spec : Data → Read ControllerSpec
replicated_spec value = must_be_object value >> do
  Ok (record { none_wanted = is_zero (← optional (codes "replicas") whole value); template = (← optional (codes "template") template value) })

-- The spec of a controller of which the template alone is read: a DaemonSet, or a Job, which wants pods even where it
-- is complete or suspended.
unfoldable pub template_spec : Data → Read ControllerSpec
template_spec value = must_be_object value >> do
  Ok (record { none_wanted = false; template = (← optional (codes "template") template value) })

-- the template of a job
unfoldable pub job_template : Data → Read ControllerSpec
job_template value = must_be_object value >> optional_or no_spec (codes "spec") template_spec value

-- the spec of a controller of jobs, which wants pods even where it is suspended
unfoldable pub cron_job_spec : Data → Read ControllerSpec
cron_job_spec value = must_be_object value >> optional_or no_spec (codes "jobTemplate") job_template value

-- The spec of each kind of controller. A Deployment, a ReplicaSet, a StatefulSet and a ReplicationController are told how
-- many pods are wanted.
abbrev pub controller_spec : ControllerKind → Data → Read ControllerSpec
controller_spec DaemonSet value = template_spec value
controller_spec Job value = template_spec value
controller_spec CronJob value = cron_job_spec value
controller_spec other value = replicated_spec value

abbrev pub controller_item : ControllerKind → ControllerMetadata → ControllerSpec → ControllerItem
controller_item kind metadata spec = record {
  kind = kind;
  namespace = metadata.own.namespace;
  name = metadata.own.name;
  owner = metadata.owner;
  none_wanted = spec.none_wanted;
  template = spec.template;
}

-- a controller
unfoldable pub controller : ControllerKind → Data → Read ControllerItem
controller kind value = do
  metadata ← required (codes "metadata") controller_metadata value
  Ok (controller_item kind metadata (unwrap_or (← optional (codes "spec") (controller_spec kind) value) no_spec))
