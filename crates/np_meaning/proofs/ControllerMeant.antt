-- What a controller that was read has of its members. For `controllers_mean_their_members`.
use Rattle.std.proofs.Common.{◌≡◌, ℕ, zero, suc, ℤ, pos, negsuc, List, [], Bool, false, ◌&&◌, Option, Some, None, unwrap_or, Ok, refl, sym, ap, subst, ◌∙◌, arith}
use Rattle.std.proofs.lemmas.Bool.{ne_eqb}
use Rattle.std.specs.Prelude.{IfOk, codes}
use Rattle.serde_json.specs.Data.{Data, object, no_members}
use Rattle.np_json.specs.Prelude.{Read, as_whole, listed, member_of, must_be_object, namespaced_name, optional, required, whole}
use Rattle.np_meaning.specs.Prelude.{AreLabelsOf, ControllerItem, ControllerKind, CronJob, DaemonSet, Deployment, IsControllerOf, IsReadOf, IsTemplateIn, IsTemplateOf, Job, Pair, ReplicaSet, ReplicationController, StatefulSet, Template, has_replicas, is_nought, metadata_of, number_at, object_at, spec_of, template_in}
use Rattle.np_meaning.proofs.MetaMeant.{IsOwn, labels-meant, namespaced_name-meant}
use Rattle.np_meaning.proofs.Outputs.{OutputOf, optional-output}
use Rattle.np_meaning.proofs.PodMeant.{pod_spec-meant}
use Rattle.np_objects.specs.Prelude.{controller, controller_metadata, controller_spec, cron_job_spec, is_zero, job_template, label_map, no_spec, owner_reference, pod_spec, replicated_spec, template, template_metadata, template_spec}
use Rattle.np_policies.proofs.ReadLemmas.{bind-output, then-output}
use Rattle.np_meaning.proofs.MemberReads.{of_type-output, object_at-output}

-- what the metadata and the spec of a controller are read as
abbrev Metadata : Type 0
Metadata = OutputOf controller_metadata

abbrev Spec : Type 0
Spec = OutputOf replicated_spec

-- ---- templates

template_metadata-meant : (value : Data) (labels : List Pair) → template_metadata value ≡ Ok labels → AreLabelsOf value labels
unfolding template_metadata
template_metadata-meant value labels is =
    let past = then-output (must_be_object value) _ labels is in
    let found = bind-output (optional (codes "labels") label_map value) _ labels past in
    subst (λ read. IfOk read (AreLabelsOf value)) found.after (labels-meant value found.first found.here)

template_labels-meant : (value : Data) (found : Option (List Pair)) → optional (codes "metadata") template_metadata value ≡ Ok found → AreLabelsOf (metadata_of value) (unwrap_or found [])
template_labels-meant value found is = by (member_of (codes "metadata") value) found (optional-output template_metadata (codes "metadata") value found is)
  where
    by : (member : Option Data) (found : Option (List Pair)) → IsReadOf template_metadata member found → AreLabelsOf (unwrap_or member (object no_members)) (unwrap_or found [])
    by None None is = λ key. refl
    by None (Some read) is = absurd is
    by (Some one) None is = absurd is
    by (Some one) (Some read) is = template_metadata-meant one read is

template-meant : (value : Data) (read : Template) → template value ≡ Ok read → IsTemplateOf value read
unfolding template
template-meant value read is =
    let past = then-output (must_be_object value) _ read is in
    let labels = bind-output (optional (codes "metadata") template_metadata value) _ read past in
    let spec = bind-output (required (codes "spec") pod_spec value) _ read labels.after in
    let said = pod_spec-meant (object_at (codes "spec") value) spec.first (object_at-output pod_spec (codes "spec") value spec.first spec.here) in
    subst (λ read. IfOk read (IsTemplateOf value)) spec.after (record { labels = template_labels-meant value labels.first labels.here; ports = said.ports; host_network = said.host_network })

template_in-meant : (value : Data) (found : Option Template) → optional (codes "template") template value ≡ Ok found → IsTemplateIn (member_of (codes "template") value) found
template_in-meant value found is = by (member_of (codes "template") value) found (optional-output template (codes "template") value found is)
  where
    by : (member : Option Data) (found : Option Template) → IsReadOf template member found → IsTemplateIn member found
    by None None is = tt
    by None (Some read) is = absurd is
    by (Some one) None is = absurd is
    by (Some one) (Some read) is = template-meant one read is

-- ---- specs

-- a spec says whether no pod is wanted, and where its template is
record Says (none : Bool) (member : Option Data) (spec : Spec) : Type 0 where
  none_wanted : spec.none_wanted ≡ none
  template : IsTemplateIn member spec.template

zero-nought : (found : Option ℤ) → is_zero found ≡ is_nought found
zero-nought None = refl
zero-nought (Some (pos zero)) = refl
zero-nought (Some (pos (suc n))) = ne_eqb (suc n) 0 (λ same. never n same)
  where
    never : (n : ℕ) → suc n ≡ 0 → ⊥
    never n same = omega (arith, same)
zero-nought (Some (negsuc n)) = refl

replicas-meant : (value : Data) (found : Option ℤ) → optional (codes "replicas") whole value ≡ Ok found → is_zero found ≡ is_nought (number_at (codes "replicas") value)
replicas-meant value found is = by (member_of (codes "replicas") value) found (optional-output whole (codes "replicas") value found is)
  where
    by : (member : Option Data) (found : Option ℤ) → IsReadOf whole member found → is_zero found ≡ is_nought (as_whole (unwrap_or member (object no_members)))
    by None None is = refl
    by None (Some read) is = absurd is
    by (Some one) None is = absurd is
    by (Some one) (Some read) is = zero-nought (Some read) ∙ ap is_nought (sym (of_type-output (as_whole one) read is))

replicated-meant : (value : Data) (spec : Spec) → replicated_spec value ≡ Ok spec → Says (is_nought (number_at (codes "replicas") value)) (member_of (codes "template") value) spec
unfolding replicated_spec
replicated-meant value spec is =
    let past = then-output (must_be_object value) _ spec is in
    let replicas = bind-output (optional (codes "replicas") whole value) _ spec past in
    let pods = bind-output (optional (codes "template") template value) _ spec replicas.after in
    subst (λ read. IfOk read (Says (is_nought (number_at (codes "replicas") value)) (member_of (codes "template") value))) pods.after
    (record { none_wanted = replicas-meant value replicas.first replicas.here; template = template_in-meant value pods.first pods.here })

template_spec-meant : (value : Data) (spec : Spec) → template_spec value ≡ Ok spec → Says false (member_of (codes "template") value) spec
unfolding template_spec
template_spec-meant value spec is =
    let past = then-output (must_be_object value) _ spec is in
    let pods = bind-output (optional (codes "template") template value) _ spec past in
    subst (λ read. IfOk read (Says false (member_of (codes "template") value))) pods.after (record { none_wanted = refl; template = template_in-meant value pods.first pods.here })

-- what a spec that may be missing says
or_none : (shape : Data → Read Spec) (none : Data → Bool) (at : Data → Option Data) → none (object no_members) ≡ false → at (object no_members) ≡ None
    → ((value : Data) (spec : Spec) → shape value ≡ Ok spec → Says (none value) (at value) spec)
    → (member : Option Data) (found : Option Spec) → IsReadOf shape member found → Says (none (unwrap_or member (object no_members))) (at (unwrap_or member (object no_members)))
    (unwrap_or found no_spec)
or_none shape none at is_false is_none meant None None is = record { none_wanted = sym is_false; template = subst (λ (member : Option Data). IsTemplateIn member None) (sym is_none) tt }
or_none shape none at is_false is_none meant None (Some spec) is = absurd is
or_none shape none at is_false is_none meant (Some one) None is = absurd is
or_none shape none at is_false is_none meant (Some one) (Some spec) is = meant one spec is

job_template-meant : (value : Data) (spec : Spec) → job_template value ≡ Ok spec → Says false (member_of (codes "template") (spec_of value)) spec
unfolding job_template
job_template-meant value spec is =
    let past = then-output (must_be_object value) _ spec is in
    let found = bind-output (optional (codes "spec") template_spec value) _ spec past in
    subst (λ read. IfOk read (Says false (member_of (codes "template") (spec_of value)))) found.after
    (or_none template_spec (λ _. false) (member_of (codes "template")) refl refl template_spec-meant (member_of (codes "spec") value) found.first
    (optional-output template_spec (codes "spec") value found.first found.here))

cron_job-meant : (value : Data) (spec : Spec) → cron_job_spec value ≡ Ok spec → Says false (template_in CronJob value) spec
unfolding cron_job_spec
cron_job-meant value spec is =
    let past = then-output (must_be_object value) _ spec is in
    let found = bind-output (optional (codes "jobTemplate") job_template value) _ spec past in
    subst (λ read. IfOk read (Says false (template_in CronJob value))) found.after
    (or_none job_template (λ _. false) (λ job. member_of (codes "template") (spec_of job)) refl refl job_template-meant (member_of (codes "jobTemplate") value) found.first
    (optional-output job_template (codes "jobTemplate") value found.first found.here))

spec-meant : (kind : ControllerKind) (value : Data) (spec : Spec) → controller_spec kind value ≡ Ok spec →
    Says (has_replicas kind && is_nought (number_at (codes "replicas") value)) (template_in kind value) spec
spec-meant Deployment value spec is = replicated-meant value spec is
spec-meant ReplicaSet value spec is = replicated-meant value spec is
spec-meant StatefulSet value spec is = replicated-meant value spec is
spec-meant ReplicationController value spec is = replicated-meant value spec is
spec-meant DaemonSet value spec is = template_spec-meant value spec is
spec-meant Job value spec is = template_spec-meant value spec is
spec-meant CronJob value spec is = cron_job-meant value spec is

-- ---- controllers

metadata-meant : (value : Data) (metadata : Metadata) → controller_metadata value ≡ Ok metadata → IsOwn value metadata.own
unfolding controller_metadata
metadata-meant value metadata is =
    let own = bind-output (namespaced_name value) _ metadata is in
    let references = bind-output (listed (codes "ownerReferences") owner_reference value) _ metadata own.after in
    subst (λ read. IfOk read (λ (metadata : Metadata). IsOwn value metadata.own)) references.after (namespaced_name-meant value own.first own.here)

no-replicas : (kind : ControllerKind) → (has_replicas kind && is_nought (number_at (codes "replicas") (object no_members))) ≡ false
no-replicas Deployment = refl
no-replicas ReplicaSet = refl
no-replicas StatefulSet = refl
no-replicas ReplicationController = refl
no-replicas DaemonSet = refl
no-replicas Job = refl
no-replicas CronJob = refl

no-template : (kind : ControllerKind) → template_in kind (object no_members) ≡ None
no-template Deployment = refl
no-template ReplicaSet = refl
no-template StatefulSet = refl
no-template ReplicationController = refl
no-template DaemonSet = refl
no-template Job = refl
no-template CronJob = refl

pub controller-meant : (kind : ControllerKind) (value : Data) (read : ControllerItem) → controller kind value ≡ Ok read → IsControllerOf kind value read
unfolding controller
controller-meant kind value read is =
    let metadata = bind-output (required (codes "metadata") controller_metadata value) _ read is in
    let spec = bind-output (optional (codes "spec") (controller_spec kind) value) _ read metadata.after in
    let own = metadata-meant (object_at (codes "metadata") value) metadata.first (object_at-output controller_metadata (codes "metadata") value metadata.first metadata.here) in
    let says = or_none (controller_spec kind) (λ value. has_replicas kind && is_nought (number_at (codes "replicas") value)) (template_in kind) (no-replicas kind) (no-template kind) (spec-meant kind)
    (member_of (codes "spec") value) spec.first (optional-output (controller_spec kind) (codes "spec") value spec.first spec.here) in
    subst (λ read. IfOk read (IsControllerOf kind value)) spec.after (record {
      kind = refl;
      names = (own.namespace, own.name);
      none_wanted = says.none_wanted;
      template = says.template;
    })
