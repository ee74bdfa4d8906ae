-- An object that was read is of the version and the kind that it names. For `objects_are_of_their_kinds`.
use Rattle.std.proofs.Common.{◌≡◌, ℕ, List, [], Bool, true, false, cond, None, Ok, refl, sym, subst, ◌∙◌}
use Rattle.std.specs.Prelude.{IfOk, codes}
use Rattle.std.specs.Cmp.Lexicographic.{bytes_decides}
use Rattle.std.specs.Map.{lookup}
use Rattle.std.specs.Str.{bytes_eq}
use Rattle.serde_json.specs.Data.{Data}
use Rattle.np_json.specs.Prelude.{Read, must_be_object, required, text, type_meta, ◌>>=◌}
use Rattle.np_json.specs.declared.meta.TypeMeta.{TypeMeta}
use Rattle.np_meaning.proofs.ControllerMeant.{controller-meant}
use Rattle.np_meaning.proofs.Outputs.{text-output}
use Rattle.np_meaning.proofs.MemberReads.{text_at-output}
use Rattle.np_meaning.specs.Prelude.{ControllerItem, ControllerKind, CronJob, DaemonSet, Deployment, IsOfItsKind, IsOfKind, Job, Object, ReplicaSet, ReplicationController, StatefulSet, version_of}
use Rattle.np_objects.specs.Prelude.{controller, ingress, kind_name, kinds_of, namespace_object, object_by, object_of, pod, service}
use Rattle.np_objects.specs.declared.object.Object.TheVariants as object
use Rattle.np_policies.proofs.ReadLemmas.{bind-output, then-output}

-- the type of an object is what its members say
type-meant : (value : Data) (meta : TypeMeta) → type_meta value ≡ Ok meta → IsOfKind meta.api_version meta.kind value
unfolding type_meta
type-meant value meta is =
    let past = then-output (must_be_object value) _ meta is in
    let version = bind-output (required (codes "apiVersion") text value) _ meta past in
    let kind = bind-output (required (codes "kind") text value) _ meta version.after in
    subst (λ read. IfOk read (λ (meta : TypeMeta). IsOfKind meta.api_version meta.kind value)) kind.after
    (text_at-output text text-output (codes "apiVersion") value version.first version.here, text_at-output text text-output (codes "kind") value kind.first kind.here)

-- what the members say where their texts are these
called : (version kind one other : List ℕ) (value : Data) → IsOfKind version kind value → bytes_eq version one ≡ true → bytes_eq kind other ≡ true → IsOfKind one other value
called version kind one other value names first second = (names.0 ∙ (bytes_decides version one).0 first, names.1 ∙ (bytes_decides kind other).0 second)

-- a controller that was read is of the kind by which it was read
controlled : (kind : ControllerKind) (item : ControllerItem) (value : Data) → IsOfKind (version_of kind) (kind_name kind) value → controller kind value ≡ Ok item →
    IsOfItsKind value (object.Controller item)
controlled kind item value names is =
    let same = (controller-meant kind value item is).kind in
    subst (λ (kind : ControllerKind). IsOfKind (version_of kind) (kind_name kind) value × (controller kind value ≡ Ok item)) (sym same) (names, is)

-- what was read by the definition of a kind is so of the object
taken : {A : Type 0} (value : Data) (one : Read A) (make : A → Object) (read : Object) → ((item : A) → one ≡ Ok item → IsOfItsKind value (make item)) → (one >>= λ item. Ok (make item)) ≡ Ok read →
    IsOfItsKind value read
taken value one make read so is =
    let item = bind-output one (λ item. Ok (make item)) read is in
    subst (λ read. IfOk read (IsOfItsKind value)) item.after (so item.first item.here)

-- what is looked up in the list of one of four versions
listed : {X K : Type 0} (test : X → Bool) (core apps batch networking : Bool) (one two three four : List (X × K)) →
    lookup test (cond core one (cond apps two (cond batch three (cond networking four []))))
    ≡ cond core (lookup test one) (cond apps (lookup test two) (cond batch (lookup test three) (cond networking (lookup test four) None)))
listed test true apps batch networking one two three four = refl
listed test false true batch networking one two three four = refl
listed test false false true networking one two three four = refl
listed test false false false true one two three four = refl
listed test false false false false one two three four = refl

module _ (value : Data) (meta : TypeMeta) (names : IsOfKind meta.api_version meta.kind value) (read : Object)
    (is : object_by (cond (bytes_eq meta.api_version (codes "v1")) (lookup (bytes_eq meta.kind) (kinds_of (codes "v1")))
    (cond (bytes_eq meta.api_version (codes "apps/v1")) (lookup (bytes_eq meta.kind) (kinds_of (codes "apps/v1")))
    (cond (bytes_eq meta.api_version (codes "batch/v1")) (lookup (bytes_eq meta.kind) (kinds_of (codes "batch/v1")))
    (cond (bytes_eq meta.api_version (codes "networking.k8s.io/v1")) (lookup (bytes_eq meta.kind) (kinds_of (codes "networking.k8s.io/v1"))) None)))) value ≡ Ok read) where
  -- the kinds of `v1`
  as_replication_controller : bytes_eq meta.api_version (codes "v1") ≡ true → bytes_eq meta.kind (codes "Pod") ≡ false → bytes_eq meta.kind (codes "Namespace") ≡ false →
      bytes_eq meta.kind (codes "Service") ≡ false → (here : Bool) → bytes_eq meta.kind (codes "ReplicationController") ≡ here → IsOfItsKind value read
  unfolding object_by
  as_replication_controller core no_pod no_namespace no_service true kind =
      taken value (controller ReplicationController value) object.Controller read
      (λ item found. controlled ReplicationController item value (called meta.api_version meta.kind (codes "v1") (codes "ReplicationController") value names core kind) found)
      (rw (core, no_pod, no_namespace, no_service, kind) at is)
  as_replication_controller core no_pod no_namespace no_service false kind =
      subst (λ read. IfOk read (IsOfItsKind value)) (rw (core, no_pod, no_namespace, no_service, kind) at is) tt

  as_service : bytes_eq meta.api_version (codes "v1") ≡ true → bytes_eq meta.kind (codes "Pod") ≡ false → bytes_eq meta.kind (codes "Namespace") ≡ false → (here : Bool) →
      bytes_eq meta.kind (codes "Service") ≡ here → IsOfItsKind value read
  unfolding object_by
  as_service core no_pod no_namespace true kind =
      taken value (service value) object.Service read (λ item found. (called meta.api_version meta.kind (codes "v1") (codes "Service") value names core kind, found))
      (rw (core, no_pod, no_namespace, kind) at is)
  as_service core no_pod no_namespace false kind =
      as_replication_controller core no_pod no_namespace kind (bytes_eq meta.kind (codes "ReplicationController")) refl

  as_namespace : bytes_eq meta.api_version (codes "v1") ≡ true → bytes_eq meta.kind (codes "Pod") ≡ false → (here : Bool) → bytes_eq meta.kind (codes "Namespace") ≡ here → IsOfItsKind value read
  unfolding object_by
  as_namespace core no_pod true kind =
      taken value (namespace_object value) object.Namespace read (λ item found. (called meta.api_version meta.kind (codes "v1") (codes "Namespace") value names core kind, found))
      (rw (core, no_pod, kind) at is)
  as_namespace core no_pod false kind =
      as_service core no_pod kind (bytes_eq meta.kind (codes "Service")) refl

  as_pod : bytes_eq meta.api_version (codes "v1") ≡ true → (here : Bool) → bytes_eq meta.kind (codes "Pod") ≡ here → IsOfItsKind value read
  unfolding object_by
  as_pod core true kind =
      taken value (pod value) object.Pod read (λ item found. (called meta.api_version meta.kind (codes "v1") (codes "Pod") value names core kind, found)) (rw (core, kind) at is)
  as_pod core false kind =
      as_namespace core kind (bytes_eq meta.kind (codes "Namespace")) refl

  -- the kinds of `apps/v1`
  as_daemon_set : bytes_eq meta.api_version (codes "v1") ≡ false → bytes_eq meta.api_version (codes "apps/v1") ≡ true → bytes_eq meta.kind (codes "Deployment") ≡ false →
      bytes_eq meta.kind (codes "ReplicaSet") ≡ false → bytes_eq meta.kind (codes "StatefulSet") ≡ false → (here : Bool) → bytes_eq meta.kind (codes "DaemonSet") ≡ here → IsOfItsKind value read
  unfolding object_by
  as_daemon_set not_core apps no_deployment no_replica_set no_stateful_set true kind =
      taken value (controller DaemonSet value) object.Controller read
      (λ item found. controlled DaemonSet item value (called meta.api_version meta.kind (codes "apps/v1") (codes "DaemonSet") value names apps kind) found)
      (rw (not_core, apps, no_deployment, no_replica_set, no_stateful_set, kind) at is)
  as_daemon_set not_core apps no_deployment no_replica_set no_stateful_set false kind =
      subst (λ read. IfOk read (IsOfItsKind value)) (rw (not_core, apps, no_deployment, no_replica_set, no_stateful_set, kind) at is) tt

  as_stateful_set : bytes_eq meta.api_version (codes "v1") ≡ false → bytes_eq meta.api_version (codes "apps/v1") ≡ true → bytes_eq meta.kind (codes "Deployment") ≡ false →
      bytes_eq meta.kind (codes "ReplicaSet") ≡ false → (here : Bool) → bytes_eq meta.kind (codes "StatefulSet") ≡ here → IsOfItsKind value read
  unfolding object_by
  as_stateful_set not_core apps no_deployment no_replica_set true kind =
      taken value (controller StatefulSet value) object.Controller read
      (λ item found. controlled StatefulSet item value (called meta.api_version meta.kind (codes "apps/v1") (codes "StatefulSet") value names apps kind) found)
      (rw (not_core, apps, no_deployment, no_replica_set, kind) at is)
  as_stateful_set not_core apps no_deployment no_replica_set false kind =
      as_daemon_set not_core apps no_deployment no_replica_set kind (bytes_eq meta.kind (codes "DaemonSet")) refl

  as_replica_set : bytes_eq meta.api_version (codes "v1") ≡ false → bytes_eq meta.api_version (codes "apps/v1") ≡ true → bytes_eq meta.kind (codes "Deployment") ≡ false → (here : Bool) →
      bytes_eq meta.kind (codes "ReplicaSet") ≡ here → IsOfItsKind value read
  unfolding object_by
  as_replica_set not_core apps no_deployment true kind =
      taken value (controller ReplicaSet value) object.Controller read
      (λ item found. controlled ReplicaSet item value (called meta.api_version meta.kind (codes "apps/v1") (codes "ReplicaSet") value names apps kind) found)
      (rw (not_core, apps, no_deployment, kind) at is)
  as_replica_set not_core apps no_deployment false kind =
      as_stateful_set not_core apps no_deployment kind (bytes_eq meta.kind (codes "StatefulSet")) refl

  as_deployment : bytes_eq meta.api_version (codes "v1") ≡ false → bytes_eq meta.api_version (codes "apps/v1") ≡ true → (here : Bool) → bytes_eq meta.kind (codes "Deployment") ≡ here →
      IsOfItsKind value read
  unfolding object_by
  as_deployment not_core apps true kind =
      taken value (controller Deployment value) object.Controller read
      (λ item found. controlled Deployment item value (called meta.api_version meta.kind (codes "apps/v1") (codes "Deployment") value names apps kind) found) (rw (not_core, apps, kind) at is)
  as_deployment not_core apps false kind =
      as_replica_set not_core apps kind (bytes_eq meta.kind (codes "ReplicaSet")) refl

  -- the kinds of `batch/v1`
  as_cron_job : bytes_eq meta.api_version (codes "v1") ≡ false → bytes_eq meta.api_version (codes "apps/v1") ≡ false → bytes_eq meta.api_version (codes "batch/v1") ≡ true →
      bytes_eq meta.kind (codes "Job") ≡ false → (here : Bool) → bytes_eq meta.kind (codes "CronJob") ≡ here → IsOfItsKind value read
  unfolding object_by
  as_cron_job not_core not_apps batch no_job true kind =
      taken value (controller CronJob value) object.Controller read
      (λ item found. controlled CronJob item value (called meta.api_version meta.kind (codes "batch/v1") (codes "CronJob") value names batch kind) found)
      (rw (not_core, not_apps, batch, no_job, kind) at is)
  as_cron_job not_core not_apps batch no_job false kind =
      subst (λ read. IfOk read (IsOfItsKind value)) (rw (not_core, not_apps, batch, no_job, kind) at is) tt

  as_job : bytes_eq meta.api_version (codes "v1") ≡ false → bytes_eq meta.api_version (codes "apps/v1") ≡ false → bytes_eq meta.api_version (codes "batch/v1") ≡ true → (here : Bool) →
      bytes_eq meta.kind (codes "Job") ≡ here → IsOfItsKind value read
  unfolding object_by
  as_job not_core not_apps batch true kind =
      taken value (controller Job value) object.Controller read (λ item found. controlled Job item value
      (called meta.api_version meta.kind (codes "batch/v1") (codes "Job") value names batch kind) found) (rw (not_core, not_apps, batch, kind) at is)
  as_job not_core not_apps batch false kind =
      as_cron_job not_core not_apps batch kind (bytes_eq meta.kind (codes "CronJob")) refl

  -- the kinds of `networking.k8s.io/v1`
  as_ingress : bytes_eq meta.api_version (codes "v1") ≡ false → bytes_eq meta.api_version (codes "apps/v1") ≡ false → bytes_eq meta.api_version (codes "batch/v1") ≡ false →
      bytes_eq meta.api_version (codes "networking.k8s.io/v1") ≡ true → (here : Bool) → bytes_eq meta.kind (codes "Ingress") ≡ here → IsOfItsKind value read
  unfolding object_by
  as_ingress not_core not_apps not_batch networking true kind =
      taken value (ingress value) object.Ingress read (λ item found. (called meta.api_version meta.kind (codes "networking.k8s.io/v1") (codes "Ingress") value names networking kind, found))
      (rw (not_core, not_apps, not_batch, networking, kind) at is)
  as_ingress not_core not_apps not_batch networking false kind =
      subst (λ read. IfOk read (IsOfItsKind value)) (rw (not_core, not_apps, not_batch, networking, kind) at is) tt

  -- the versions
  of_networking : bytes_eq meta.api_version (codes "v1") ≡ false → bytes_eq meta.api_version (codes "apps/v1") ≡ false → bytes_eq meta.api_version (codes "batch/v1") ≡ false → (here : Bool) →
      bytes_eq meta.api_version (codes "networking.k8s.io/v1") ≡ here → IsOfItsKind value read
  unfolding object_by
  of_networking not_core not_apps not_batch true networking = as_ingress not_core not_apps not_batch networking (bytes_eq meta.kind (codes "Ingress")) refl
  of_networking not_core not_apps not_batch false version = subst (λ read. IfOk read (IsOfItsKind value)) (rw (not_core, not_apps, not_batch, version) at is) tt

  of_batch : bytes_eq meta.api_version (codes "v1") ≡ false → bytes_eq meta.api_version (codes "apps/v1") ≡ false → (here : Bool) → bytes_eq meta.api_version (codes "batch/v1") ≡ here →
      IsOfItsKind value read
  of_batch not_core not_apps true batch = as_job not_core not_apps batch (bytes_eq meta.kind (codes "Job")) refl
  of_batch not_core not_apps false version = of_networking not_core not_apps version (bytes_eq meta.api_version (codes "networking.k8s.io/v1")) refl

  of_apps : bytes_eq meta.api_version (codes "v1") ≡ false → (here : Bool) → bytes_eq meta.api_version (codes "apps/v1") ≡ here → IsOfItsKind value read
  of_apps not_core true apps = as_deployment not_core apps (bytes_eq meta.kind (codes "Deployment")) refl
  of_apps not_core false version = of_batch not_core version (bytes_eq meta.api_version (codes "batch/v1")) refl

  pub of_core : (here : Bool) → bytes_eq meta.api_version (codes "v1") ≡ here → IsOfItsKind value read
  of_core true core = as_pod core (bytes_eq meta.kind (codes "Pod")) refl
  of_core false version = of_apps version (bytes_eq meta.api_version (codes "apps/v1")) refl

pub object-meant : (value : Data) (read : Object) → object_of value ≡ Ok read → IsOfItsKind value read
unfolding object_of
object-meant value read is =
    let meta = bind-output (type_meta value) _ read is in
    let version = meta.first.api_version in
    let apart = listed (bytes_eq meta.first.kind) (bytes_eq version (codes "v1")) (bytes_eq version (codes "apps/v1"))
    (bytes_eq version (codes "batch/v1")) (bytes_eq version (codes "networking.k8s.io/v1"))
    (kinds_of (codes "v1")) (kinds_of (codes "apps/v1")) (kinds_of (codes "batch/v1")) (kinds_of (codes "networking.k8s.io/v1")) in
    let found = subst (λ kind. object_by kind value ≡ Ok read) apart meta.after in
    of_core value meta.first (type-meant value meta.first meta.here) read found (bytes_eq meta.first.api_version (codes "v1")) refl
