-- What the shapes of members read passes a test, if each member that is read does. For WellLemmas.
use Rattle.std.proofs.Common.{◌≡◌, ℕ, ◌+◌, List, [], ◌∷◌, Bool, true, false, not, Option, Some, None, Ok, Err, codes, unwrap_or, refl, subst}
use Rattle.std.specs.List.{list_all}
use Rattle.std.proofs.lemmas.Bool.{and_from, not-false}
use Rattle.serde_json.specs.Data.{Data, Items, no_items, item}
use Rattle.serde_json.specs.Find.{as_array}
use Rattle.np_json.specs.Prelude.{Read, each_item, given, labels, list_by, listed, member_of, name, optional, read_member, refuse, refuse_if, required, under, word, ◌>>=◌, ◌>>◌}
use Rattle.np_json.specs.Meta as meta
use Rattle.np_model.specs.Prelude.{is_label, is_name, is_word, option_all}
use Rattle.np_json.specs.declared.fault.FaultKind.{FaultKind}
use Rattle.np_objects.specs.Prelude.{BadField, BadName, Field, Item, Step}
use Rattle.np_json.specs.declared.flaw.Flaw.{Flaw}
use Rattle.np_json.proofs.ReadLemmas.{is_well_own}

-- what is read, if anything is, passes the test
pub record ReadsOnly {A : Type 0} (passes : A → Bool) (read : Read A) : Type 0 where
  pub output : (x : A) → read ≡ Ok x → passes x ≡ true

pub ReadsOnly-Ok : {A : Type 0} (p : A → Bool) (x : A) → p x ≡ true → ReadsOnly p (Ok x)
ReadsOnly-Ok p x is = record { output = λ y same. let equal : x ≡ y = cc in subst (λ z. p z ≡ true) equal is }

pub ReadsOnly-Err : {A : Type 0} (p : A → Bool) (flaw : Flaw) → ReadsOnly p (Err flaw)
ReadsOnly-Err p flaw = record { output = λ y same. cc }

-- one line after another, of which the first gives a value
pub ReadsOnly-bind : {A B : Type 0} (p : A → Bool) (q : B → Bool) (read : Read A) (rest : A → Read B) → ReadsOnly p read → ((x : A) → p x ≡ true → ReadsOnly q (rest x)) → ReadsOnly q (read >>= rest)
ReadsOnly-bind p q (Ok x) rest is next = next x (is.output x refl)
ReadsOnly-bind p q (Err flaw) rest is next = ReadsOnly-Err q flaw

-- one line after another, of which the first gives a value that nothing is asked of
pub ReadsOnly-after : {A B : Type 0} (q : B → Bool) (read : Read A) (rest : A → Read B) → ((x : A) → ReadsOnly q (rest x)) → ReadsOnly q (read >>= rest)
ReadsOnly-after q (Ok x) rest next = next x
ReadsOnly-after q (Err flaw) rest next = ReadsOnly-Err q flaw

-- a rule, and then the rest
pub ReadsOnly-then : {A B : Type 0} (q : B → Bool) (rule : Read A) (rest : Read B) → ReadsOnly q rest → ReadsOnly q (rule >> rest)
ReadsOnly-then q (Ok x) rest is = is
ReadsOnly-then q (Err flaw) rest is = ReadsOnly-Err q flaw

-- a rule that the rest may rely on
pub ReadsOnly-unless : {B : Type 0} (q : B → Bool) (broken : Bool) (kind : FaultKind) (rest : Read B) → (broken ≡ false → ReadsOnly q rest) → ReadsOnly q (refuse_if broken kind >> rest)
unfolding refuse_if
ReadsOnly-unless q true kind rest is = ReadsOnly-Err q _
ReadsOnly-unless q false kind rest is = is refl

pub ReadsOnly-under : {A : Type 0} (p : A → Bool) (step : Step) (read : Read A) → ReadsOnly p read → ReadsOnly p (under step read)
unfolding under
ReadsOnly-under p step (Ok x) is = is
ReadsOnly-under p step (Err flaw) is = ReadsOnly-Err p _

required_by : {A : Type 0} (p : A → Bool) (shape : Data → Read A) (found : Option Data) → ((value : Data) → ReadsOnly p (shape value)) → ReadsOnly p (read_member (refuse BadField) shape found)
required_by p shape None is = ReadsOnly-Err p _
required_by p shape (Some value) is = is value

pub ReadsOnly-required : {A : Type 0} (p : A → Bool) (name : List ℕ) (shape : Data → Read A) (value : Data) → ((found : Data) → ReadsOnly p (shape found)) → ReadsOnly p (required name shape value)
unfolding required
ReadsOnly-required p name shape value is = ReadsOnly-under p (Field name) _ (required_by p shape (member_of name value) is)

given_by : {A : Type 0} (p : A → Bool) (read : Read A) → ReadsOnly p read → ReadsOnly (option_all p) (given read)
given_by p (Ok x) is = ReadsOnly-Ok (option_all p) (Some x) (is.output x refl)
given_by p (Err flaw) is = ReadsOnly-Err (option_all p) flaw

optional_by : {A : Type 0} (p : A → Bool) (shape : Data → Read A) (found : Option Data) → ((value : Data) → ReadsOnly p (shape value)) →
    ReadsOnly (option_all p) (read_member (Ok None) (λ value. given (shape value)) found)
optional_by p shape None is = ReadsOnly-Ok (option_all p) None refl
optional_by p shape (Some value) is = given_by p (shape value) (is value)

pub ReadsOnly-optional : {A : Type 0} (p : A → Bool) (name : List ℕ) (shape : Data → Read A) (value : Data) → ((found : Data) → ReadsOnly p (shape found)) →
    ReadsOnly (option_all p) (optional name shape value)
unfolding optional
ReadsOnly-optional p name shape value is = ReadsOnly-under (option_all p) (Field name) _ (optional_by p shape (member_of name value) is)

each_by : {A : Type 0} (p : A → Bool) (shape : Data → Read A) (place : ℕ) (items : Items) → ((value : Data) → ReadsOnly p (shape value)) → ReadsOnly (list_all p) (each_item shape place items)
each_by p shape place no_items is = ReadsOnly-Ok (list_all p) [] refl
each_by p shape place (item value items) is =
    ReadsOnly-bind p (list_all p) _ _ (ReadsOnly-under p (Item place) (shape value) (is value)) (λ output first.
    ReadsOnly-bind (list_all p) (list_all p) _ _ (each_by p shape (place + 1) items is) (λ outputs rest.
    ReadsOnly-Ok (list_all p) (output ∷ outputs) (and_from (p output) (list_all p outputs) first rest)))

list_by_by : {A : Type 0} (p : A → Bool) (shape : Data → Read A) (items : Option Items) → ((value : Data) → ReadsOnly p (shape value)) → ReadsOnly (list_all p) (list_by shape items)
list_by_by p shape None is = ReadsOnly-Err (list_all p) _
list_by_by p shape (Some items) is = each_by p shape 0 items is

listed_by : {A : Type 0} (p : A → Bool) (shape : Data → Read A) (found : Option Data) → ((value : Data) → ReadsOnly p (shape value)) →
    ReadsOnly (list_all p) (read_member (Ok []) (λ value. list_by shape (as_array value)) found)
listed_by p shape None is = ReadsOnly-Ok (list_all p) [] refl
listed_by p shape (Some value) is = list_by_by p shape (as_array value) is

pub ReadsOnly-listed : {A : Type 0} (p : A → Bool) (name : List ℕ) (shape : Data → Read A) (value : Data) → ((found : Data) → ReadsOnly p (shape found)) →
    ReadsOnly (list_all p) (listed name shape value)
unfolding listed
ReadsOnly-listed p name shape value is = ReadsOnly-under (list_all p) (Field name) _ (listed_by p shape (member_of name value) is)

pub ReadsOnly-name : (value : Data) → ReadsOnly is_name (name value)
unfolding name
ReadsOnly-name value =
    ReadsOnly-after is_name _ _ (λ s.
    ReadsOnly-unless is_name (not (is_name s)) BadName _ (λ kept.
    ReadsOnly-Ok is_name s (not-false (is_name s) kept)))

pub ReadsOnly-word : (value : Data) → ReadsOnly is_word (word value)
unfolding word
ReadsOnly-word value =
    ReadsOnly-after is_word _ _ (λ s.
    ReadsOnly-unless is_word (not (is_word s)) BadField _ (λ kept.
    ReadsOnly-Ok is_word s (not-false (is_word s) kept)))

pub ReadsOnly-labels : (value : Data) → ReadsOnly (list_all is_label) (labels value)
unfolding labels
ReadsOnly-labels value =
    ReadsOnly-after (list_all is_label) _ _ (λ pairs.
    ReadsOnly-unless (list_all is_label) (not (list_all is_label pairs)) BadField _ (λ kept.
    ReadsOnly-Ok (list_all is_label) pairs (not-false (list_all is_label pairs) kept)))

ReadsOnly-namespace : (value : Data) → ReadsOnly is_name (meta.namespace value)
unfolding meta.namespace
ReadsOnly-namespace value =
    ReadsOnly-after is_name _ _ (λ s.
    ReadsOnly-unless is_name (not (is_name (meta.or_default s))) BadName _ (λ kept.
    ReadsOnly-Ok is_name (meta.or_default s) (not-false (is_name (meta.or_default s)) kept)))

pub unwrapped : {A : Type 0} (p : A → Bool) (found : Option A) (missing : A) → option_all p found ≡ true → p missing ≡ true → p (unwrap_or found missing) ≡ true
unwrapped p None missing all is = is
unwrapped p (Some x) missing all is = all

pub ReadsOnly-namespaced_name : (value : Data) → ReadsOnly is_well_own (meta.namespaced_name value)
unfolding meta.namespaced_name
ReadsOnly-namespaced_name value =
    ReadsOnly-then is_well_own _ _ (
    ReadsOnly-bind is_name is_well_own _ _ (ReadsOnly-required is_name (codes "name") name value ReadsOnly-name) (λ called called_well.
    ReadsOnly-bind (option_all is_name) is_well_own _ _ (ReadsOnly-optional is_name (codes "namespace") meta.namespace value ReadsOnly-namespace) (λ namespace namespace_well.
    ReadsOnly-Ok is_well_own _ (and_from _ _ (unwrapped is_name namespace (codes "default") namespace_well refl) called_well))))
