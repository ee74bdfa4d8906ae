-- Names and labels that were read are what the metadata says. For ControllerMeant, IngressMeant and 3 more.
use Rattle.std.proofs.Common.{◌≡◌, ℕ, List, [], ◌∷◌, ◌++◌, length, map, reverse, Bool, true, false, cond, not, ◌==◌, is_some, Option, Some, None, option_and_then, option_map, unwrap_or, codes, Ok, refl, sym, ap, subst, ◌∙◌, arith}
use Rattle.std.specs.List.{list_all}
use Rattle.std.specs.Str.{bytes_eq}
use Rattle.std.proofs.lemmas.Bool.Decides.{nat_tests}
use Rattle.std.proofs.lemmas.List.{reverse-append}
use Rattle.serde_json.specs.Data.{Data, object, Members, no_members, member}
use Rattle.serde_json.specs.Find.{as_object, as_str}
use Rattle.np_json.specs.Prelude.{as_pairs, labels, member_of, must_be_object, name, of_type, optional, pairs_of_members, refuse_if, required, text, ◌>>◌}
use Rattle.np_json.specs.Meta as meta
use Rattle.np_model.specs.Prelude.{is_label, is_name}
use Rattle.np_meaning.specs.Prelude.{AreLabelsOf, BadField, BadName, IsReadOf, Pair, last_text, named_or_default, text_at}
use Rattle.np_json.specs.declared.meta.NamespacedName.{NamespacedName}
use Rattle.np_labels.proofs.PairLists.{value_of-labels_of}
use Rattle.np_labels.specs.Prelude.{labels_of, pair_of, value_of}
use Rattle.np_meaning.proofs.Outputs.{optional-output, text-output}
use Rattle.np_meaning.proofs.MemberReads.{text_at-output, of_type-output, name-output}
use Rattle.np_policies.proofs.ReadLemmas.{bind-output, then-output}
use Rattle.np_objects.specs.Prelude.{label_map}

-- ---- names

named_or_default-is : (s : List ℕ) → named_or_default s ≡ meta.or_default s
named_or_default-is [] = refl
named_or_default-is (byte ∷ bytes) =
    let some : (length (byte ∷ bytes) == 0) ≡ false = grind (arith, nat_tests) in
    rw some refl

namespace-output : (value : Data) (s : List ℕ) → meta.namespace value ≡ Ok s → named_or_default (unwrap_or (as_str value) []) ≡ s
unfolding meta.namespace
namespace-output value s is =
    let read = bind-output (text value) (λ s. refuse_if (not (is_name (meta.or_default s))) BadName >> Ok (meta.or_default s)) s is in
    let end : Ok (meta.or_default read.first) ≡ Ok s = then-output (refuse_if (not (is_name (meta.or_default read.first))) BadName) (Ok (meta.or_default read.first)) s read.after in
    let same : meta.or_default read.first ≡ s = cc in
    rw (text-output value read.first read.here) (named_or_default-is read.first ∙ same)

namespace-meant : (member : Option Data) (found : Option (List ℕ)) → IsReadOf meta.namespace member found →
    named_or_default (unwrap_or (as_str (unwrap_or member (object no_members))) []) ≡ unwrap_or found (codes "default")
namespace-meant None None is = refl
namespace-meant None (Some s) is = absurd is
namespace-meant (Some one) None is = absurd is
namespace-meant (Some one) (Some s) is = namespace-output one s is

-- what metadata that was read says
pub record IsOwn (value : Data) (own : NamespacedName) : Type 0 where
  pub namespace : named_or_default (text_at (codes "namespace") value) ≡ own.namespace
  pub name : text_at (codes "name") value ≡ own.name

pub namespaced_name-meant : (value : Data) (own : NamespacedName) → meta.namespaced_name value ≡ Ok own → IsOwn value own
unfolding meta.namespaced_name
namespaced_name-meant value own is =
    let past = then-output (must_be_object value) _ own is in
    let called = bind-output (required (codes "name") name value) _ own past in
    let space = bind-output (optional (codes "namespace") meta.namespace value) (λ space. Ok (record { namespace = unwrap_or space (codes "default"); name = called.first })) own called.after in
    let made : record { namespace = unwrap_or space.first (codes "default"); name = called.first } ≡ own = let after = space.after in cc in
    subst (IsOwn value) made (record {
      namespace = namespace-meant (member_of (codes "namespace") value) space.first (optional-output meta.namespace (codes "namespace") value space.first space.here);
      name = text_at-output name name-output (codes "name") value called.first called.here;
    })

-- ---- labels

value_of-last : (pairs : List Pair) (pair : Pair) (key : List ℕ) →
    value_of (pairs ++ pair ∷ []) key ≡ cond (is_some (value_of pairs key)) (value_of pairs key) (cond (bytes_eq pair.key key) (Some pair.value) None)
value_of-last [] pair key = refl
value_of-last (first ∷ pairs) pair key = by (bytes_eq first.key key) (value_of-last pairs pair key)
  where
    end : Option (List ℕ)
    end = cond (bytes_eq pair.key key) (Some pair.value) None

    by : (b : Bool) → value_of (pairs ++ pair ∷ []) key ≡ cond (is_some (value_of pairs key)) (value_of pairs key) end →
        cond b (Some first.value) (value_of (pairs ++ pair ∷ []) key) ≡ cond (is_some (cond b (Some first.value) (value_of pairs key))) (cond b (Some first.value) (value_of pairs key)) end
    by true others = refl
    by false others = others

-- the entries of an object, as texts
pub pairs-member : (name : List ℕ) (value : Data) (members : Members) (pairs : List (List ℕ × List ℕ)) → pairs_of_members (member name value members) ≡ Some pairs →
    (s : List ℕ) × (more : List (List ℕ × List ℕ)) × (as_str value ≡ Some s) × (pairs_of_members members ≡ Some more) × (pairs ≡ (name, s) ∷ more)
pairs-member name value members pairs is = by (as_str value) (pairs_of_members members) is
  where
    by : (read : Option (List ℕ)) (rest : Option (List (List ℕ × List ℕ))) → option_and_then (λ s. option_map (λ more. (name, s) ∷ more) rest) read ≡ Some pairs →
        (s : List ℕ) × (more : List (List ℕ × List ℕ)) × (read ≡ Some s) × (rest ≡ Some more) × (pairs ≡ (name, s) ∷ more)
    by None rest step = cc
    by (Some s) None step = cc
    by (Some s) (Some more) step = (s, more, refl, refl, cc)

last_text-is : (members : Members) (pairs : List (List ℕ × List ℕ)) (key : List ℕ) → pairs_of_members members ≡ Some pairs → value_of (reverse (map pair_of pairs)) key ≡ last_text members key
last_text-is no_members [] key is = refl
last_text-is no_members (pair ∷ pairs) key is = cc
last_text-is (member name value members) pairs key is =
    let one = pairs-member name value members pairs is in
    let others = last_text-is members one.1 key one.3 in
    ap (λ (all : List (List ℕ × List ℕ)). value_of (reverse (map pair_of all)) key) one.4
    ∙ ap (λ (all : List Pair). value_of all key) (reverse-append (pair_of (name, one.0) ∷ []) (map pair_of one.1))
    ∙ value_of-last (reverse (map pair_of one.1)) (pair_of (name, one.0)) key
    ∙ rw (others, one.2) refl

pub labels-output : (value : Data) (pairs : List (List ℕ × List ℕ)) → labels value ≡ Ok pairs → pairs_of_members (unwrap_or (as_object value) no_members) ≡ Some pairs
unfolding labels
labels-output value pairs is =
    let read = bind-output (of_type (as_pairs value)) (λ pairs. refuse_if (not (list_all is_label pairs)) BadField >> Ok pairs) pairs is in
    let same : Ok read.first ≡ Ok pairs = then-output (refuse_if (not (list_all is_label read.first)) BadField) (Ok read.first) pairs read.after in
    let first : read.first ≡ pairs = cc in
    by (as_object value) (of_type-output (as_pairs value) read.first read.here ∙ ap Some first)
  where
    by : (found : Option Members) → option_and_then pairs_of_members found ≡ Some pairs → pairs_of_members (unwrap_or found no_members) ≡ Some pairs
    by None is = cc
    by (Some listed) is = is

label_map-meant : (value : Data) (read : List Pair) → label_map value ≡ Ok read → (key : List ℕ) → value_of read key ≡ last_text (unwrap_or (as_object value) no_members) key
unfolding label_map
label_map-meant value read is key =
    let entries = bind-output (labels value) (λ entries. Ok (labels_of (map pair_of entries))) read is in
    let made : labels_of (map pair_of entries.first) ≡ read = let after = entries.after in cc in
    ap (λ (all : List Pair). value_of all key) (sym made) ∙ value_of-labels_of (map pair_of entries.first) key ∙ last_text-is (unwrap_or (as_object value) no_members) entries.first key
    (labels-output value entries.first entries.here)

pub labels-meant : (value : Data) (found : Option (List Pair)) → optional (codes "labels") label_map value ≡ Ok found → AreLabelsOf value (unwrap_or found [])
labels-meant value found is = λ key. by key (member_of (codes "labels") value) found (optional-output label_map (codes "labels") value found is)
  where
    by : (key : List ℕ) (member : Option Data) (found : Option (List Pair)) → IsReadOf label_map member found →
        value_of (unwrap_or found []) key ≡ last_text (unwrap_or (as_object (unwrap_or member (object no_members))) no_members) key
    by key None None is = refl
    by key None (Some read) is = absurd is
    by key (Some one) None is = absurd is
    by key (Some one) (Some read) is = label_map-meant one read is key
