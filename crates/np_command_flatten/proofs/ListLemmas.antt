-- The text of a list of policies. For `flat_policies_are_read_again`, `lists_are_their_policies_joined` and `policies_are_read_again`.
use Rattle.std.proofs.Common.{◌≡◌, ℕ, List, [], ◌∷◌, ◌++◌, true, false, map, flat_map, Some, codes, refl, sym, ap, ◌∙◌, arith, append_assoc}
use Rattle.std.proofs.lemmas.Str.{IsUtf8-append}
use Rattle.std.specs.List.{join_by, list_all}
use Rattle.json.proofs.Printed.Utf8.{IsUtf8-are_ascii}
use Rattle.json.specs.Print.{escape_byte}
use Rattle.serde_json.specs.Data.{Data, string}
use Rattle.serde_json.specs.View.{items_of}
use Rattle.serde_json.specs.Written.{compact_text, items_text}
use Rattle.np_written.specs.Values.{object_with, list_with}
use Rattle.np_items.specs.Prelude.{json_of}
use Rattle.np_command_flatten.specs.Prelude.{NetPolicy, is_printable}
use Rattle.np_manifests.specs.Lists.{list_data, list_line, manifest_text, policy_text}
use Rattle.np_manifests.specs.Manifests as manifests
use Rattle.np_command_flatten.proofs.LineLemmas.{tokens-line}
use Rattle.np_command_flatten.proofs.PrintedLemmas.{policy-readable}
use Rattle.np_command_flatten.proofs.ReadableLemmas.{Entry, IsReadable, json_of-same_tokens, list-readable, object-readable, string-readable}
use Rattle.np_command_flatten.proofs.ShapeLemmas.{all-mapped, all-passed}

-- ---- reading

list_data-readable : (policies : List NetPolicy) → list_all is_printable policies ≡ true → IsReadable 12 (list_data policies)
list_data-readable policies all =
    let entries : List Entry = (codes "apiVersion", string (codes "v1")) ∷ (codes "items", list_with (map manifests.policy policies)) ∷ (codes "kind", string (codes "List")) ∷ [] in
    let items = list-readable 10 (map manifests.policy policies) (all-mapped (IsReadable 10) manifests.policy policies
    (all-passed is_printable (λ one. IsReadable 10 (manifests.policy one)) policy-readable policies all)) in
    object-readable 11 entries refl (string-readable 11 (codes "v1") (IsUtf8-are_ascii _ refl), (items, (string-readable 11 (codes "List") (IsUtf8-are_ascii _ refl), tt)))

pub json_of-list_text : (policies : List NetPolicy) → list_all is_printable policies ≡ true → json_of (manifest_text policies) ≡ Some (list_data policies)
unfolding manifest_text
json_of-list_text policies all =
    let readable = list_data-readable policies all in
    json_of-same_tokens 12 (list_data policies) (compact_text (list_data policies)) (omega arith) readable readable.utf8 refl

pub json_of-list_line : (policies : List NetPolicy) → list_all is_printable policies ≡ true → json_of (list_line policies) ≡ Some (list_data policies)
unfolding manifest_text
json_of-list_line policies all =
    let value = list_data policies in
    let readable = list_data-readable policies all in
    let utf8 = IsUtf8-append (compact_text value) (codes "\n") readable.utf8 (IsUtf8-are_ascii (codes "\n") refl) in
    json_of-same_tokens 12 value (compact_text value ++ codes "\n") (omega arith) readable utf8 (tokens-line value readable.numbers)

-- ---- one policy after another

-- items behind the first, each behind a comma
items-behind : {X : Type 0} (f : X → Data) (xs : List X) → items_text true (items_of (map f xs)) ≡ flat_map (λ x. codes "," ++ compact_text (f x)) xs ++ codes "]"
items-behind f [] = refl
items-behind f (x ∷ xs) = rw (items-behind f xs) (ap (λ (text : List ℕ). 44 ∷ text) (sym (append_assoc (compact_text (f x)) _ (codes "]"))))

items-joined : {X : Type 0} (f : X → Data) (xs : List X) → items_text false (items_of (map f xs)) ≡ join_by (λ x. compact_text (f x)) (codes ",") xs ++ codes "]"
items-joined f [] = refl
items-joined f (x ∷ xs) = rw (items-behind f xs) (sym (append_assoc (compact_text (f x)) _ (codes "]")))

list-spelled : (values : List Data) → compact_text (object_with ((codes "apiVersion", string (codes "v1")) ∷ (codes "items", list_with values) ∷ (codes "kind", string (codes "List")) ∷ []))
    ≡ codes "{\"apiVersion\":\"v1\",\"items\":[" ++ (items_text false (items_of values) ++ codes ",\"kind\":\"List\"}")
unfolding escape_byte
list-spelled values = refl

pub list_text-joined : (policies : List NetPolicy) → manifest_text policies ≡ codes "{\"apiVersion\":\"v1\",\"items\":[" ++ join_by policy_text (codes ",") policies ++ codes "],\"kind\":\"List\"}"
unfolding manifest_text policy_text
list_text-joined policies =
    let front = codes "{\"apiVersion\":\"v1\",\"items\":[" in
    let joined = join_by (λ one. compact_text (manifests.policy one)) (codes ",") policies in
    list-spelled (map manifests.policy policies)
    ∙ ap (λ (text : List ℕ). front ++ (text ++ codes ",\"kind\":\"List\"}")) (items-joined manifests.policy policies)
    ∙ ap (λ (text : List ℕ). front ++ text) (append_assoc joined (codes "]") (codes ",\"kind\":\"List\"}"))
    ∙ sym (append_assoc front joined (codes "],\"kind\":\"List\"}"))
