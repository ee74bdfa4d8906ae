-- The items of the sample. For SampleLemmas and SizeLemmas.
use Rattle.std.proofs.Common.{◌≡◌, ℕ, ◌+◌, ◌≤◌, List, [], ◌∷◌, length, Some, Ok, refl, arith, append-nil, le-leb, length-append}
use Rattle.std.proofs.lemmas.List.FromFn.{length-map-range_with_len}
use Rattle.std.specs.List.{AllByRecursion, AllZip}
use Rattle.serde_json.specs.Data.{Data}
use Rattle.np_items.specs.Prelude.{input_values, item_of, items_by, items_from, items_in, items_of, json_of, must_be_few, values}
use Rattle.np_command_sample.specs.Prelude.{Item}
use Rattle.np_items.proofs.InputLemmas.{values-items_of}
use Rattle.np_sample.specs.Prelude.{list_object, sample_admin_policy, sample_namespace, sample_net_policy, sample_objects, sample_pod, sample_text, sample_value}
use Rattle.np_command_sample.proofs.ItemLemmas.{item_of-namespace, item_of-pod}
use Rattle.np_sample.proofs.ListLemmas.{all-four}
use Rattle.np_command_sample.proofs.LaterLemmas.{zip-four}
use Rattle.np_command_sample.proofs.PolicyLemmas.{item_of-admin_policy, net_policies_read}
use Rattle.np_command_sample.proofs.TextLemmas.{json_of-sample_text}
use Rattle.np_command_sample.proofs.Items.{admin_policy_item, namespace_item, net_policy_item, pod_item, sample_items}

-- what holds of each of them
pub all-items : (P : Item → Type 0) (n : ℕ) → ((j : ℕ) → P (namespace_item j)) → ((i : ℕ) → P (pod_item i)) → ((j : ℕ) → P (net_policy_item j)) → P admin_policy_item →
    AllByRecursion P (sample_items n)
all-items P n namespaces pods policies admin = all-four P namespace_item pod_item net_policy_item admin_policy_item n (λ j within. namespaces j) (λ i within. pods i) (λ j within. policies j) admin

-- ---- read one after another

abbrev IsReadAs : Data → Item → Type 0
IsReadAs value one = (number : ℕ) → item_of number value ≡ Ok one

each_item-read : (values : List Data) (items : List Item) → AllZip IsReadAs values items → (number : ℕ) → items_from number values ≡ Ok items
each_item-read [] [] all number = refl
each_item-read [] (one ∷ items) all number = absurd all
each_item-read (value ∷ values) [] all number = absurd all
each_item-read (value ∷ values) (one ∷ items) all number = rw (all.0 number, each_item-read values items all.1 (number + 1)) refl

objects_read : (n : ℕ) → n ≤ 1000 → AllZip IsReadAs (sample_objects n) (sample_items n)
objects_read n few =
    let policies = net_policies_read in
    zip-four IsReadAs sample_namespace sample_pod sample_net_policy sample_admin_policy namespace_item pod_item net_policy_item admin_policy_item n (λ j within number. item_of-namespace number j within)
    (λ i within number. item_of-pod number i (omega arith))
    (policies.0, (policies.1, (policies.2, (policies.3, (policies.4, tt))))) item_of-admin_policy

-- ---- the whole

pub length-objects : (n : ℕ) → length (sample_objects n) ≡ n + 11
length-objects n =
    simp length-append (omega (arith, length-map-range_with_len sample_pod 0 n))

list_gives : (objects : List Data) → items_in 1 (list_object objects) ≡ Ok objects
unfolding items_in items_by
list_gives objects = rw (values-items_of objects) refl

-- one input
items_of-one : (text : List ℕ) (value : Data) (objects : List Data) (items : List Item) → json_of text ≡ Some value → items_in 1 value ≡ Ok objects → length objects ≤ 20000 →
    items_from 1 objects ≡ Ok items → items_of (text ∷ []) ≡ Ok items
unfolding items_of input_values must_be_few
items_of-one text value objects items parsed listed few read =
    rw (parsed, listed, append-nil objects, le-leb (length objects) 20000 few, read) refl

pub items_of-sample : (n : ℕ) → n ≤ 1000 → items_of (sample_text n ∷ []) ≡ Ok (sample_items n)
items_of-sample n few =
    let all = sample_objects n in
    items_of-one (sample_text n) (sample_value n) all (sample_items n) (json_of-sample_text n few) (list_gives all) (omega (arith, length-objects n))
    (each_item-read all (sample_items n) (objects_read n few) 1)
