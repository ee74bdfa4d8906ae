-- Every estate that is read is lawful. For `flat_policies_are_read_again` and crates above.
use Rattle.std.proofs.Common.{◌≡◌, ℕ, suc, ◌+◌, ◌≤◌, List, [], ◌∷◌, length, Option, Some, None, Ok, Err, inl, inr, refl, ap, subst, leb-true}
use Rattle.std.proofs.lemmas.Bool.{cases_Bool}
use Rattle.std.proofs.lemmas.List.Elements.{All-from_recursion}
use Rattle.std.specs.List.{AllByRecursion}
use Rattle.std.specs.Prelude.{nat_le}
use Rattle.serde_json.specs.Data.{Data}
use Rattle.np_model.specs.Prelude.{IsLawful}
use Rattle.np_reading.specs.Prelude.{estate_of, items_refusal}
use Rattle.np_command_flatten.specs.Prelude.{EstateLists, Item}
use Rattle.np_reading.proofs.LawfulReading.{estate_of_items-lawful}
use Rattle.np_reading.proofs.ReadingLemmas.{estate_of-passed}
use Rattle.np_items.specs.Prelude.{IsWellItem, ItemsReading, all_values, item_of, items_from, items_of, must_be_few, must_be_no_list, numbered, policy_or_object}
use Rattle.np_items.specs.declared.fault.ItemsFault.TheVariants.{TooManyItems}
use Rattle.np_items.specs.declared.item.Item.TheVariants as item
use Rattle.np_json.specs.Prelude.{Read, ◌>>◌}
use Rattle.np_objects.proofs.WellLemmas.{object_of-well}
use Rattle.np_objects.specs.Prelude.{object_of}
use Rattle.np_policies.proofs.ReadLemmas.{bind-output, then-output}
use Rattle.np_policies.proofs.WellPolicies.{policy-well}
use Rattle.np_policies.specs.Prelude.{policy_of}
use Rattle.np_policies.specs.declared.policy.Policy.{Policy}
use Rattle.std.specs.Result.{result_map_both}

-- ---- items

numbered-gives : {A : Type 0} (number : ℕ) (read : Read A) (x : A) → numbered number read ≡ Ok x → read ≡ Ok x
numbered-gives number (Ok output) x is = let same : output ≡ x = cc in ap Ok same
numbered-gives number (Err flaw) x is = cc

object-well : (number : ℕ) (value : Data) (one : Item) → policy_or_object number value None ≡ Ok one → IsWellItem one
object-well number value one is =
    let read = bind-output (numbered number (object_of value)) (λ found. Ok (item.Object found)) one is in
    let made = read.after in
    let same : item.Object read.first ≡ one = cc in
    subst IsWellItem same ((object_of-well value).output read.first (numbered-gives number (object_of value) read.first read.here))

item-well : (number : ℕ) (value : Data) (one : Item) → item_of number value ≡ Ok one → IsWellItem one
unfolding item_of
item-well number value one is =
    let read = bind-output (numbered number (policy_of value)) (policy_or_object number value) one (then-output (must_be_no_list number value) _ one is) in
    by read.first (numbered-gives number (policy_of value) read.first read.here) read.after
  where
    by : (found : Option Policy) → policy_of value ≡ Ok found → policy_or_object number value found ≡ Ok one → IsWellItem one
    by None reads made = object-well number value one made
    by (Some policy) reads made = let same : item.Policy policy ≡ one = cc in subst IsWellItem same (policy-well value policy reads)

each-well : (number : ℕ) (values : List Data) (items : List Item) → items_from number values ≡ Ok items → AllByRecursion IsWellItem items × (length items ≡ length values)
each-well number [] items is = let same : [] ≡ items = cc in subst (λ (all : List Item). AllByRecursion IsWellItem all × (length all ≡ 0)) same (tt, refl)
each-well number (value ∷ values) items is =
    let here = bind-output (item_of number value) _ items is in
    let rest = bind-output (items_from (number + 1) values) (λ more. Ok (here.first ∷ more)) items here.after in
    let well = each-well (number + 1) values rest.first rest.here in
    let made = rest.after in
    let same : here.first ∷ rest.first ≡ items = cc in
    subst (λ (all : List Item). AllByRecursion IsWellItem all × (length all ≡ length (value ∷ values))) same ((item-well number value here.first here.here, well.0), ap suc well.1)

few-values : (count : ℕ) (next : ItemsReading (List Item)) (items : List Item) → (must_be_few count >> next) ≡ Ok items → count ≤ 20000
unfolding must_be_few
few-values count next items is =
    elim (cases_Bool (nat_le count 20000)) [
      | inl within ↦ leb-true count 20000 within
      | inr past ↦ let never : (must_be_few count >> next) ≡ Err (TooManyItems count) = rw past refl in cc
    ]

items-well : (texts : List (List ℕ)) (items : List Item) → items_of texts ≡ Ok items → AllByRecursion IsWellItem items × (length items ≤ 20000)
unfolding items_of
items-well texts items is =
    let values = bind-output (all_values texts) _ items is in
    let each = each-well 1 values.first items (then-output (must_be_few (length values.first)) (items_from 1 values.first) items values.after) in
    (each.0, rw each.1 (few-values (length values.first) (items_from 1 values.first) items values.after))

-- ---- the estate

accepted : (read : ItemsReading (List Item)) (items : List Item) → result_map_both (λ items. items) items_refusal read ≡ Ok items → read ≡ Ok items
accepted (Ok found) items is = let same : found ≡ items = cc in ap Ok same
accepted (Err fault) items is = cc

pub estate-lawful : (texts : List (List ℕ)) (lists : EstateLists) → estate_of texts ≡ Ok lists → IsLawful lists
unfolding estate_of
estate-lawful texts lists is =
    let read = bind-output (result_map_both (λ items. items) items_refusal (items_of texts)) _ lists is in
    let items = read.first in
    let accepted_items = accepted (items_of texts) items read.here in
    let well = items-well texts items accepted_items in
    let passed = estate_of-passed texts items lists accepted_items is in
    subst IsLawful passed.2 (estate_of_items-lawful items well.1 (All-from_recursion IsWellItem items well.0) passed.0)
