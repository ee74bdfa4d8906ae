-- What follows from a shape having read an output. For WellAdmin, WellLemmas and 3 more.
use Rattle.std.proofs.Common.{◌≡◌, ℕ, ◌+◌, List, [], ◌∷◌, Bool, Option, Some, None, option_and_then, unwrap_or, Result, Ok, Err, refl, ap, ◌∙◌}
use Rattle.std.specs.List.{list_all}
use Rattle.serde_json.specs.Data.{Data, Items, no_items, item}
use Rattle.serde_json.specs.Find.{as_array}
use Rattle.np_json.specs.Prelude.{Read, each_item, given, list_by, listed, member_of, optional, or_refuse, read_member, refuse, required, under, ◌>>=◌, ◌>>◌}
use Rattle.np_policies.specs.Prelude.{BadField, FaultKind, Field, Item, all_items, items_at}
use Rattle.np_json.proofs.ReadLemmas.{under-output}

-- what a line gave, and that the lines after it gave the output
pub record IsRead {A B E : Type 0} (read : Result A E) (rest : A → Result B E) (output : B) : Type 0 where
  pub first : A
  pub here : read ≡ Ok first
  pub after : rest first ≡ Ok output

pub bind-output : {A B E : Type 0} (read : Result A E) (rest : A → Result B E) (output : B) → (read >>= rest) ≡ Ok output → IsRead read rest output
bind-output (Ok first) rest output is = record { first = first; here = refl; after = is }
bind-output (Err flaw) rest output is = cc

pub then-output : {A B E : Type 0} (read : Result A E) (rest : Result B E) (output : B) → (read >> rest) ≡ Ok output → rest ≡ Ok output
then-output (Ok first) rest output is = is
then-output (Err flaw) rest output is = cc

-- a member that is there, and that the shape read it as the output
pub record IsMemberRead {A : Type 0} (shape : Data → Read A) (member : Option Data) (output : A) : Type 0 where
  pub found : Data
  pub there : member ≡ Some found
  pub read : shape found ≡ Ok output

pub required-output : {A : Type 0} (shape : Data → Read A) (name : List ℕ) (value : Data) (output : A) → required name shape value ≡ Ok output → IsMemberRead shape (member_of name value) output
unfolding required
required-output shape name value output is = by (member_of name value) (under-output (Field name) (read_member (refuse BadField) shape (member_of name value)) output is)
  where
    by : (member : Option Data) → read_member (refuse BadField) shape member ≡ Ok output → IsMemberRead shape member output
    by None is = cc
    by (Some found) is = record { found = found; there = refl; read = is }

-- a member that may be missing was read as its output, or is missing
abbrev pub IsOptional : {A : Type 0} → (Data → Read A) → Option Data → Option A → Type 0
IsOptional shape member None = member ≡ None
IsOptional shape member (Some output) = IsMemberRead shape member output

given-output : {A : Type 0} (shape : Data → Read A) (found : Data) (read : Read A) (output : Option A) → shape found ≡ read → given read ≡ Ok output → IsOptional shape (Some found) output
given-output shape found (Ok other) None here is = cc
given-output shape found (Ok other) (Some output) here is =
    let same : other ≡ output = cc in
    record { found = found; there = refl; read = here ∙ ap Ok same }
given-output shape found (Err flaw) output here is = cc

pub optional-output : {A : Type 0} (shape : Data → Read A) (name : List ℕ) (value : Data) (output : Option A) → optional name shape value ≡ Ok output → IsOptional shape (member_of name value) output
unfolding optional
optional-output shape name value output is = by (member_of name value) output (under-output (Field name) (read_member (Ok None) (λ found. given (shape found)) (member_of name value)) output is)
  where
    by : (member : Option Data) (output : Option _) → read_member (Ok None) (λ found. given (shape found)) member ≡ Ok output → IsOptional shape member output
    by None None is = refl
    by None (Some other) is = cc
    by (Some found) output is = given-output shape found (shape found) output refl is

-- the items of a list, none of which were missing, were each read
pub listed-output : {A : Type 0} (shape : Data → Read A) (name : List ℕ) (value : Data) (outputs : List A) → listed name shape value ≡ Ok outputs → each_item shape 0 (items_at name value) ≡ Ok outputs
unfolding listed
listed-output shape name value outputs is = by (member_of name value) (under-output (Field name) (read_member (Ok []) (λ found. list_by shape (as_array found)) (member_of name value)) outputs is)
  where
    by_items : (found : Option Items) → list_by shape found ≡ Ok outputs → each_item shape 0 (unwrap_or found no_items) ≡ Ok outputs
    by_items None is = cc
    by_items (Some items) is = is

    by : (member : Option Data) → read_member (Ok []) (λ found. list_by shape (as_array found)) member ≡ Ok outputs →
        each_item shape 0 (unwrap_or (option_and_then as_array member) no_items) ≡ Ok outputs
    by None is = is
    by (Some found) is = by_items (as_array found) is

-- the first item and the others were read
pub record IsEachRead {A : Type 0} (shape : Data → Read A) (place : ℕ) (value : Data) (items : Items) (outputs : List A) : Type 0 where
  pub output : A
  pub more : List A
  pub here : shape value ≡ Ok output
  pub others : each_item shape (place + 1) items ≡ Ok more
  pub are : outputs ≡ output ∷ more

pub each_item-output : {A : Type 0} (shape : Data → Read A) (place : ℕ) (value : Data) (items : Items) (outputs : List A) → each_item shape place (item value items) ≡ Ok outputs →
    IsEachRead shape place value items outputs
each_item-output shape place value items outputs is =
    let first = bind-output (under (Item place) (shape value)) (λ output. each_item shape (place + 1) items >>= λ more. Ok (output ∷ more)) outputs is in
    let second = bind-output (each_item shape (place + 1) items) (λ more. Ok (first.first ∷ more)) outputs first.after in
    record {
      output = first.first;
      more = second.first;
      here = under-output (Item place) (shape value) first.first first.here;
      others = second.here;
      are = cc;
    }

module _ {A : Type 0} (shape : Data → Read A) (on_output : A → Bool) (on_item : Data → Bool) (alike : (value : Data) (output : A) → shape value ≡ Ok output → on_output output ≡ on_item value) where
  -- a test of the outputs is a test of the items
  pub list_all-each_item : (place : ℕ) (items : Items) (outputs : List A) → each_item shape place items ≡ Ok outputs → list_all on_output outputs ≡ all_items on_item items
  list_all-each_item place no_items [] is = refl
  list_all-each_item place no_items (output ∷ outputs) is = cc
  list_all-each_item place (item value items) outputs is =
      let each = each_item-output shape place value items outputs is in
      let first = alike value each.output each.here in
      let others = list_all-each_item (place + 1) items each.more each.others in
      rw (each.are, first, others) refl

-- what stands for something
pub or_refuse-output : {A : Type 0} (kind : FaultKind) (found : Option A) (output : A) → or_refuse kind found ≡ Ok output → found ≡ Some output
or_refuse-output kind None output is = cc
or_refuse-output kind (Some other) output is = cc
