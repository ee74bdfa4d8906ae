-- What is read of members that are as shapes ask. For ValidAdminReads, ValidControllerReads and 8 more.
use Rattle.std.proofs.Common.{◌≡◌, ℕ, ◌+◌, List, [], ◌∷◌, Option, Some, None, Ok, refl, subst, ◌==◌, length, arith, false}
use Rattle.std.proofs.lemmas.Bool.Decides.{nat_tests}
use Rattle.std.specs.List.{AllByRecursion}
use Rattle.serde_json.specs.Data.{Data, Items, no_items, item}
use Rattle.serde_json.specs.Find.{as_array}
use Rattle.np_json.specs.Prelude.{Read, each_item, given, list_by, listed, member_of, must_be_object, optional, read_member, refuse, refuse_if, required, under, ◌>>=◌, ◌>>◌}
use Rattle.np_json.specs.declared.fault.FaultKind.TheVariants.{BadField}
use Rattle.np_json.specs.declared.path.Step.TheVariants.{Field, Item}
use Rattle.np_meaning.specs.ValidMembers.{AreAll, Has, IsListOf, IsObject, MayHave}
use Rattle.np_meaning.specs.ValidPolicies.{IsEmptyList, IsSomeOf}

-- something is read
abbrev pub Reads : {A : Type 0} → Read A → Type 0
Reads {A} read = (output : A) × (read ≡ Ok output)

pub bind-reads : {A B : Type 0} (read : Read A) (rest : A → Read B) → Reads read → ((output : A) → read ≡ Ok output → Reads (rest output)) → Reads (read >>= rest)
bind-reads read rest here after = let more = after here.0 here.1 in (more.0, rw here.1 more.1)

pub then-reads : {A B : Type 0} (read : Read A) (rest : Read B) → Reads read → Reads rest → Reads (read >> rest)
then-reads read rest here after = (after.0, rw here.1 after.1)

pub ends-reads : {A : Type 0} (output : A) → Reads (Ok output)
ends-reads output = (output, refl)

under-reads : {A : Type 0} (step : _) (read : Read A) → Reads read → Reads (under step read)
unfolding under
under-reads step read here = (here.0, rw here.1 refl)

pub object-reads : (value : Data) → IsObject value → Reads (must_be_object value)
unfolding must_be_object refuse_if
object-reads value is = (tt, rw is.1 refl)

module _ {A : Type 0} (shape : Data → Read A) (Is : Data → Type 0) (reads : (value : Data) → Is value → Reads (shape value)) where
  pub required-reads : (name : List ℕ) (value : Data) → Has name Is value → Reads (required name shape value)
  unfolding required
  required-reads name value has = under-reads (Field name) (read_member (refuse BadField) shape (member_of name value)) (let here = reads has.0 has.2 in (here.0, rw has.1 here.1))

  pub optional-reads : (name : List ℕ) (value : Data) → MayHave name Is value → Reads (optional name shape value)
  unfolding optional
  optional-reads name value may = under-reads (Field name) (read_member (Ok None) (λ found. given (shape found)) (member_of name value)) (by (member_of name value) refl)
    where
      by : (member : Option Data) → member_of name value ≡ member → Reads (read_member (Ok None) (λ found. given (shape found)) member)
      by None is = (None, refl)
      by (Some found) is = let here = reads found (may found is) in (Some here.0, rw here.1 refl)

  each-reads : (place : ℕ) (items : Items) → AreAll Is items → Reads (each_item shape place items)
  each-reads place no_items all = ([], refl)
  each-reads place (item value items) all =
      let first = under-reads (Item place) (shape value) (reads value all.0) in
      let others = each-reads (place + 1) items all.1 in
      (first.0 ∷ others.0, rw (first.1, others.1) refl)

  pub list-reads : (value : Data) → IsListOf Is value → Reads (list_by shape (as_array value))
  list-reads value is = let all = each-reads 0 is.0 is.2 in (all.0, rw is.1 all.1)

  pub listed-reads : (name : List ℕ) (value : Data) → MayHave name (IsListOf Is) value → Reads (listed name shape value)
  unfolding listed
  listed-reads name value may = under-reads (Field name) (read_member (Ok []) (λ found. list_by shape (as_array found)) (member_of name value)) (by (member_of name value) refl)
    where
      by : (member : Option Data) → member_of name value ≡ member → Reads (read_member (Ok []) (λ found. list_by shape (as_array found)) member)
      by None is = ([], refl)
      by (Some found) is = list-reads found (may found is)

  -- a list of at least one item, and one of none
  pub some-reads : (name : List ℕ) (value : Data) → Has name (IsSomeOf Is) value → (first : A) × (others : List A) × (listed name shape value ≡ Ok (first ∷ others))
  unfolding listed under
  some-reads name value has =
      let some = has.2 in
      let first = under-reads (Item 0) (shape some.0) (reads some.0 some.3) in
      let others = each-reads 1 some.1 some.4 in
      (first.0, others.0, rw (has.1, some.2, first.1, others.1) refl)

  pub empty-reads : (name : List ℕ) (value : Data) → MayHave name IsEmptyList value → listed name shape value ≡ Ok []
  unfolding listed under
  empty-reads name value may = by (member_of name value) refl
    where
      by : (member : Option Data) → member_of name value ≡ member → under (Field name) (read_member (Ok []) (λ found. list_by shape (as_array found)) member) ≡ Ok []
      by None is = refl
      by (Some found) is = rw (may found is) refl

-- a member that is there is read as its shape reads it, and one that is missing as nothing
pub there-read : {A : Type 0} (shape : Data → Read A) (name : List ℕ) (value found : Data) (output : A) → member_of name value ≡ Some found → shape found ≡ Ok output
    → required name shape value ≡ Ok output
unfolding required under
there-read shape name value found output there is = rw (there, is) refl

pub given-read : {A : Type 0} (shape : Data → Read A) (name : List ℕ) (value found : Data) (output : A) → member_of name value ≡ Some found → shape found ≡ Ok output
    → optional name shape value ≡ Ok (Some output)
unfolding optional under
given-read shape name value found output there is = rw (there, is) refl

pub none-read : {A : Type 0} (shape : Data → Read A) (name : List ℕ) (value : Data) → member_of name value ≡ None → optional name shape value ≡ Ok None
unfolding optional under
none-read shape name value none = rw none refl

-- a list with an item is not empty
pub not_none : {A : Type 0} (first : A) (others : List A) → (length (first ∷ others) == 0) ≡ false
not_none first others = grind (arith, nat_tests)

-- a member that is there may be there
pub may-have : (Is : Data → Type 0) (name : List ℕ) (value : Data) → Has name Is value → MayHave name Is value
may-have Is name value has = λ found there. let same : has.0 ≡ found = let here = has.1 in cc in subst Is same has.2

-- each item is read as something that is so
module _ {A : Type 0} (shape : Data → Read A) (Is : Data → Type 0) (So : A → Type 0) (reads : (value : Data) → Is value → (output : A) × (shape value ≡ Ok output) × So output) where
  each-reads_so : (place : ℕ) (items : Items) → AreAll Is items → (outputs : List A) × (each_item shape place items ≡ Ok outputs) × AllByRecursion So outputs
  unfolding under
  each-reads_so place no_items all = ([], refl, tt)
  each-reads_so place (item value items) all =
      let first = reads value all.0 in
      let others = each-reads_so (place + 1) items all.1 in
      (first.0 ∷ others.0, rw (first.1, others.1) refl, (first.2, others.2))

  pub listed-reads_so : (name : List ℕ) (value : Data) → MayHave name (IsListOf Is) value → (outputs : List A) × (listed name shape value ≡ Ok outputs) × AllByRecursion So outputs
  unfolding listed under
  listed-reads_so name value may = by (member_of name value) refl
    where
      by : (member : Option Data) → member_of name value ≡ member
          → (outputs : List A) × (under (Field name) (read_member (Ok []) (λ found. list_by shape (as_array found)) member) ≡ Ok outputs) × AllByRecursion So outputs
      by None is = ([], refl, tt)
      by (Some found) is =
          let list = may found is in
          let all = each-reads_so 0 list.0 list.2 in
          (all.0, rw (list.1, all.1) refl, all.2)
