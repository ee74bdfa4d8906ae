-- What follows from a shape having read an output. For ControllerMeant, IngressMeant and 5 more.
use Rattle.std.proofs.Common.{◌≡◌, ℕ, pos, ◌+◌, List, [], ◌∷◌, Bool, false, Option, Some, None, unwrap_or, Ok, refl, sym, subst}
use Rattle.serde_json.specs.Data.{Data, object, Items, no_items, item, no_members}
use Rattle.serde_json.specs.Find.{as_array, as_bool, as_str}
use Rattle.np_items.specs.Prelude.{values}
use Rattle.np_json.specs.Prelude.{Read, each_item, flag, list_by, listed, member_of, name, optional, port, read_member, required, text, under, ◌>>=◌}
use Rattle.np_json.specs.declared.path.Step.TheVariants.{Field, Item}
use Rattle.np_json.proofs.ReadLemmas.{under-output}
use Rattle.np_policies.proofs.ReadLemmas as reading
use Rattle.np_policies.proofs.ReadLemmas.{IsOptional, bind-output}
use Rattle.np_meaning.proofs.MemberReads.{of_type-output, object_at-output, port-whole}
use Rattle.np_meaning.specs.EachPod.{AreEach}
use Rattle.np_meaning.specs.Prelude.{IsReadOf, is_true_at, list_at, number_at, object_at, text_at}

-- what a definition of a reading gives
abbrev pub OutputOf : {A : Type 0} → (Data → Read A) → Type 0
OutputOf {A} read = A

-- a member that may be missing is, or was read as its output
pub IsReadOf-optional : {A : Type 0} (shape : Data → Read A) (member : Option Data) (output : Option A) → IsOptional shape member output → IsReadOf shape member output
IsReadOf-optional shape member None is = subst (λ (found : Option Data). IsReadOf shape found None) (sym is) tt
IsReadOf-optional shape member (Some output) is = subst (λ (found : Option Data). IsReadOf shape found (Some output)) (sym is.there) is.read

pub optional-output : {A : Type 0} (shape : Data → Read A) (name : List ℕ) (value : Data) (output : Option A) → optional name shape value ≡ Ok output → IsReadOf shape (member_of name value) output
optional-output shape name value output is = IsReadOf-optional shape (member_of name value) output (reading.optional-output shape name value output is)

-- ---- lists

-- the items of a list were each read, in order
abbrev pub AreReadOf : {A : Type 0} → (Data → Read A) → List Data → List A → Type 0
AreReadOf shape = AreEach (λ value output. shape value ≡ Ok output)

each_item-output : {A : Type 0} (shape : Data → Read A) (place : ℕ) (items : Items) (outputs : List A) → each_item shape place items ≡ Ok outputs → AreReadOf shape (values items) outputs
each_item-output shape place no_items [] is = tt
each_item-output shape place no_items (output ∷ outputs) is = cc
each_item-output shape place (item value items) outputs is =
    let first = bind-output (under (Item place) (shape value)) (λ output. each_item shape (place + 1) items >>= λ more. Ok (output ∷ more)) outputs is in
    let second = bind-output (each_item shape (place + 1) items) (λ more. Ok (first.first ∷ more)) outputs first.after in
    let are : first.first ∷ second.first ≡ outputs = let after = second.after in cc in
    subst (AreReadOf shape (value ∷ values items)) are (under-output (Item place) (shape value) first.first first.here, each_item-output shape (place + 1) items second.first second.here)

pub listed-output : {A : Type 0} (shape : Data → Read A) (name : List ℕ) (value : Data) (outputs : List A) → listed name shape value ≡ Ok outputs → AreReadOf shape (list_at name value) outputs
unfolding listed
listed-output shape name value outputs is = each_item-output shape 0 _ outputs
    (by (member_of name value) (under-output (Field name) (read_member (Ok []) (λ found. list_by shape (as_array found)) (member_of name value)) outputs is))
  where
    by_items : (found : Option Items) → list_by shape found ≡ Ok outputs → each_item shape 0 (unwrap_or found no_items) ≡ Ok outputs
    by_items None is = cc
    by_items (Some items) is = is

    by : (member : Option Data) → read_member (Ok []) (λ found. list_by shape (as_array found)) member ≡ Ok outputs →
        each_item shape 0 (unwrap_or (as_array (unwrap_or member (object no_members))) no_items) ≡ Ok outputs
    by None is = is
    by (Some found) is = by_items (as_array found) is

-- what was read of each is so of each
pub AreEach-weaker : {A : Type 0} (Is Has : Data → A → Type 0) → ((value : Data) (output : A) → Is value output → Has value output) → (values : List Data) (outputs : List A) →
    AreEach Is values outputs → AreEach Has values outputs
AreEach-weaker Is Has so [] [] are = tt
AreEach-weaker Is Has so [] (output ∷ outputs) are = are
AreEach-weaker Is Has so (value ∷ values) [] are = are
AreEach-weaker Is Has so (value ∷ values) (output ∷ outputs) are = (so value output are.0, AreEach-weaker Is Has so values outputs are.1)

pub each-output : {A : Type 0} (shape : Data → Read A) (Has : Data → A → Type 0) → ((value : Data) (output : A) → shape value ≡ Ok output → Has value output) →
    (name : List ℕ) (value : Data) (outputs : List A) → listed name shape value ≡ Ok outputs → AreEach Has (list_at name value) outputs
each-output shape Has so name value outputs is = AreEach-weaker (λ d output. shape d ≡ Ok output) Has so (list_at name value) outputs (listed-output shape name value outputs is)

-- ---- scalars

pub text-output : (value : Data) (s : List ℕ) → text value ≡ Ok s → as_str value ≡ Some s
text-output value s is = of_type-output (as_str value) s is

-- the number of a required member
pub number_at-required : (name : List ℕ) (value : Data) (n : ℕ) → required name port value ≡ Ok n → number_at name value ≡ Some (pos n)
number_at-required name value n is = port-whole (object_at name value) n (object_at-output port name value n is)

-- the text of a member that may be missing
pub text_at-optional : (name : List ℕ) (value : Data) (found : Option (List ℕ)) → optional name text value ≡ Ok found → text_at name value ≡ unwrap_or found []
text_at-optional name value found is = by (member_of name value) found (optional-output text name value found is)
  where
    by : (member : Option Data) (found : Option (List ℕ)) → IsReadOf text member found → unwrap_or (as_str (unwrap_or member (object no_members))) [] ≡ unwrap_or found []
    by None None is = refl
    by None (Some s) is = absurd is
    by (Some one) None is = absurd is
    by (Some one) (Some s) is = rw (text-output one s is) refl

-- the flag of a member that may be missing
pub is_true_at-optional : (name : List ℕ) (value : Data) (found : Option Bool) → optional name flag value ≡ Ok found → unwrap_or found false ≡ is_true_at name value
is_true_at-optional name value found is = by (member_of name value) found (optional-output flag name value found is)
  where
    by : (member : Option Data) (found : Option Bool) → IsReadOf flag member found → unwrap_or found false ≡ unwrap_or (as_bool (unwrap_or member (object no_members))) false
    by None None is = refl
    by None (Some b) is = absurd is
    by (Some one) None is = absurd is
    by (Some one) (Some b) is = rw (of_type-output (as_bool one) b is) refl
