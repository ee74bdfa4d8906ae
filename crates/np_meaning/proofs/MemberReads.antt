-- What was read of a member that must be there, and of each item of a list. For AdminMeant, ControllerMeant and 12 more.
use Rattle.std.proofs.Common.{◌≡◌, ℕ, ℤ, pos, negsuc, ◌+◌, List, [], ◌∷◌, Bool, true, false, not, cond, ◌&&◌, nat_le, Option, Some, Ok, refl, sym, ap, subst, ◌∙◌}
use Rattle.std.specs.List.{list_any}
use Rattle.serde_json.specs.Data.{Data, Items, no_items, item}
use Rattle.serde_json.specs.Find.{as_str}
use Rattle.np_json.specs.Prelude.{Read, as_whole, each_item, listed, member_of, name, of_type, port, port_number, refuse, refuse_if, required, text, whole, word, ◌>>◌}
use Rattle.np_model.specs.Prelude.{is_name, is_word}
use Rattle.np_meaning.specs.Prelude.{BadField, BadName, BadPort, IsReadOf, any_item, number_at, object_at, text_at}
use Rattle.np_policies.proofs.ReadLemmas.{bind-output, then-output, required-output, listed-output, each_item-output, or_refuse-output}
use Rattle.np_meaning.specs.PolicyMeaning.{AreEach}
use Rattle.np_policies.specs.Prelude.{items_at}

-- a value of its type
pub of_type-output : {A : Type 0} (found : Option A) (output : A) → of_type found ≡ Ok output → found ≡ Some output
of_type-output found output is = or_refuse-output BadField found output is

-- a word is a text
pub word-output : (value : Data) (s : List ℕ) → word value ≡ Ok s → as_str value ≡ Some s
unfolding word
word-output value s is =
    let read = bind-output (text value) (λ s. refuse_if (not (is_word s)) BadField >> Ok s) s is in
    let same : Ok read.first ≡ Ok s = then-output (refuse_if (not (is_word read.first)) BadField) (Ok read.first) s read.after in
    let first : read.first ≡ s = cc in
    of_type-output (as_str value) read.first read.here ∙ ap Some first

-- a number of a port is the number of its value
pub port_number-whole : (n : ℤ) (m : ℕ) → port_number n ≡ Ok m → n ≡ pos m
port_number-whole (pos n) m is = by (nat_le 1 n && nat_le n 65535) is
  where
    by : (b : Bool) → cond b (Ok n) (refuse BadPort) ≡ Ok m → pos n ≡ pos m
    by true is = let same : n ≡ m = cc in ap pos same
    by false is = cc
port_number-whole (negsuc n) m is = cc

pub port-whole : (value : Data) (n : ℕ) → port value ≡ Ok n → as_whole value ≡ Some (pos n)
unfolding port
port-whole value n is =
    let read = bind-output (whole value) port_number n is in
    of_type-output (as_whole value) read.first read.here ∙ ap Some (port_number-whole read.first n read.after)

-- a required text is the text of its member
pub text_at-output : (shape : Data → Read (List ℕ)) → ((value : Data) (s : List ℕ) → shape value ≡ Ok s → as_str value ≡ Some s) → (name : List ℕ) (value : Data) (s : List ℕ) →
    required name shape value ≡ Ok s → text_at name value ≡ s
text_at-output shape reads name value s is =
    let member = required-output shape name value s is in
    rw (member.there, reads member.found s member.read) refl

-- what was read of a required member was read of the object there
pub object_at-output : {A : Type 0} (shape : Data → Read A) (name : List ℕ) (value : Data) (output : A) → required name shape value ≡ Ok output → shape (object_at name value) ≡ Ok output
object_at-output shape name value output is =
    let member = required-output shape name value output is in
    rw member.there member.read

-- what was read of a required member that is there
pub found-output : {A : Type 0} (shape : Data → Read A) (name : List ℕ) (value found : Data) (output : A) → required name shape value ≡ Ok output → member_of name value ≡ Some found →
    shape found ≡ Ok output
found-output shape name value found output is there =
    let member = required-output shape name value output is in
    let same : member.found ≡ found = let one = member.there in cc in
    subst (λ (d : Data). shape d ≡ Ok output) same member.read

-- a required member is there
pub required-some : {A : Type 0} (shape : Data → Read A) (name : List ℕ) (value : Data) (output : A) → required name shape value ≡ Ok output → IsReadOf shape (member_of name value) (Some output)
required-some shape name value output is =
    let member = required-output shape name value output is in
    rw member.there member.read

module _ {A : Type 0} (shape : Data → Read A) (Is : Data → A → Type 0) (alike : (value : Data) (output : A) → shape value ≡ Ok output → Is value output) where
  AreEach-each_item : (place : ℕ) (items : Items) (outputs : List A) → each_item shape place items ≡ Ok outputs → AreEach Is items outputs
  AreEach-each_item place no_items [] is = tt
  AreEach-each_item place no_items (output ∷ outputs) is = cc
  AreEach-each_item place (item value items) outputs is =
      let each = each_item-output shape place value items outputs is in
      subst (AreEach Is (item value items)) (sym each.are) (alike value each.output each.here, AreEach-each_item (place + 1) items each.more each.others)

  pub AreEach-listed : (name : List ℕ) (value : Data) (outputs : List A) → listed name shape value ≡ Ok outputs → AreEach Is (items_at name value) outputs
  AreEach-listed name value outputs is = AreEach-each_item 0 (items_at name value) outputs (listed-output shape name value outputs is)

-- a number that was read is that of its member
pub number_at-output : (shape : Data → Read ℕ) → ((value : Data) (n : ℕ) → shape value ≡ Ok n → as_whole value ≡ Some (pos n)) → (name : List ℕ) (value : Data) (n : ℕ) →
    required name shape value ≡ Ok n → number_at name value ≡ Some (pos n)
number_at-output shape reads name value n is =
    let member = required-output shape name value n is in
    rw member.there (reads member.found n member.read)

pub name-output : (value : Data) (s : List ℕ) → name value ≡ Ok s → as_str value ≡ Some s
unfolding name
name-output value s is =
    let read = bind-output (text value) (λ s. refuse_if (not (is_name s)) BadName >> Ok s) s is in
    let same : Ok read.first ≡ Ok s = then-output (refuse_if (not (is_name read.first)) BadName) (Ok read.first) s read.after in
    let first : read.first ≡ s = cc in
    of_type-output (as_str value) read.first read.here ∙ ap Some first

module _ {A : Type 0} (shape : Data → Read A) (on_output : A → Bool) (on_item : Data → Bool) (alike : (value : Data) (output : A) → shape value ≡ Ok output → on_output output ≡ on_item value) where
  -- a test of the outputs is a test of the items
  pub list_any-each_item : (place : ℕ) (items : Items) (outputs : List A) → each_item shape place items ≡ Ok outputs → list_any on_output outputs ≡ any_item on_item items
  list_any-each_item place no_items [] is = refl
  list_any-each_item place no_items (output ∷ outputs) is = cc
  list_any-each_item place (item value items) outputs is =
      let each = each_item-output shape place value items outputs is in
      let first = alike value each.output each.here in
      let others = list_any-each_item (place + 1) items each.more each.others in
      rw (each.are, first, others) refl
