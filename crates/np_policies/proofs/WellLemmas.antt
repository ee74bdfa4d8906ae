-- What is read by the shapes of selectors, blocks and ports is well formed. For WellAdmin, WellNetwork and crates above.
use Rattle.std.proofs.Common.{◌≡◌, ℕ, ℤ, List, [], ◌∷◌, ◌++◌, length, map, Bool, true, false, not, cond, ◌&&◌, ◌==◌, nat_le, nat_lt, is_none, Option, Some, None, unwrap_or, codes, Ok, refl, ◌∙◌, arith}
use Rattle.std.proofs.lemmas.Bool.Decides.{nat_tests}
use Rattle.std.proofs.lemmas.List.Folds.{list_all-append}
use Rattle.std.specs.List.{list_all}
use Rattle.std.proofs.lemmas.Bool.{not-false, and_from}
use Rattle.serde_json.specs.Data.{Data, Items, no_items, item}
use Rattle.serde_json.specs.Find.{as_object}
use Rattle.np_addr.specs.Prelude.{IsCidr, first_bad_except}
use Rattle.np_policies.specs.Prelude.{AdminPort, BadField, BadPort, BadSelector, Cidr, FaultKind, IpBlock, Name, NetPort, Number, Op, PortValue, Proto, Requirement, Selector, admin_port, admin_port_member, all_items, cidr, container_port_name, end_port, expression, fitting, has_other, ip_block, items_at, key, may_end, named_port, net_port, net_port_by, one_port, op_named, port_number_of, port_range, port_value, port_value_by, protocol, refuse_except, selector}
use Rattle.np_addr.specs.declared.cidr.Cidr.TheVariants.{Four, Six}
use Rattle.np_json.specs.Prelude.{Read, as_pairs, as_whole, has_member, has_one_of, labels, listed, must_be_object, of_type, optional, port, port_number, refuse, refuse_if, refuse_member_if, required, text, under, word, ◌>>◌}
use Rattle.np_model.specs.Prelude.{is_label, is_well_admin_port, is_well_block, is_well_cidr, is_well_net_port, is_whole_word, is_word, is_worded, option_all}
use Rattle.np_labels.proofs.Distinct.{is_empty-distinct, list_all-distinct}
use Rattle.np_labels.specs.Prelude.{distinct-ascends, fits, is_well_requirement, label_requirement, requirement_of}
use Rattle.np_policies.proofs.BlockLemmas.{cidr-well}
use Rattle.np_policies.proofs.ReadLemmas.{bind-output, then-output, required-output, optional-output, listed-output, list_all-each_item}
use Rattle.np_model.specs.WellPolicies.{is_well_selector}
use Rattle.np_model.specs.declared.admin_policy.AdminPort.TheVariants as admin

-- ---- tests

left_of : (a b : Bool) → (a && b) ≡ true → a ≡ true
left_of true b is = refl
left_of false b is = cc

right_of : (a b : Bool) → (a && b) ≡ true → b ≡ true
right_of true b is = is
right_of false b is = cc

-- a rule before what was read is not broken
pub unbroken-output : {B : Type 0} (broken : Bool) (kind : FaultKind) (rest : Read B) (output : B) → (refuse_if broken kind >> rest) ≡ Ok output → broken ≡ false
unfolding refuse_if
unbroken-output true kind rest output is = cc
unbroken-output false kind rest output is = refl

pub unbroken_member-output : {B : Type 0} (name : List ℕ) (broken : Bool) (kind : FaultKind) (rest : Read B) (output : B) → (refuse_member_if name broken kind >> rest) ≡ Ok output → broken ≡ false
unfolding refuse_member_if refuse_if under
unbroken_member-output name true kind rest output is = cc
unbroken_member-output name false kind rest output is = refl

all_pass : (items : Items) → all_items (λ _. true) items ≡ true
all_pass no_items = refl
all_pass (item value items) = all_pass items

module _ {A : Type 0} (shape : Data → Read A) (test : A → Bool) (well : (value : Data) (output : A) → shape value ≡ Ok output → test output ≡ true) where
  pub listed-well : (name : List ℕ) (value : Data) (outputs : List A) → listed name shape value ≡ Ok outputs → list_all test outputs ≡ true
  listed-well name value outputs is =
      list_all-each_item shape test (λ _. true) well 0 (items_at name value) outputs (listed-output shape name value outputs is) ∙ all_pass (items_at name value)

  pub required-well : (name : List ℕ) (value : Data) (output : A) → required name shape value ≡ Ok output → test output ≡ true
  required-well name value output is =
      let read = required-output shape name value output is in
      well read.found output read.read

  pub optional-well : (name : List ℕ) (value : Data) (output : Option A) → optional name shape value ≡ Ok output → option_all test output ≡ true
  optional-well name value None is = refl
  optional-well name value (Some output) is =
      let read = optional-output shape name value (Some output) is in
      well read.found output read.read

-- ---- selectors

key-well : (value : Data) (s : List ℕ) → key value ≡ Ok s → is_whole_word s ≡ true
unfolding key
key-well value s is =
    let read = bind-output (text value) (λ s. refuse_if (not (is_whole_word s)) BadField >> Ok s) s is in
    let test = not-false (is_whole_word read.first) (unbroken-output (not (is_whole_word read.first)) BadField (Ok read.first) s read.after) in
    let end : Ok read.first ≡ Ok s = then-output (refuse_if (not (is_whole_word read.first)) BadField) (Ok read.first) s read.after in
    let same : read.first ≡ s = cc in
    rw (← same) test

word-well : (value : Data) (s : List ℕ) → word value ≡ Ok s → is_word s ≡ true
unfolding word
word-well value s is =
    let read = bind-output (text value) (λ s. refuse_if (not (is_word s)) BadField >> Ok s) s is in
    let test = not-false (is_word read.first) (unbroken-output (not (is_word read.first)) BadField (Ok read.first) s read.after) in
    let end : Ok read.first ≡ Ok s = then-output (refuse_if (not (is_word read.first)) BadField) (Ok read.first) s read.after in
    let same : read.first ≡ s = cc in
    rw (← same) test

-- requirements that are well formed, of words
abbrev is_well_one : Requirement → Bool
is_well_one one = is_well_requirement one && is_worded one

fits-output : (named : Option Op) (has_values : Bool) (op : Op) → fitting named has_values ≡ Ok op → fits op has_values ≡ true
fits-output None has_values op is = cc
fits-output (Some other) has_values op is = by (fits other has_values) refl is
  where
    by : (b : Bool) → fits other has_values ≡ b → cond b (Ok other) (refuse BadSelector) ≡ Ok op → fits op has_values ≡ true
    by true fit is = let same : other ≡ op = cc in rw (← same) fit
    by false fit is = cc

expression-well : (value : Data) (read : Requirement) → expression value ≡ Ok read → is_well_one read ≡ true
unfolding expression
expression-well value read is =
    let past = then-output (must_be_object value) _ read is in
    let name = bind-output (required (codes "key") key value) _ read past in
    let operator = bind-output (required (codes "operator") text value) _ read name.after in
    let values = bind-output (listed (codes "values") word value) _ read operator.after in
    let op = bind-output (fitting (op_named operator.first) (not (length values.first == 0))) (λ op. Ok (requirement_of name.first op values.first)) read values.after in
    let made : requirement_of name.first op.first values.first ≡ read = cc in
    let some = fits-output (op_named operator.first) (not (length values.first == 0)) op.first op.here in
    let first = required-well key is_whole_word key-well (codes "key") value name.first name.here in
    let words = list_all-distinct is_word values.first (listed-well word is_word word-well (codes "values") value values.first values.here) in
    rw (← made) (rw (distinct-ascends values.first, is_empty-distinct values.first, some, first, words) refl)

label-well : (pair : List ℕ × List ℕ) → is_label pair ≡ true → is_well_one (label_requirement pair) ≡ true
label-well pair is = rw (left_of (is_whole_word pair.0) (is_word pair.1) is, right_of (is_whole_word pair.0) (is_word pair.1) is) refl

each_label-well : (pairs : List (List ℕ × List ℕ)) → list_all is_label pairs ≡ true → list_all is_well_one (map label_requirement pairs) ≡ true
each_label-well [] is = refl
each_label-well (pair ∷ pairs) is =
    and_from (is_well_one (label_requirement pair)) (list_all is_well_one (map label_requirement pairs))
    (label-well pair (left_of (is_label pair) (list_all is_label pairs) is)) (each_label-well pairs (right_of (is_label pair) (list_all is_label pairs) is))

labels-well : (value : Data) (pairs : List (List ℕ × List ℕ)) → labels value ≡ Ok pairs → list_all is_label pairs ≡ true
unfolding labels
labels-well value pairs is =
    let read = bind-output (of_type (as_pairs value)) (λ pairs. refuse_if (not (list_all is_label pairs)) BadField >> Ok pairs) pairs is in
    let test = not-false (list_all is_label read.first) (unbroken-output (not (list_all is_label read.first)) BadField (Ok read.first) pairs read.after) in
    let end : Ok read.first ≡ Ok pairs = then-output (refuse_if (not (list_all is_label read.first)) BadField) (Ok read.first) pairs read.after in
    let same : read.first ≡ pairs = cc in
    rw (← same) test

or_none-well : (pairs : Option (List (List ℕ × List ℕ))) → option_all (λ found. list_all is_label found) pairs ≡ true → list_all is_well_one (map label_requirement (unwrap_or pairs [])) ≡ true
or_none-well None is = refl
or_none-well (Some pairs) is = each_label-well pairs is

-- two tests of each requirement are a test of all by either
two_tests : (ones : List Requirement) → list_all is_well_one ones ≡ true → (list_all is_well_requirement ones && list_all is_worded ones) ≡ true
two_tests [] is = refl
two_tests (one ∷ ones) is =
    let here = left_of (is_well_one one) (list_all is_well_one ones) is in
    let more = two_tests ones (right_of (is_well_one one) (list_all is_well_one ones) is) in
    and_from (is_well_requirement one && list_all is_well_requirement ones) (is_worded one && list_all is_worded ones)
    (and_from (is_well_requirement one) (list_all is_well_requirement ones) (left_of (is_well_requirement one) (is_worded one) here)
    (left_of (list_all is_well_requirement ones) (list_all is_worded ones) more))
    (and_from (is_worded one) (list_all is_worded ones) (right_of (is_well_requirement one) (is_worded one) here) (right_of (list_all is_well_requirement ones) (list_all is_worded ones) more))

-- selectors have well formed requirements, of words
pub selector-well : (value : Data) (read : Selector) → selector value ≡ Ok read → is_well_selector read ≡ true
unfolding selector
selector-well value read is =
    let past = then-output (must_be_object value) _ read is in
    let known = then-output (refuse_if (has_other (as_object value)) BadSelector) _ read past in
    let pairs = bind-output (optional (codes "matchLabels") labels value) _ read known in
    let expressions = bind-output (listed (codes "matchExpressions") expression value)
    (λ found. Ok (record { requirements = map label_requirement (unwrap_or pairs.first []) ++ found })) read pairs.after in
    let made : record { requirements = map label_requirement (unwrap_or pairs.first []) ++ expressions.first } ≡ read = cc in
    let first = or_none-well pairs.first (optional-well labels (λ found. list_all is_label found) labels-well (codes "matchLabels") value pairs.first pairs.here) in
    let second = listed-well expression is_well_one expression-well (codes "matchExpressions") value expressions.first expressions.here in
    rw (← made) (two_tests (map label_requirement (unwrap_or pairs.first []) ++ expressions.first)
    (list_all-append is_well_one (map label_requirement (unwrap_or pairs.first [])) expressions.first ∙ rw (first, second) refl))

-- ---- blocks

-- a block that is well formed passes the test
pub cidr_test : (block : Cidr) → IsCidr block → is_well_cidr block ≡ true
cidr_test (Four base len) is = grind (arith, nat_tests)
cidr_test (Six base len) is = grind (arith, nat_tests)

pub cidr_text-well : (value : Data) (block : Cidr) → cidr value ≡ Ok block → is_well_cidr block ≡ true
cidr_text-well value block is = cidr_test block (cidr-well value block is)

no_except : {B : Type 0} (place : Option ℕ) (rest : Read B) (output : B) → (refuse_except place >> rest) ≡ Ok output → is_none place ≡ true
unfolding under
no_except None rest output is = refl
no_except (Some place) rest output is = cc

pub ip_block-well : (value : Data) (read : IpBlock) → ip_block value ≡ Ok read → is_well_block read.cidr read.excepts ≡ true
unfolding ip_block
ip_block-well value read is =
    let past = then-output (must_be_object value) _ read is in
    let block = bind-output (required (codes "cidr") cidr value) _ read past in
    let excepts = bind-output (listed (codes "except") cidr value)
    (λ excepts. refuse_except (first_bad_except block.first excepts) >> Ok (record { cidr = block.first; excepts = excepts })) read block.after in
    let end = then-output (refuse_except (first_bad_except block.first excepts.first)) (Ok (record { cidr = block.first; excepts = excepts.first })) read excepts.after in
    let made : record { cidr = block.first; excepts = excepts.first } ≡ read = cc in
    let first = required-well cidr is_well_cidr cidr_text-well (codes "cidr") value block.first block.here in
    let others = listed-well cidr is_well_cidr cidr_text-well (codes "except") value excepts.first excepts.here in
    let none = no_except (first_bad_except block.first excepts.first) (Ok (record { cidr = block.first; excepts = excepts.first })) read excepts.after in
    rw (← made) (rw (first, others, none) refl)

-- ---- ports

port_name-well : (value : Data) (s : List ℕ) → container_port_name value ≡ Ok s → is_whole_word s ≡ true
unfolding container_port_name
port_name-well value s is =
    let read = bind-output (text value) (λ s. refuse_if (length s == 0) BadPort >> (refuse_if (not (is_word s)) BadField >> Ok s)) s is in
    let filled = unbroken-output (length read.first == 0) BadPort _ s read.after in
    let more = then-output (refuse_if (length read.first == 0) BadPort) (refuse_if (not (is_word read.first)) BadField >> Ok read.first) s read.after in
    let test = not-false (is_word read.first) (unbroken-output (not (is_word read.first)) BadField (Ok read.first) s more) in
    let end : Ok read.first ≡ Ok s = then-output (refuse_if (not (is_word read.first)) BadField) (Ok read.first) s more in
    let same : read.first ≡ s = cc in
    rw (← same) (rw (filled, test) refl)

-- a name is a word that is not empty
abbrev is_well_value : PortValue → Bool
is_well_value (Number number) = true
is_well_value (Name name) = is_whole_word name

port_value-well : (value : Data) (read : PortValue) → port_value value ≡ Ok read → is_well_value read ≡ true
unfolding port_value
port_value-well value read is = by (as_whole value) is
  where
    by : (number : Option ℤ) → port_value_by number value ≡ Ok read → is_well_value read ≡ true
    by None is =
        let name = bind-output (container_port_name value) (λ name. Ok (Name name)) read is in
        let made : Name name.first ≡ read = let after = name.after in cc in
        rw (← made) (port_name-well value name.first name.here)
    by (Some n) is =
        let number = bind-output (port_number n) (λ number. Ok (Number number)) read is in
        let made : Number number.first ≡ read = let after = number.after in cc in
        rw (← made) refl

end_port-well : (first : Option ℕ) (value : Data) (last : ℕ) → end_port first value ≡ Ok last → may_end first last ≡ true
unfolding end_port
end_port-well first value last is =
    let read = bind-output (port value) (λ last. refuse_if (not (may_end first last)) BadPort >> Ok last) last is in
    let test = not-false (may_end first read.first) (unbroken-output (not (may_end first read.first)) BadPort (Ok read.first) last read.after) in
    let end : Ok read.first ≡ Ok last = then-output (refuse_if (not (may_end first read.first)) BadPort) (Ok read.first) last read.after in
    let same : read.first ≡ last = cc in
    rw (← same) test

at_most_itself : (n : ℕ) → nat_le n n ≡ true
at_most_itself n = grind (arith, nat_tests)

spans-well : (proto : Proto) (value : Option PortValue) (last : Option ℕ) → option_all is_well_value value ≡ true → option_all (may_end (port_number_of value)) last ≡ true →
    is_well_net_port (net_port_by proto value last) ≡ true
spans-well proto None last well ends = refl
spans-well proto (Some (Number first)) None well ends = at_most_itself first
spans-well proto (Some (Number first)) (Some last) well ends = ends
spans-well proto (Some (Name name)) last well ends = well

pub net_port-well : (value : Data) (read : NetPort) → net_port value ≡ Ok read → is_well_net_port read ≡ true
unfolding net_port
net_port-well value read is =
    let past = then-output (must_be_object value) _ read is in
    let proto = bind-output (protocol value) _ read past in
    let first = bind-output (optional (codes "port") port_value value) _ read proto.after in
    let last = bind-output (optional (codes "endPort") (end_port (port_number_of first.first)) value) (λ last. Ok (net_port_by proto.first first.first last)) read first.after in
    let made : net_port_by proto.first first.first last.first ≡ read = let after = last.after in cc in
    let well = optional-well port_value is_well_value port_value-well (codes "port") value first.first first.here in
    let ends = optional-well (end_port (port_number_of first.first)) (may_end (port_number_of first.first)) (end_port-well (port_number_of first.first)) (codes "endPort") value last.first last.here in
    rw (← made) (spans-well proto.first first.first last.first well ends)

one_port-well : (value : Data) (read : AdminPort) → one_port value ≡ Ok read → is_well_admin_port read ≡ true
unfolding one_port
one_port-well value read is =
    let past = then-output (must_be_object value) _ read is in
    let proto = bind-output (protocol value) _ read past in
    let number = bind-output (required (codes "port") port value) (λ number. Ok (admin.Span proto.first number number)) read proto.after in
    let made : admin.Span proto.first number.first number.first ≡ read = let after = number.after in cc in
    rw (← made) (at_most_itself number.first)

not_above : (lo hi : ℕ) → nat_lt hi lo ≡ false → nat_le lo hi ≡ true
not_above lo hi is = grind (arith, nat_tests)

port_range-well : (value : Data) (read : AdminPort) → port_range value ≡ Ok read → is_well_admin_port read ≡ true
unfolding port_range
port_range-well value read is =
    let past = then-output (must_be_object value) _ read is in
    let proto = bind-output (protocol value) _ read past in
    let lo = bind-output (required (codes "start") port value) _ read proto.after in
    let hi = bind-output (required (codes "end") port value) (λ hi. refuse_member_if (codes "end") (nat_lt hi lo.first) BadPort >> Ok (admin.Span proto.first lo.first hi)) read lo.after in
    let test = unbroken_member-output (codes "end") (nat_lt hi.first lo.first) BadPort (Ok (admin.Span proto.first lo.first hi.first)) read hi.after in
    let end = then-output (refuse_member_if (codes "end") (nat_lt hi.first lo.first) BadPort) (Ok (admin.Span proto.first lo.first hi.first)) read hi.after in
    let made : admin.Span proto.first lo.first hi.first ≡ read = cc in
    rw (← made) (not_above lo.first hi.first test)

named_port-well : (value : Data) (read : AdminPort) → named_port value ≡ Ok read → is_well_admin_port read ≡ true
unfolding named_port
named_port-well value read is =
    let name = bind-output (container_port_name value) (λ name. Ok (admin.Named name)) read is in
    let made : admin.Named name.first ≡ read = let after = name.after in cc in
    rw (← made) (port_name-well value name.first name.here)

pub admin_port-well : (value : Data) (read : AdminPort) → admin_port value ≡ Ok read → is_well_admin_port read ≡ true
unfolding admin_port
admin_port-well value read is =
    let past = then-output (must_be_object value) _ read is in
    let shaped = then-output (refuse_if (not (has_one_of (codes "portNumber" ∷ codes "portRange" ∷ codes "namedPort" ∷ []) value)) BadPort) (admin_port_member value) read past in
    by (has_member (codes "portNumber") value) (has_member (codes "portRange") value) shaped
  where
    by : (number range : Bool) →
        cond number (required (codes "portNumber") one_port value) (cond range (required (codes "portRange") port_range value) (required (codes "namedPort") named_port value)) ≡ Ok read →
        is_well_admin_port read ≡ true
    by true range is = required-well one_port is_well_admin_port one_port-well (codes "portNumber") value read is
    by false true is = required-well port_range is_well_admin_port port_range-well (codes "portRange") value read is
    by false false is = required-well named_port is_well_admin_port named_port-well (codes "namedPort") value read is
