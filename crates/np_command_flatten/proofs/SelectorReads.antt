-- Selectors are read as they are. For PolicyReads and RuleReads.
use Rattle.std.proofs.Common.{◌≡◌, ℕ, List, [], ◌∷◌, ◌++◌, Bool, true, not, ◌==◌, length, fold, map, Ok, codes, refl, sym, ap, subst, ◌∙◌, append_assoc, append-nil}
use Rattle.std.proofs.lemmas.Bool.{and_parts}
use Rattle.std.specs.BTreeSet.{insert_key}
use Rattle.std.specs.Cmp.Lexicographic.{slice_cmp}
use Rattle.std.specs.List.{AllByRecursion, list_all}
use Rattle.std.specs.Ordering.{nat_cmp}
use mathlib.Core.Bool.{Bool-set}
use Rattle.serde_json.specs.Data.{Data, string}
use Rattle.np_json.specs.Prelude.{labels, listed, member_of, must_be_object, refuse_if, required, text, word}
use Rattle.np_written.specs.Values.{object_with}
use Rattle.np_model.specs.Prelude.{is_whole_word, is_word, is_worded}
use Rattle.np_labels.specs.Prelude.{is_ascending, requirement_of}
use Rattle.np_labels.specs.WellFormed as well
use Rattle.np_command_flatten.specs.Prelude.{Absent, NoneOf, OneOf, Op, Present, Requirement, Selector}
use Rattle.np_policies.specs.Prelude.{expression, fitting, key, op_named, selector}
use Rattle.np_model.specs.WellPolicies.{is_well_selector}
use Rattle.np_manifests.specs.Manifests as manifests
use Rattle.np_manifests.specs.Members.{if_some}
use Rattle.np_command_flatten.proofs.OrderLemmas.{above-before, insert-last}
use Rattle.np_command_flatten.proofs.ShapeLemmas.{all-passed, listed-none, optional-none, required-read, some-read, some_member}

-- ---- values in order

distinct-behind : (before values : List (List ℕ)) → is_ascending (before ++ values) ≡ true → fold (insert_key (slice_cmp nat_cmp)) before values ≡ before ++ values
distinct-behind before [] ascending = sym (append-nil before)
distinct-behind before (value ∷ values) ascending =
    let moved = append_assoc before (value ∷ []) values in
    rw (insert-last before value (above-before before values value ascending)) (distinct-behind (before ++ value ∷ []) values (rw moved ascending) ∙ moved)

-- the requirement of what a requirement asks is that requirement: its values ascend, and that is one fact, however it is shown
requirement-itself : (one : Requirement) → requirement_of one.key one.op one.values ≡ one
requirement-itself one =
    let P : List (List ℕ) → Type 0 = λ values. (ascending : is_ascending values ≡ true) → record { key = one.key; op = one.op; values = values; ascending = ascending } ≡ one in
    let here : P one.values = λ ascending. ap (λ (p : is_ascending one.values ≡ true). record { key = one.key; op = one.op; values = one.values; ascending = p })
    (Bool-set (is_ascending one.values) true ascending one.ascending) in
    subst P (sym (distinct-behind [] one.values one.ascending)) here _

-- ---- expressions

word-read : (s : List ℕ) → is_word s ≡ true → word (string s) ≡ Ok s
unfolding word refuse_if
word-read s is = rw is refl

key-read : (s : List ℕ) → is_whole_word s ≡ true → key (string s) ≡ Ok s
unfolding key refuse_if
key-read s is = rw is refl

operator-read : (op : Op) (has : Bool) → well.fits op has ≡ true → fitting (op_named (manifests.operator op)) has ≡ Ok op
operator-read OneOf has fits = rw fits refl
operator-read NoneOf has fits = rw fits refl
operator-read Present has fits = rw fits refl
operator-read Absent has fits = rw fits refl

values-member : (of_key of_operator : Data) (values : List Data) →
    member_of (codes "values") (object_with ((codes "key", of_key) ∷ (codes "operator", of_operator) ∷ if_some (codes "values") values)) ≡ some_member values
values-member of_key of_operator [] = refl
values-member of_key of_operator (value ∷ values) = refl

expression-read : (one : Requirement) → well.is_well_requirement one ≡ true → is_worded one ≡ true → expression (manifests.expression_data one) ≡ Ok one
unfolding expression must_be_object refuse_if
expression-read one is_well words =
    let fits = and_parts (is_ascending one.values) (well.fits one.op (not (length one.values == 0))) is_well in
    let parts = and_parts (is_whole_word one.key) (list_all is_word one.values) words in
    let value = manifests.expression_data one in
    let keys : required (codes "key") key value ≡ Ok one.key = required-read (codes "key") key value (string one.key) one.key refl (key-read one.key parts.0) in
    let operators : required (codes "operator") text value ≡ Ok (manifests.operator one.op) = required-read (codes "operator") text value (string (manifests.operator one.op))
    (manifests.operator one.op) refl refl in
    let values : listed (codes "values") word value ≡ Ok one.values =
    some-read (codes "values") word string value one.values (values-member (string one.key) (string (manifests.operator one.op)) (map string one.values))
    (all-passed is_word (λ s. word (string s) ≡ Ok s) word-read one.values parts.1) in
    rw (keys, operators, values, operator-read one.op (not (length one.values == 0)) fits.1) (ap Ok (requirement-itself one))

-- ---- selectors

expressions-read : (all : List Requirement) → list_all well.is_well_requirement all ≡ true → list_all is_worded all ≡ true → AllByRecursion (λ one. expression (manifests.expression_data one) ≡ Ok one) all
expressions-read [] fit words = tt
expressions-read (one ∷ all) fit words =
    let here = and_parts (well.is_well_requirement one) (list_all well.is_well_requirement all) fit in
    let there = and_parts (is_worded one) (list_all is_worded all) words in
    (expression-read one here.0 there.0, expressions-read all here.1 there.1)

pub selector-read : (one : Selector) → is_well_selector one ≡ true → selector (manifests.selector_data one) ≡ Ok one
unfolding selector must_be_object refuse_if
selector-read one is_well =
    let parts = and_parts (well.has_well_requirements one) (list_all is_worded one.requirements) is_well in
    by one.requirements (expressions-read one.requirements parts.0 parts.1)
  where
    by : (all : List Requirement) → AllByRecursion (λ requirement. expression (manifests.expression_data requirement) ≡ Ok requirement) all →
        selector (manifests.selector_data (record { requirements = all })) ≡ Ok (record { requirements = all })
    by [] reads =
        let value = manifests.selector_data (record { requirements = [] }) in
        rw (optional-none (codes "matchLabels") labels value refl, listed-none (codes "matchExpressions") expression value refl) refl
    by (first ∷ all) reads =
        let value = manifests.selector_data (record { requirements = first ∷ all }) in
        rw (optional-none (codes "matchLabels") labels value refl, some-read (codes "matchExpressions") expression manifests.expression_data value (first ∷ all) refl reads) refl
