-- Valid label selectors are read. For ValidAdminReads, ValidNetworkReads and ValidPeers.
use Rattle.std.proofs.Common.{◌≡◌, ℕ, ◌⊎◌, List, [], ◌∷◌, ◌++◌, map, true, false, Ok, codes, refl, inl, inr, unwrap_or}
use Rattle.serde_json.specs.Data.{Data, Members, no_members, member}
use Rattle.np_json.specs.Prelude.{labels, refuse_if, required, text, under, word}
use Rattle.np_labels.specs.Prelude.{label_requirement, requirement_of}
use Rattle.np_policies.specs.Prelude.{expression, fitting, have_other, key, op_named, selector}
use Rattle.np_meaning.proofs.ValidNames.{key-word, labels-reads, value-word}
use Rattle.np_meaning.proofs.ValidReads.{Reads, empty-reads, listed-reads, not_none, object-reads, optional-reads, required-reads, some-reads}
use Rattle.np_meaning.specs.ValidMembers.{AreEntries, Has, IsLabel, IsLabelKey, IsLabelValue, IsMapOf, IsText}
use Rattle.np_meaning.specs.ValidPolicies.{AsksOfKey, AsksOfValues, IsEither, IsSelectorMember, IsValidExpression, IsValidSelector}

key-reads : (value : Data) → IsText IsLabelKey value → Reads (key value)
unfolding key refuse_if
key-reads value is = (is.0, rw (is.1, key-word is.0 is.2) refl)

word-reads : (value : Data) → IsText IsLabelValue value → Reads (word value)
unfolding word refuse_if
word-reads value is = (is.0, rw (is.1, value-word is.0 is.2) refl)

-- the text of an operator
pub text-of : (Is : List ℕ → Type 0) (name : List ℕ) (value : Data) → Has name (IsText Is) value → (s : List ℕ) × (required name text value ≡ Ok s) × Is s
unfolding required under
text-of Is name value has = (has.2.0, rw (has.1, has.2.1) refl, has.2.2)

with_values : (s : List ℕ) → IsEither (codes "In") (codes "NotIn") s → Reads (fitting (op_named s) true)
with_values s (inl is) = rw is (_, refl)
with_values s (inr is) = rw is (_, refl)

without_values : (s : List ℕ) → IsEither (codes "Exists") (codes "DoesNotExist") s → Reads (fitting (op_named s) false)
without_values s (inl is) = rw is (_, refl)
without_values s (inr is) = rw is (_, refl)

pub expression-reads : (value : Data) → IsValidExpression value → Reads (expression value)
unfolding expression
expression-reads value is = by is.asks
  where
    named : Reads (required (codes "key") key value)
    named = required-reads key (IsText IsLabelKey) key-reads (codes "key") value is.key

    of_values : AsksOfValues value → Reads (expression value)
    of_values asks =
        let operator = text-of (IsEither (codes "In") (codes "NotIn")) (codes "operator") value asks.operator in
        let values = some-reads word (IsText IsLabelValue) word-reads (codes "values") value asks.values in
        let op = with_values operator.0 operator.2 in
        let some = not_none values.0 values.1 in
        (requirement_of named.0 op.0 (values.0 ∷ values.1), rw ((object-reads value is.object).1, named.1, operator.1, values.2, some, op.1) refl)

    of_key : AsksOfKey value → Reads (expression value)
    of_key asks =
        let operator = text-of (IsEither (codes "Exists") (codes "DoesNotExist")) (codes "operator") value asks.operator in
        let op = without_values operator.0 operator.2 in
        (requirement_of named.0 op.0 [], rw ((object-reads value is.object).1, named.1, operator.1, empty-reads word (IsText IsLabelValue) word-reads (codes "values") value asks.values, op.1) refl)

    by : AsksOfValues value ⊎ AsksOfKey value → Reads (expression value)
    by (inl asks) = of_values asks
    by (inr asks) = of_key asks

-- a selector has no members but its two
none-other : (members : Members) → AreEntries IsSelectorMember members → have_other members ≡ false
none-other no_members all = refl
none-other (member key value members) all = by all.0 (none-other members all.1)
  where
    by : IsSelectorMember key value → have_other members ≡ false → have_other (member key value members) ≡ false
    by (inl is) others = rw (is, others) refl
    by (inr is) others = rw (is, others) refl

pub selector-reads : (value : Data) → IsValidSelector value → Reads (selector value)
unfolding selector refuse_if
selector-reads value is =
    let object = object-reads value (is.members.0, is.members.1) in
    let pairs = optional-reads labels (IsMapOf IsLabel) labels-reads (codes "matchLabels") value is.labels in
    let expressions = listed-reads expression IsValidExpression expression-reads (codes "matchExpressions") value is.expressions in (
      record { requirements = map label_requirement (unwrap_or pairs.0 []) ++ expressions.0 },
      rw (object.1, is.members.1, none-other is.members.0 is.members.2, pairs.1, expressions.1) refl,
    )
