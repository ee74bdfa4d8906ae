-- What a selector that was read asks of labels. For `selectors_mean_their_members`.
use Rattle.std.proofs.Common.{◌≡◌, ℕ, List, [], ◌∷◌, ◌++◌, length, map, Bool, true, false, not, cond, ◌==◌, Option, Some, None, option_and_then, option_map, unwrap_or, is_some, is_none, codes, Ok, refl, ap, ◌∙◌}
use Rattle.std.proofs.lemmas.List.Folds.{list_all-append}
use Rattle.std.specs.List.{list_all}
use Rattle.std.specs.Str.{bytes_eq}
use Rattle.std.proofs.Math.Bool.{or-false}
use Rattle.serde_json.specs.Data.{Data, object, Members, no_members, member}
use Rattle.serde_json.specs.Find.{as_str, as_object}
use Rattle.np_json.specs.Prelude.{as_pairs, labels, listed, member_of, must_be_object, of_type, optional, pairs_of_members, refuse, refuse_if, required, text, word, ◌>>◌}
use Rattle.np_model.specs.Prelude.{is_label, is_whole_word}
use Rattle.np_meaning.specs.Prelude.{Absent, BadField, BadSelector, NoneOf, OneOf, Op, Pair, Present, Requirement, Selector, any_item, has_entries, has_text, is_among, is_text, meets_expression, meets_members, meets_operator}
use Rattle.np_labels.specs.Prelude.{distinct, fits, is_listed, label_requirement, meets_requirement, meets_selector, op_allows, requirement_of, value_of}
pub use Rattle.np_labels.proofs.Distinct.{is_listed-distinct}
use Rattle.np_policies.proofs.ReadLemmas.{bind-output, then-output, optional-output, listed-output, list_all-each_item, IsOptional}
use Rattle.np_meaning.proofs.MemberReads.{list_any-each_item, of_type-output, word-output, text_at-output}
use Rattle.np_policies.specs.Prelude.{expression, fitting, has_other, items_at, key, op_named, selector}

-- ---- labels

one_label : (own : List Pair) (name s : List ℕ) (value : Data) → as_str value ≡ Some s → meets_requirement (label_requirement (name, s)) own ≡ has_text (value_of own name) value
one_label own name s value is = by (value_of own name)
  where
    by : (found : Option (List ℕ)) → op_allows OneOf (s ∷ []) found ≡ has_text found value
    by None = refl
    by (Some other) = rw is (or-false (bytes_eq s other))

all_labels : (own : List Pair) (members : Members) (pairs : List (List ℕ × List ℕ)) → pairs_of_members members ≡ Some pairs →
    list_all (λ one. meets_requirement one own) (map label_requirement pairs) ≡ has_entries own members
all_labels own no_members [] is = refl
all_labels own no_members (pair ∷ pairs) is = cc
all_labels own (member name value members) pairs is = by (as_str value) (pairs_of_members members) refl refl (all_labels own members) is
  where
    by : (read : Option (List ℕ)) (rest : Option (List (List ℕ × List ℕ))) → as_str value ≡ read → pairs_of_members members ≡ rest
        → ((more : List (List ℕ × List ℕ)) → pairs_of_members members ≡ Some more → list_all (λ one. meets_requirement one own) (map label_requirement more) ≡ has_entries own members)
        → option_and_then (λ s. option_map (λ more. (name, s) ∷ more) rest) read ≡ Some pairs
        → list_all (λ one. meets_requirement one own) (map label_requirement pairs) ≡ has_entries own (member name value members)
    by None rest here others step is = cc
    by (Some s) None here others step is = cc
    by (Some s) (Some more) here others step is =
        let same : (name, s) ∷ more ≡ pairs = cc in
        rw (← same) (rw (one_label own name s value here, step more others) refl)

-- the entries of a map of labels
labels-output : (value : Data) (pairs : List (List ℕ × List ℕ)) → labels value ≡ Ok pairs → as_pairs value ≡ Some pairs
unfolding labels
labels-output value pairs is =
    let read = bind-output (of_type (as_pairs value)) (λ pairs. refuse_if (not (list_all is_label pairs)) BadField >> Ok pairs) pairs is in
    let same : Ok read.first ≡ Ok pairs = then-output (refuse_if (not (list_all is_label read.first)) BadField) (Ok read.first) pairs read.after in
    let first : read.first ≡ pairs = cc in
    of_type-output (as_pairs value) read.first read.here ∙ ap Some first

entries_met : (own : List Pair) (value : Data) (pairs : List (List ℕ × List ℕ)) → as_pairs value ≡ Some pairs →
    list_all (λ one. meets_requirement one own) (map label_requirement pairs) ≡ has_entries own (unwrap_or (as_object value) no_members)
entries_met own value pairs is = by (as_object value) is
  where
    by : (found : Option Members) → option_and_then pairs_of_members found ≡ Some pairs →
        list_all (λ one. meets_requirement one own) (map label_requirement pairs) ≡ has_entries own (unwrap_or found no_members)
    by None is = cc
    by (Some members) is = all_labels own members pairs is

member_met : (own : List Pair) (there : Option Data) (output : Option (List (List ℕ × List ℕ))) → IsOptional labels there output →
    list_all (λ one. meets_requirement one own) (map label_requirement (unwrap_or output [])) ≡ has_entries own (unwrap_or (as_object (unwrap_or there (object no_members))) no_members)
member_met own there None is = rw is refl
member_met own there (Some pairs) is = rw is.there (entries_met own is.found pairs (labels-output is.found pairs is.read))

-- ---- expressions

key-output : (value : Data) (s : List ℕ) → key value ≡ Ok s → as_str value ≡ Some s
unfolding key
key-output value s is =
    let read = bind-output (text value) (λ s. refuse_if (not (is_whole_word s)) BadField >> Ok s) s is in
    let same : Ok read.first ≡ Ok s = then-output (refuse_if (not (is_whole_word read.first)) BadField) (Ok read.first) s read.after in
    let first : read.first ≡ s = cc in
    of_type-output (as_str value) read.first read.here ∙ ap Some first

fitting-output : (named : Option Op) (has_values : Bool) (op : Op) → fitting named has_values ≡ Ok op → named ≡ Some op
fitting-output None has_values op is = cc
fitting-output (Some other) has_values op is = by (fits other has_values) is
  where
    by : (b : Bool) → cond b (Ok other) (refuse BadSelector) ≡ Ok op → Some other ≡ Some op
    by true is = cc
    by false is = cc

-- a text among the values that were read is among the items
among : (items : _) (values : List (List ℕ)) (found : Option (List ℕ)) → ((s : List ℕ) → is_listed values s ≡ any_item (λ value. is_text value s) items) →
    op_allows OneOf (distinct values) found ≡ is_among items found
among items values None same = refl
among items values (Some s) same = is_listed-distinct values s ∙ same s

not_among : (items : _) (values : List (List ℕ)) (found : Option (List ℕ)) → ((s : List ℕ) → is_listed values s ≡ any_item (λ value. is_text value s) items) →
    op_allows NoneOf (distinct values) found ≡ not (is_among items found)
not_among items values None same = refl
not_among items values (Some s) same = ap not (is_listed-distinct values s ∙ same s)

operator_met : (operator : List ℕ) (items : _) (values : List (List ℕ)) (op : Op) (found : Option (List ℕ)) → op_named operator ≡ Some op →
    ((s : List ℕ) → is_listed values s ≡ any_item (λ value. is_text value s) items) → op_allows op (distinct values) found ≡ meets_operator operator items found
operator_met operator items values op found is same =
    by (bytes_eq operator (codes "In")) (bytes_eq operator (codes "NotIn")) (bytes_eq operator (codes "Exists")) (bytes_eq operator (codes "DoesNotExist")) op is
  where
    by : (one none present absent : Bool) (op : Op) → cond one (Some OneOf) (cond none (Some NoneOf) (cond present (Some Present) (cond absent (Some Absent) None))) ≡ Some op
        → op_allows op (distinct values) found ≡ cond one (is_among items found) (cond none (not (is_among items found)) (cond present (is_some found) (cond absent (is_none found) false)))
    by true none present absent OneOf is = among items values found same
    by true none present absent NoneOf is = cc
    by true none present absent Present is = cc
    by true none present absent Absent is = cc
    by false true present absent OneOf is = cc
    by false true present absent NoneOf is = not_among items values found same
    by false true present absent Present is = cc
    by false true present absent Absent is = cc
    by false false true absent OneOf is = cc
    by false false true absent NoneOf is = cc
    by false false true absent Present is = refl
    by false false true absent Absent is = cc
    by false false false true OneOf is = cc
    by false false false true NoneOf is = cc
    by false false false true Present is = cc
    by false false false true Absent is = refl
    by false false false false op is = cc

-- a word is listed where its item is that text
word_alike : (s : List ℕ) (value : Data) (listed : List ℕ) → word value ≡ Ok listed → bytes_eq listed s ≡ is_text value s
word_alike s value listed is = rw (word-output value listed is) refl

-- labels meet an expression that was read exactly where they meet its members
pub expression_met : (own : List Pair) (value : Data) (read : Requirement) → expression value ≡ Ok read → meets_requirement read own ≡ meets_expression own value
unfolding expression
expression_met own value read is =
    let past = then-output (must_be_object value) _ read is in
    let name = bind-output (required (codes "key") key value) _ read past in
    let operator = bind-output (required (codes "operator") text value) _ read name.after in
    let values = bind-output (listed (codes "values") word value) _ read operator.after in
    let op = bind-output (fitting (op_named operator.first) (not (length values.first == 0))) (λ op. Ok (requirement_of name.first op values.first)) read values.after in
    let made : requirement_of name.first op.first values.first ≡ read = cc in
    let at_key = text_at-output key key-output (codes "key") value name.first name.here in
    let at_operator = text_at-output text (λ d s e. of_type-output (as_str d) s e) (codes "operator") value operator.first operator.here in
    let items = listed-output word (codes "values") value values.first values.here in
    let same : (s : List ℕ) → is_listed values.first s ≡ any_item (λ d. is_text d s) (items_at (codes "values") value) =
    λ s. list_any-each_item word (λ listed. bytes_eq listed s) (λ d. is_text d s) (word_alike s) 0 (items_at (codes "values") value) values.first items in
    rw (← made) (rw (at_key, at_operator) (operator_met operator.first (items_at (codes "values") value) values.first op.first (value_of own name.first) (fitting-output _ _ op.first op.here) same))

-- ---- selectors

-- labels meet a selector that was read exactly where they meet its members
pub selector_met : (value : Data) (read : Selector) (own : List Pair) → selector value ≡ Ok read → meets_selector read own ≡ meets_members own value
unfolding selector
selector_met value read own is =
    let past = then-output (must_be_object value) _ read is in
    let known = then-output (refuse_if (has_other (as_object value)) BadSelector) _ read past in
    let pairs = bind-output (optional (codes "matchLabels") labels value) _ read known in
    let expressions = bind-output (listed (codes "matchExpressions") expression value)
    (λ found. Ok (record { requirements = map label_requirement (unwrap_or pairs.first []) ++ found })) read pairs.after in
    let made : record { requirements = map label_requirement (unwrap_or pairs.first []) ++ expressions.first } ≡ read = cc in
    let first = member_met own (member_of (codes "matchLabels") value) pairs.first (optional-output labels (codes "matchLabels") value pairs.first pairs.here) in
    let second = list_all-each_item expression (λ one. meets_requirement one own) (meets_expression own) (expression_met own) 0 (items_at (codes "matchExpressions") value) expressions.first
    (listed-output expression (codes "matchExpressions") value expressions.first expressions.here) in
    rw (← made) (list_all-append (λ one. meets_requirement one own) (map label_requirement (unwrap_or pairs.first [])) expressions.first ∙ rw (first, second) refl)
