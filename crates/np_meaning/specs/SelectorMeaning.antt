-- What a label selector in JSON asks of labels (Kubernetes documentation, "Labels and Selectors").
use Rattle.np_meaning.specs.Types.{Pair}
use Rattle.np_meaning.specs.MemberMeaning.{entries_at, text_at}
use Rattle.std.specs.Prelude.{ℕ, List, Bool, true, false, not, ◌&&◌, ◌||◌, if◌then◌else◌, is_some, is_none, Option, Some, None, codes}
use Rattle.std.specs.Str.{bytes_eq}
use Rattle.serde_json.specs.Data.{Data, Items, no_items, item, Members, no_members, member}
use Rattle.serde_json.specs.Find.{as_str}
use Rattle.np_labels.specs.Prelude.{value_of}
use Rattle.np_policies.specs.Prelude.{all_items, items_at}

abbrev pub any_item : (Data → Bool) → Items → Bool
any_item test no_items = false
any_item test (item value items) = test value || any_item test items

abbrev pub are_same : Option (List ℕ) → List ℕ → Bool
are_same None s = false
are_same (Some other) s = bytes_eq other s

-- whether a value is that text
abbrev pub is_text : Data → List ℕ → Bool
is_text value s = are_same (as_str value) s

-- whether what is found at a key is that text
abbrev pub has_text : Option (List ℕ) → Data → Bool
has_text None value = false
has_text (Some s) value = is_text value s

-- whether the labels have each entry, as a key and its value
abbrev pub has_entries : List Pair → Members → Bool
has_entries labels no_members = true
has_entries labels (member key value members) = has_text (value_of labels key) value && has_entries labels members

-- whether what is found at a key is one of the items
abbrev pub is_among : Items → Option (List ℕ) → Bool
is_among items None = false
is_among items (Some s) = any_item (λ value. is_text value s) items

-- whether what is found at a key is as the operator asks
abbrev pub meets_operator : List ℕ → Items → Option (List ℕ) → Bool
meets_operator operator values found =
    if bytes_eq operator (codes "In") then is_among values found
    else if bytes_eq operator (codes "NotIn") then not (is_among values found)
    else if bytes_eq operator (codes "Exists") then is_some found
    else if bytes_eq operator (codes "DoesNotExist") then is_none found
    else false

-- whether the labels meet an expression
abbrev pub meets_expression : List Pair → Data → Bool
meets_expression labels expression =
    meets_operator (text_at (codes "operator") expression) (items_at (codes "values") expression)
    (value_of labels (text_at (codes "key") expression))

-- whether the labels have all of `matchLabels` and meet all of `matchExpressions`
abbrev pub meets_members : List Pair → Data → Bool
meets_members labels selector =
    has_entries labels (entries_at (codes "matchLabels") selector)
    && all_items (meets_expression labels) (items_at (codes "matchExpressions") selector)
