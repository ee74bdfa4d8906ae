-- Which labels meet the selectors of groups and of namespaces. For FlatVerdicts.
use Rattle.std.proofs.Common.{◌≡◌, ℕ, List, [], ◌∷◌, Bool, false, ◌&&◌, ◌||◌, codes, Option, Some, None, refl, ap, ◌∙◌}
use Rattle.std.specs.List.{list_all}
use Rattle.std.specs.Option.{option_eq}
use Rattle.std.specs.Str.{bytes_eq}
use Rattle.std.proofs.Math.Bool.{and-true, or-false}
use Rattle.np_labels.specs.Prelude.{meets_requirement, meets_selector, value_of}
use Rattle.np_flatten.specs.Prelude.{Pair, namespace_named, requirement_at, requirement_of_key, selector_of_keys}

requirement-by : (key : List ℕ) (labels : List Pair) (wanted found : Option (List ℕ)) → value_of labels key ≡ found →
    meets_requirement (requirement_at key wanted) labels ≡ option_eq bytes_eq wanted found
requirement-by key labels (Some value) None is = rw is refl
requirement-by key labels (Some value) (Some other) is = rw is (or-false (bytes_eq value other))
requirement-by key labels None None is = rw is refl
requirement-by key labels None (Some other) is = rw is refl

-- labels meet what is asked of a key where they have the same value of it
meets-key : (key : List ℕ) (own labels : List Pair) → meets_requirement (requirement_of_key own key) labels ≡ option_eq bytes_eq (value_of own key) (value_of labels key)
meets-key key own labels = requirement-by key labels (value_of own key) (value_of labels key) refl

-- labels meet the selector where they have the same values of the keys
pub meets-selector_of : (keys : List (List ℕ)) (own labels : List Pair) →
    meets_selector (selector_of_keys keys own) labels ≡ list_all (λ key. option_eq bytes_eq (value_of own key) (value_of labels key)) keys
meets-selector_of [] own labels = refl
meets-selector_of (key ∷ keys) own labels =
    rw (meets-key key own labels) (ap (λ (rest : Bool). option_eq bytes_eq (value_of own key) (value_of labels key) && rest) (meets-selector_of keys own labels))

-- the labels of a namespace meet the selector of a name where they say the name
pub meets-namespace_named : (name own : List ℕ) (labels : List Pair) → value_of labels (codes "kubernetes.io/metadata.name") ≡ Some own →
    meets_selector (namespace_named name) labels ≡ bytes_eq name own
meets-namespace_named name own labels is = rw is (and-true (bytes_eq name own || false) ∙ or-false (bytes_eq name own))
