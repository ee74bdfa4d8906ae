-- The items of a list of policies: they are the policies, and none has the name of another. For `policies_are_read_again`.
use Rattle.std.proofs.Common.{◌≡◌, ℕ, ◌+◌, ◌≤◌, List, [], ◌∷◌, ◌++◌, Bool, true, false, ◌&&◌, length, map, Some, None, Ok, codes, refl, sym, ap, ◌∙◌, arith, append-nil, le-leb}
use Rattle.std.proofs.lemmas.Bool.{and_parts}
use Rattle.std.proofs.lemmas.Iterator.Adapters.{position_from-zero}
use Rattle.std.proofs.lemmas.List.{length-map}
use Rattle.std.proofs.lemmas.List.Elements.{recursion_from_All}
use Rattle.std.specs.Cmp.Lexicographic.{bytes_decides}
use Rattle.std.specs.List.{AllByRecursion, list_all, position_from}
use Rattle.std.specs.Prelude.{AllPairs}
use Rattle.std.specs.Str.{bytes_eq}
use Rattle.np_base.proofs.Lists.{AllPairs-head, AllPairs-tail}
use Rattle.np_items.specs.Prelude.{input_values, items_by, items_from, items_in, items_of, json_of, must_be_few}
use Rattle.np_command_flatten.specs.Prelude.{AreApart, Item, NetPolicy, is_printable, net_item, net_items}
use Rattle.np_items.proofs.InputLemmas.{values-items_of}
use Rattle.np_owners.specs.Prelude.{first_repeat, is_item_named, place_of, repeat_after, repeated}
use Rattle.np_owners.specs.declared.object_name.ObjectName.{ObjectName}
use Rattle.np_manifests.specs.Lists.{list_data}
use Rattle.np_manifests.specs.Manifests as manifests
use Rattle.np_command_flatten.proofs.PolicyReads.{item-read}

-- ---- reading

each-policy : (policies : List NetPolicy) → list_all is_printable policies ≡ true → (number : ℕ) → items_from number (map manifests.policy policies) ≡ Ok (net_items policies)
each-policy [] all number = refl
each-policy (one ∷ policies) all number =
    let parts = and_parts (is_printable one) (list_all is_printable policies) all in
    rw (item-read number one parts.0, each-policy policies parts.1 (number + 1)) refl

listed : (policies : List NetPolicy) → items_in 1 (list_data policies) ≡ Ok (map manifests.policy policies)
unfolding items_in items_by
listed policies = rw (values-items_of (map manifests.policy policies)) refl

-- what gives the value of the list gives its items
pub items_of-list : (text : List ℕ) (policies : List NetPolicy) → json_of text ≡ Some (list_data policies) → list_all is_printable policies ≡ true → length policies ≤ 20000 →
    items_of (text ∷ []) ≡ Ok (net_items policies)
unfolding items_of input_values must_be_few
items_of-list text policies parsed all few =
    let values = map manifests.policy policies in
    rw (parsed, listed policies, append-nil values, le-leb (length values) 20000 (omega (arith, length-map policies manifests.policy)), each-policy policies all 1) refl

-- ---- names

apart-turned : (one other : NetPolicy) → AreApart one other → (bytes_eq other.namespace one.namespace && bytes_eq other.name one.name) ≡ false
apart-turned one other apart = by (bytes_eq other.namespace one.namespace) (bytes_eq other.name one.name) refl refl
  where
    by : (a b : Bool) → bytes_eq other.namespace one.namespace ≡ a → bytes_eq other.name one.name ≡ b → (a && b) ≡ false
    by true true spaces names =
        let space : bytes_eq one.namespace other.namespace ≡ true = (bytes_decides one.namespace other.namespace).1 (sym ((bytes_decides other.namespace one.namespace).0 spaces)) in
        let name : bytes_eq one.name other.name ≡ true = (bytes_decides one.name other.name).1 (sym ((bytes_decides other.name one.name).0 names)) in
        let never = rw (space, name) at apart in cc
    by true false spaces names = refl
    by false b spaces names = refl

-- each policy is apart from one behind it
abbrev AllBefore : List NetPolicy → NetPolicy → Type 0
AllBefore earlier one = AllByRecursion (λ before. AreApart before one) earlier

abbrev name_of_net : NetPolicy → ObjectName
name_of_net one = record { kind = codes "NetworkPolicy"; namespace = one.namespace; name = one.name }

not-named : (one : NetPolicy) (from : ℕ) (earlier : List NetPolicy) → AllBefore earlier one → position_from (is_item_named (name_of_net one)) from (net_items earlier) ≡ None
not-named one from [] all = refl
not-named one from (before ∷ earlier) all = rw (apart-turned before one all.0) (not-named one (from + 1) earlier all.1)

not-repeated : (earlier : List NetPolicy) (one : NetPolicy) → AllBefore earlier one → repeated (net_items earlier) (net_item one) ≡ None
not-repeated earlier one all =
    let nowhere : place_of (net_items earlier) (name_of_net one) ≡ None = position_from-zero (is_item_named (name_of_net one)) (net_items earlier) ∙ not-named one 0 earlier all in
    rw nowhere refl

-- ---- one after another

items-append : (policies others : List NetPolicy) → net_items policies ++ net_items others ≡ net_items (policies ++ others)
items-append [] others = refl
items-append (one ∷ policies) others = ap (λ (items : List Item). net_item one ∷ items) (items-append policies others)

before-append : (earlier : List NetPolicy) (one other : NetPolicy) → AllBefore earlier other → AreApart one other → AllBefore (earlier ++ one ∷ []) other
before-append [] one other all apart = (apart, tt)
before-append (before ∷ earlier) one other all apart = (all.0, before-append earlier one other all.1 apart)

all-behind : (earlier : List NetPolicy) (one : NetPolicy) (rest : List NetPolicy) → AllByRecursion (AllBefore earlier) rest → AllByRecursion (AreApart one) rest →
    AllByRecursion (AllBefore (earlier ++ one ∷ [])) rest
all-behind earlier one [] all apart = tt
all-behind earlier one (other ∷ rest) all apart = (before-append earlier one other all.0 apart.0, all-behind earlier one rest all.1 apart.1)

none-repeated : (earlier policies : List NetPolicy) → AllByRecursion (AllBefore earlier) policies → AllPairs AreApart policies → repeat_after (net_items earlier) (net_items policies) ≡ None
none-repeated earlier [] all apart = refl
none-repeated earlier (one ∷ policies) all apart =
    let later = recursion_from_All (AreApart one) policies (AllPairs-head AreApart one policies apart) in
    let rest = none-repeated (earlier ++ one ∷ []) policies (all-behind earlier one policies all.1 later) (AllPairs-tail AreApart one policies apart) in
    rw (not-repeated earlier one all.0, items-append earlier (one ∷ [])) rest

nothing-before : (policies : List NetPolicy) → AllByRecursion (AllBefore []) policies
nothing-before [] = tt
nothing-before (one ∷ policies) = (tt, nothing-before policies)

pub first_repeat-none : (policies : List NetPolicy) → AllPairs AreApart policies → first_repeat (net_items policies) ≡ None
first_repeat-none policies apart = none-repeated [] policies (nothing-before policies) apart
