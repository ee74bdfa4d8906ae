-- Flat policies, as they are written one after another. For `flatten_in` and `write_policies`.
use Rattle.std.proofs.Common.{◌≡◌, ℕ, zero, suc, ◌+◌, ◌-◌, ◌<◌, ◌≤◌, List, [], ◌∷◌, ◌++◌, flat_map, map, Bool, true, false, Option, None, Some, arith, codes, inl, inr, refl, ap, sym, subst, ◌∙◌, append_assoc}
use Rattle.std.specs.List.{find, join_by, range_with_len}
use Rattle.std.specs.Prelude.{◌⊎◌, All}
use Rattle.std.proofs.lemmas.Bool.{ne_eqb}
use Rattle.std.proofs.lemmas.List.Elements.{All-append, All-cons, All-head, All-nil, All-tail}
use Rattle.np_command_flatten.specs.Prelude.{Alike, AreWorkloads, EstateLists, FlatFault, NoMemory, Split, flatten_text, item_text}
use Rattle.np_command_flatten.proofs.ListLemmas.{list_text-joined}
use Rattle.np_manifests.specs.Lists.{policy_text}
use Rattle.np_flatten.specs.Prelude.{fault_by, first_pair, flat_fault, flat_policies, flat_policy, group_count, is_split, is_unlike, pairs_below}
use Rattle.np_kinds.specs.Prelude.{number_of_workloads}

-- ---- one policy after another

-- the texts of so many policies, from a group on
abbrev pub items : EstateLists → ℕ → ℕ → List ℕ
items lists group count = flat_map (item_text lists) (range_with_len group count)

item-first : (lists : EstateLists) → item_text lists 0 ≡ policy_text (flat_policy lists 0)
unfolding item_text
item-first lists = refl

item-behind : (lists : EstateLists) (group : ℕ) → 1 ≤ group → item_text lists group ≡ codes "," ++ policy_text (flat_policy lists group)
unfolding item_text
item-behind lists group some = rw (ne_eqb group 0 (λ none. absurd (omega (arith, none, some)))) refl

items-behind : (lists : EstateLists) (group count : ℕ) → 1 ≤ group →
    flat_map (λ policy. codes "," ++ policy_text policy) (map (flat_policy lists) (range_with_len group count)) ≡ items lists group count
items-behind lists group zero some = refl
items-behind lists group (suc count) some =
    ap (λ (text : List ℕ). text ++ flat_map (λ policy. codes "," ++ policy_text policy) (map (flat_policy lists) (range_with_len (group + 1) count))) (sym (item-behind lists group some))
    ∙ ap (λ (text : List ℕ). item_text lists group ++ text) (items-behind lists (group + 1) count (omega (arith, some)))

items-joined : (lists : EstateLists) (count : ℕ) → join_by policy_text (codes ",") (map (flat_policy lists) (range_with_len 0 count)) ≡ items lists 0 count
items-joined lists zero = refl
items-joined lists (suc count) =
    ap (λ (text : List ℕ). text ++ flat_map (λ policy. codes "," ++ policy_text policy) (map (flat_policy lists) (range_with_len (0 + 1) count))) (sym (item-first lists))
    ∙ ap (λ (text : List ℕ). item_text lists 0 ++ text) (items-behind lists (0 + 1) count (omega arith))

-- ---- what is left of the text

-- what stands behind the last policy
abbrev pub tail : List ℕ
tail = codes "],\"kind\":\"List\"}" ++ codes "\n"

-- the policies that are still to come, and what stands behind them
unfoldable pub to_come : EstateLists → ℕ → List ℕ
to_come lists group = items lists group (group_count lists - group) ++ tail

pub flatten_text-is : (lists : EstateLists) → flatten_text lists ≡ codes "{\"apiVersion\":\"v1\",\"items\":[" ++ to_come lists 0
unfolding flatten_text to_come
flatten_text-is lists =
    let front = codes "{\"apiVersion\":\"v1\",\"items\":[" in
    let end = codes "],\"kind\":\"List\"}" in
    let joined = join_by policy_text (codes ",") (flat_policies lists) in
    let whole : group_count lists - 0 ≡ group_count lists = omega arith in
    ap (λ (text : List ℕ). text ++ codes "\n") (list_text-joined (flat_policies lists))
    ∙ append_assoc front (joined ++ end) (codes "\n")
    ∙ ap (λ (text : List ℕ). front ++ text) (append_assoc joined end (codes "\n") ∙ ap (λ (text : List ℕ). text ++ (end ++ codes "\n")) (items-joined lists (group_count lists)))
    ∙ ap (λ (count : ℕ). front ++ (items lists 0 count ++ tail)) (sym whole)

pub to_come-next : (lists : EstateLists) (group : ℕ) → group < group_count lists → to_come lists group ≡ item_text lists group ++ to_come lists (group + 1)
unfolding to_come
to_come-next lists group within =
    let left : group_count lists - group ≡ suc (group_count lists - (group + 1)) = omega (arith, within) in
    ap (λ (count : ℕ). items lists group count ++ tail) left
    ∙ append_assoc (item_text lists group) (items lists (group + 1) (group_count lists - (group + 1))) tail

pub to_come-none : (lists : EstateLists) (group : ℕ) → group_count lists ≤ group → to_come lists group ≡ tail
unfolding to_come
to_come-none lists group all =
    let none : group_count lists - group ≡ 0 = omega (arith, all) in ap (λ (count : ℕ). items lists group count ++ tail) none

-- ---- the two workloads of a fault

abbrev Within : ℕ → ℕ × ℕ → Type 0
Within count pair = (pair.0 < count) × (pair.1 < count)

row-within : (count a from len : ℕ) → a < count → from + len ≤ count → All (Within count) (map (λ b. (a, b)) (range_with_len from len))
row-within count a from zero within fits = All-nil (Within count)
row-within count a from (suc len) within fits =
    All-cons (Within count) (a, from) (map (λ b. (a, b)) (range_with_len (from + 1) len)) (within, omega (arith, fits)) (row-within count a (from + 1) len within (omega (arith, fits)))

rows-within : (count from len : ℕ) → from + len ≤ count → All (Within count) (flat_map (λ a. map (λ b. (a, b)) (range_with_len 0 count)) (range_with_len from len))
rows-within count from zero fits = All-nil (Within count)
rows-within count from (suc len) fits =
    All-append (Within count) (map (λ b. (from, b)) (range_with_len 0 count)) (flat_map (λ a. map (λ b. (a, b)) (range_with_len 0 count)) (range_with_len (from + 1) len))
    (row-within count from 0 count (omega (arith, fits)) (omega arith)) (rows-within count (from + 1) len (omega (arith, fits)))

find-all : {X : Type 0} (P : X → Type 0) (test : X → Bool) (xs : List X) (x : X) → All P xs → find test xs ≡ Some x → P x
find-all P test [] x all found = absurd (cc)
find-all P test (y ∷ ys) x all found = by (test y) refl found (find-all P test ys x (All-tail P y ys all))
  where
    by : (passes : Bool) → test y ≡ passes → find test (y ∷ ys) ≡ Some x → (find test ys ≡ Some x → P x) → P x
    by true is found rest = let same : Some y ≡ Some x = rw is at found in subst P (let one : y ≡ x = cc in one) (All-head P y ys all)
    by false is found rest = rest (rw is at found)

pair-within : (test : ℕ → ℕ → Bool) (count : ℕ) (pair : ℕ × ℕ) → first_pair test count ≡ Some pair → Within count pair
unfolding first_pair
pair-within test count pair found = find-all (Within count) (λ (p : ℕ × ℕ). test p.0 p.1) (pairs_below count) pair (rows-within count 0 count (omega arith)) found

one_fault : (one other : FlatFault) → Some one ≡ Some other → one ≡ other
one_fault one other is = cc

pub fault-workloads : (lists : EstateLists) (fault : FlatFault) → (fault ≡ NoMemory) ⊎ (flat_fault lists ≡ Some fault) → AreWorkloads lists fault
unfolding flat_fault
fault-workloads lists fault which = elim which [
  | inl none ↦ subst (AreWorkloads lists) (sym none) tt
  | inr is ↦ by (first_pair (is_split lists) count) refl (first_pair (is_unlike lists) count) refl is
]
  where
    count : ℕ
    count = number_of_workloads lists

    by : (split : Option (ℕ × ℕ)) → first_pair (is_split lists) count ≡ split → (unlike : Option (ℕ × ℕ)) → first_pair (is_unlike lists) count ≡ unlike → fault_by split unlike ≡ Some fault →
        AreWorkloads lists fault
    by (Some pair) is_one unlike is_other is = subst (AreWorkloads lists) (one_fault (Split pair.0 pair.1) fault is) (pair-within (is_split lists) count pair is_one)
    by None is_one (Some pair) is_other is = subst (AreWorkloads lists) (one_fault (Alike pair.0 pair.1) fault is) (pair-within (is_unlike lists) count pair is_other)
    by None is_one None is_other is = absurd (cc)
