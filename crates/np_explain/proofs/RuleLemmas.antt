-- The rules of a pod's side: those of NetworkPolicies stand in order, and no two of one tier have one name.
-- For MarkLemmas, NamedLemmas and 2 more.
use Rattle.std.proofs.Common.{◌≡◌, ◌≢◌, ℕ, ◌<◌, List, [], ◌∷◌, ◌++◌, Bool, true, false, not, codes, nat_lt, find, map, Some, None, Option, All, AllPairs, Ordering, Less, Equal, Greater, refl, sym, ◌∙◌, ap, arith, unwrap_or, if◌then◌else◌}
use Rattle.std.specs.Cmp.Lexicographic.{slice_cmp}
use Rattle.std.specs.List.{enumerate_from}
use Rattle.std.specs.Ordering.{match_ordering, nat_cmp, ordering_reverse}
use Rattle.std.proofs.lemmas.Bool.{and_parts, false≢true}
use Rattle.std.proofs.lemmas.Bool.Decides.{nat_tests}
use Rattle.std.proofs.lemmas.Cmp.{nat_list_cmp_total, tied_itself}
use Rattle.std.proofs.lemmas.List.{append_cancel_left}
use Rattle.std.proofs.lemmas.List.Elements.{All-nil, recursion_from_All}
use Rattle.std.proofs.lemmas.Slice.Eq.{bytes_eq-Decides}
use Rattle.np_base.proofs.Lists.{AllPairs-head, AllPairs-tail}
use Rattle.np_addr.proofs.Pairs.{AllPairs-nil}
use Rattle.np_model.specs.Prelude.{AreNamesApart, PolicyStandsBefore, decides_before}
use Rattle.np_explain.specs.Prelude.{AdminPolicy, BasePolicy, Direction, NetPolicy, RuleName}
use Rattle.np_rules.specs.Prelude.{Contact, PlacedAdminRule, PlacedNetRule, PodEnd, admin_places, admin_places_of, admin_rule_name, admin_rules_of, base_places, base_rule_name, base_rules_of, net_decider, net_places, net_places_of, net_precedes, net_rule_name, net_rules_of, net_selects, placed_net_matches, subject_selects}
use Rattle.np_rules.proofs.AdminTierLemmas.{IsInOrder, least_is_first, places_by as admin_places_by}
use Rattle.np_rules.proofs.NetTierLemmas.{places_by as net_places_by}
use Rattle.np_explain.proofs.PlaceLemmas.{all_made, numbered_pairs, pairs_flat}

-- what relates two items of which the same holds
pairs_with : {X : Type 0} (P : X → Type 0) (S R : X → X → Type 0) → ((x y : X) → P x → P y → S x y → R x y) → (xs : List X) → All P xs → AllPairs S xs → AllPairs R xs
pairs_with P S R both xs all pairs = λ i j d before within. both _ _ (all i d (omega arith)) (all j d within) (pairs i j d before within)

-- what holds of a list holds of it where it is chosen, and else of none
pub if_any : {X : Type 0} (P : List X → Type 0) (b : Bool) (xs : List X) → (b ≡ true → P xs) → P [] → P (if b then xs else [])
if_any P true xs some none = some refl
if_any P false xs some none = none

-- ---- NetworkPolicies

-- a rule of a policy that selects the pod is of the pod's namespace
record IsNetOf (p : PodEnd) (policy : NetPolicy) (placed : PlacedNetRule) : Type 0 where
  pub owner : placed.policy ≡ policy
  pub namespace : policy.namespace ≡ p.namespace

-- a rule stands before another, of one namespace
record Before (x y : PlacedNetRule) : Type 0 where
  pub precedes : net_precedes x y ≡ true
  pub namespace : x.policy.namespace ≡ y.policy.namespace

net_of : (direction : Direction) (p : PodEnd) (policy : NetPolicy) → All (IsNetOf p policy) (net_places_by direction p policy)
net_of direction p policy =
    if_any (All (IsNetOf p policy)) (net_selects policy p) (net_places_of direction policy)
    (λ selects. all_made (IsNetOf p policy) (λ numbered. record { policy = policy; place = numbered.0; rule = numbered.1 })
    (λ numbered. record { owner = refl; namespace = (bytes_eq-Decides policy.namespace p.namespace).0 (and_parts _ _ selects).0 })
    0 (unwrap_or (net_rules_of direction policy) []))
    (All-nil (IsNetOf p policy))

lt_true : (a b : ℕ) → a < b → nat_lt a b ≡ true
lt_true a b below = grind (arith, nat_tests)

-- by the names of the policies, and in one policy by the places
precedes_by : (x y : PlacedNetRule) (o : Ordering) → slice_cmp nat_cmp x.policy.name y.policy.name ≡ o → match_ordering o true (nat_lt x.place y.place) false ≡ true → net_precedes x y ≡ true
precedes_by x y o is holds = ap (λ (r : Ordering). match_ordering r true (nat_lt x.place y.place) false) is ∙ holds

one_net : (p : PodEnd) (policy : NetPolicy) (x y : PlacedNetRule) → IsNetOf p policy x → IsNetOf p policy y → x.place < y.place → Before x y
one_net p policy x y of_x of_y below =
    let name : NetPolicy → List ℕ = λ q. q.name in
    let space : NetPolicy → List ℕ = λ q. q.namespace in
    let same : x.policy ≡ y.policy = of_x.owner ∙ sym of_y.owner in
    record {
      precedes = precedes_by x y Equal (ap (slice_cmp nat_cmp x.policy.name) (sym (ap name same)) ∙ tied_itself nat_list_cmp_total x.policy.name) (lt_true x.place y.place below);
      namespace = ap space same;
    }

stands_less : (first second : Ordering) → first ≡ Equal → decides_before first second ≡ true → second ≡ Less
stands_less Equal Less is before = refl
stands_less Equal Equal is before = absurd (false≢true before)
stands_less Equal Greater is before = absurd (false≢true before)
stands_less Less second is before = cc
stands_less Greater second is before = cc

two_nets : (p : PodEnd) (a b : NetPolicy) (x y : PlacedNetRule) → PolicyStandsBefore a b → IsNetOf p a x → IsNetOf p b y → Before x y
two_nets p a b x y stands of_x of_y =
    let name : NetPolicy → List ℕ = λ q. q.name in
    let space : NetPolicy → List ℕ = λ q. q.namespace in
    let spaces : a.namespace ≡ b.namespace = of_x.namespace ∙ sym of_y.namespace in
    let equal : slice_cmp nat_cmp a.namespace b.namespace ≡ Equal = ap (slice_cmp nat_cmp a.namespace) (sym spaces) ∙ tied_itself nat_list_cmp_total a.namespace in
    let less : slice_cmp nat_cmp a.name b.name ≡ Less = stands_less _ _ equal stands in
    let names : slice_cmp nat_cmp x.policy.name y.policy.name ≡ slice_cmp nat_cmp a.name b.name = ap (λ n. slice_cmp nat_cmp n y.policy.name) (ap name of_x.owner) ∙ ap (slice_cmp nat_cmp a.name)
    (ap name of_y.owner) in
    record {
      precedes = precedes_by x y Less (names ∙ less) refl;
      namespace = ap space of_x.owner ∙ spaces ∙ sym (ap space of_y.owner);
    }

all_nets : (policies : List NetPolicy) (direction : Direction) (p : PodEnd) → AllPairs PolicyStandsBefore policies → AllPairs Before (net_places policies direction p)
all_nets policies direction p ascend =
    pairs_flat Before PolicyStandsBefore (IsNetOf p) (net_places_by direction p) (net_of direction p)
    (λ policy. if_any (λ placed. All (IsNetOf p policy) placed → AllPairs Before placed) (net_selects policy p) (net_places_of direction policy)
    (λ selects all. pairs_with (IsNetOf p policy) (λ x y. x.place < y.place) Before (one_net p policy) (net_places_of direction policy) all
    (numbered_pairs (λ placed. placed.place) (λ numbered. record { policy = policy; place = numbered.0; rule = numbered.1 }) (λ numbered. refl) 0 (unwrap_or (net_rules_of direction policy) [])))
    (λ all. AllPairs-nil Before) (net_of direction p policy))
    (λ a b x y. two_nets p a b x y) policies ascend

lt_false : (a b : ℕ) → nat_lt a b ≡ true → nat_lt b a ≡ false
lt_false a b below = grind (arith, nat_tests)

not_back : (o : Ordering) (m n : ℕ) → match_ordering (ordering_reverse o) true (nat_lt m n) false ≡ true → match_ordering o true (nat_lt n m) false ≡ false
not_back Less m n holds = absurd (false≢true holds)
not_back Equal m n holds = lt_false m n holds
not_back Greater m n holds = refl

-- what stands before is not preceded
before_holds : (x y : PlacedNetRule) → Before x y → net_precedes y x ≡ false
before_holds x y before =
    not_back (slice_cmp nat_cmp y.policy.name x.policy.name) x.place y.place
    (ap (λ (r : Ordering). match_ordering r true (nat_lt x.place y.place) false) (sym (nat_list_cmp_total.antisymm x.policy.name y.policy.name)) ∙ before.precedes)

in_order : (xs : List PlacedNetRule) → AllPairs Before xs → IsInOrder net_precedes xs
in_order [] pairs = tt
in_order (x ∷ xs) pairs =
    (recursion_from_All (λ y. net_precedes y x ≡ false) xs (λ k d within. before_holds x _ (AllPairs-head Before x xs pairs k d within)), in_order xs (AllPairs-tail Before x xs pairs))

-- The rule that decides is the first in the order of the policies that matches.
pub net_decider_is_first : (policies : List NetPolicy) (direction : Direction) (p : PodEnd) (contact : Contact) → AllPairs PolicyStandsBefore policies →
    net_decider policies direction p contact ≡ find (placed_net_matches contact) (net_places policies direction p)
net_decider_is_first policies direction p contact ascend =
    least_is_first net_precedes (placed_net_matches contact) (net_places policies direction p) (in_order (net_places policies direction p) (all_nets policies direction p ascend))

lt_never : (n : ℕ) → nat_lt n n ≡ true → ⊥
lt_never n below = absurd (grind (arith, nat_tests))

net_named_apart : (x y : PlacedNetRule) → Before x y → net_rule_name x ≢ net_rule_name y
net_named_apart x y before same =
    let policy_of : RuleName → List ℕ = λ rule. rule.policy in
    let place_of : RuleName → ℕ = λ rule. rule.place in
    let named : List ℕ → List ℕ = λ space. space ++ codes "/" ++ y.policy.name in
    let texts : x.policy.namespace ++ codes "/" ++ x.policy.name ≡ x.policy.namespace ++ codes "/" ++ y.policy.name = ap policy_of same ∙ ap named (sym before.namespace) in
    let names : x.policy.name ≡ y.policy.name = append_cancel_left (x.policy.namespace ++ codes "/") x.policy.name y.policy.name texts in
    let equal : slice_cmp nat_cmp x.policy.name y.policy.name ≡ Equal = ap (slice_cmp nat_cmp x.policy.name) (sym names) ∙ tied_itself nat_list_cmp_total x.policy.name in
    let below : nat_lt x.place y.place ≡ true = ap (λ (r : Ordering). match_ordering r true (nat_lt x.place y.place) false) (sym equal) ∙ before.precedes in
    lt_never y.place (ap (λ n. nat_lt n y.place) (sym (ap place_of same)) ∙ below)

pub net_names_apart : (policies : List NetPolicy) (direction : Direction) (p : PodEnd) → AllPairs PolicyStandsBefore policies →
    AllPairs (λ x y. net_rule_name x ≢ net_rule_name y) (net_places policies direction p)
net_names_apart policies direction p ascend = λ i j d before within. net_named_apart _ _ (all_nets policies direction p ascend i j d before within)

-- ---- admin policies

abbrev IsAdminOf : AdminPolicy → PlacedAdminRule → Type 0
IsAdminOf policy placed = placed.policy ≡ policy

admin_of : (direction : Direction) (p : PodEnd) (policy : AdminPolicy) → All (IsAdminOf policy) (admin_places_by direction p policy)
admin_of direction p policy =
    if_any (All (IsAdminOf policy)) (subject_selects policy.subject p) (admin_places_of direction policy)
    (λ selects. all_made (IsAdminOf policy) (λ numbered. record { policy = policy; place = numbered.0; rule = numbered.1 }) (λ numbered. refl) 0 (admin_rules_of direction policy))
    (All-nil (IsAdminOf policy))

places_differ : (x y : RuleName) → x.place < y.place → x ≢ y
places_differ x y below same = let place_of : RuleName → ℕ = λ rule. rule.place in absurd (omega (arith, ap place_of same))

two_admins : (a b : AdminPolicy) (x y : PlacedAdminRule) → AreNamesApart a b → IsAdminOf a x → IsAdminOf b y → admin_rule_name x ≢ admin_rule_name y
two_admins a b x y apart of_x of_y same =
    let policy_of : RuleName → List ℕ = λ rule. rule.policy in
    let name : AdminPolicy → List ℕ = λ q. q.name in
    let names : a.name ≡ b.name = sym (ap name of_x) ∙ ap policy_of same ∙ ap name of_y in
    absurd (false≢true (ap not (sym ((bytes_eq-Decides a.name b.name).1 names)) ∙ apart))

pub admin_names_apart : (policies : List AdminPolicy) (direction : Direction) (p : PodEnd) → AllPairs AreNamesApart policies →
    AllPairs (λ x y. admin_rule_name x ≢ admin_rule_name y) (admin_places policies direction p)
admin_names_apart policies direction p apart =
    pairs_flat (λ x y. admin_rule_name x ≢ admin_rule_name y) AreNamesApart IsAdminOf (admin_places_by direction p) (admin_of direction p)
    (λ policy. if_any (AllPairs (λ x y. admin_rule_name x ≢ admin_rule_name y)) (subject_selects policy.subject p) (admin_places_of direction policy)
    (λ selects i j d before within. places_differ _ _ (numbered_pairs (λ placed. placed.place) (λ numbered. record { policy = policy; place = numbered.0; rule = numbered.1 }) (λ numbered. refl) 0
    (admin_rules_of direction policy) i j d before within))
    (AllPairs-nil (λ x y. admin_rule_name x ≢ admin_rule_name y)))
    two_admins policies apart

-- ---- the baseline

pub base_names_apart : (baseline : Option BasePolicy) (direction : Direction) (p : PodEnd) → AllPairs (λ x y. base_rule_name x ≢ base_rule_name y) (base_places baseline direction p)
base_names_apart None direction p = AllPairs-nil (λ x y. base_rule_name x ≢ base_rule_name y)
base_names_apart (Some policy) direction p =
    if_any (AllPairs (λ x y. base_rule_name x ≢ base_rule_name y)) (subject_selects policy.subject p)
    (map (λ numbered. record { place = numbered.0; rule = numbered.1 }) (enumerate_from 0 (base_rules_of direction policy)))
    (λ selects i j d before within. places_differ _ _ (numbered_pairs (λ placed. placed.place) (λ numbered. record { place = numbered.0; rule = numbered.1 }) (λ numbered. refl) 0
    (base_rules_of direction policy) i j d before within))
    (AllPairs-nil (λ x y. base_rule_name x ≢ base_rule_name y))
