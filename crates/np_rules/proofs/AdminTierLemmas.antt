-- The first matching rule in the order of the policies is the one that decides. For `admin_action` and crates above.
use Rattle.std.proofs.Common.{◌≡◌, ℕ, ◌+◌, ◌<◌, ◌≤◌, List, [], ◌∷◌, ◌++◌, Bool, true, false, ◌&&◌, ◌||◌, ◌==◌, nat_lt, map, filter, length, take, get_or, Option, Some, refl, sym, ap, ◌∙◌, arith, if◌then◌else◌}
use Rattle.std.specs.List.{AllByRecursion, enumerate_from, find}
use Rattle.std.specs.Option.{option_map, option_or}
use Rattle.std.proofs.lemmas.Bool.Decides.{nat_tests}
use Rattle.std.proofs.lemmas.Bool.{and_parts, ltb-true}
use Rattle.std.proofs.Math.Seq.{take-length}
use Rattle.np_base.proofs.Each.{All-weaker, All-append}
use Rattle.np_base.proofs.Options.{option_map-or}
use Rattle.np_model.specs.Prelude.{HasAscendingPriorities, ascends}
use Rattle.np_rules.specs.Prelude.{Action, AdminPolicy, AdminRule, Contact, Direction, PlacedAdminRule, PodEnd, admin_decider, admin_places, admin_places_of, admin_precedes, admin_rule_matches, admin_rules_of, least_by, sooner, subject_selects}
use Rattle.np_rules.proofs.PlacesLemmas.{find-next, find-numbered, if_both}

-- ---- lists in order

-- no later item precedes an earlier one
abbrev pub IsInOrder : {X : Type 0} → (X → X → Bool) → List X → Type 0
IsInOrder precedes [] = Unit {0}
IsInOrder precedes (x ∷ xs) = AllByRecursion (λ y. precedes y x ≡ false) xs × IsInOrder precedes xs

-- an item stays first before those that do not precede it
stays_first : {X : Type 0} (precedes : X → X → Bool) (test : X → Bool) (x : X) (xs : List X) → AllByRecursion (λ y. precedes y x ≡ false) xs → sooner precedes x (find test xs) ≡ x
stays_first precedes test x [] later = refl
stays_first {X} precedes test x (y ∷ ys) later = go (test y) (stays_first precedes test x ys later.1)
  where
    go : (b : Bool) → sooner precedes x (find test ys) ≡ x → sooner precedes x (if b then Some y else find test ys) ≡ x
    go true rest = rw later.0 refl
    go false rest = rest

-- the least of the items that pass is the first of them
pub least_is_first : {X : Type 0} (precedes : X → X → Bool) (test : X → Bool) (xs : List X) → IsInOrder precedes xs → least_by precedes (filter test xs) ≡ find test xs
least_is_first precedes test [] ordered = refl
least_is_first {X} precedes test (x ∷ xs) ordered = go (test x) (least_is_first precedes test xs ordered.1)
  where
    go : (b : Bool) → least_by precedes (filter test xs) ≡ find test xs → least_by precedes (if b then x ∷ filter test xs else filter test xs) ≡ (if b then Some x else find test xs)
    go true rest = ap {A = X} Some (ap (sooner precedes x) rest ∙ stays_first precedes test x xs ordered.0)
    go false rest = rest

-- lists in order, one after another
InOrder-append : {X : Type 0} (precedes : X → X → Bool) (xs ys : List X) → IsInOrder precedes xs → IsInOrder precedes ys → AllByRecursion (λ x. AllByRecursion (λ y. precedes y x ≡ false) ys) xs →
    IsInOrder precedes (xs ++ ys)
InOrder-append precedes [] ys left right across = right
InOrder-append precedes (x ∷ xs) ys left right across =
    (All-append (λ y. precedes y x ≡ false) xs ys left.0 across.0, InOrder-append precedes xs ys left.1 right across.1)

-- ---- the rules of one policy

-- rules of a policy with their places from n on
abbrev pub placed_from : AdminPolicy → ℕ → List AdminRule → List PlacedAdminRule
placed_from policy n rules = map (λ numbered. record { policy = policy; place = numbered.0; rule = numbered.1 }) (enumerate_from n rules)

-- of two rules of one policy the later one does not precede
same_policy : (priority n m : ℕ) → n < m → (nat_lt priority priority || ((priority == priority) && nat_lt m n)) ≡ false
same_policy priority n m below = grind (arith, nat_tests)

-- nor does one of a policy with a greater priority
later_policy : (priority priority' n m : ℕ) → priority < priority' → (nat_lt priority' priority || ((priority' == priority) && nat_lt m n)) ≡ false
later_policy priority priority' n m below = grind (arith, nat_tests)

-- the rules from a later place on do not precede one at an earlier place
later_places : (policy : AdminPolicy) (rule : AdminRule) (n m : ℕ) (rules : List AdminRule) → n < m →
    AllByRecursion (λ y. admin_precedes y (record { policy = policy; place = n; rule = rule }) ≡ false) (placed_from policy m rules)
later_places policy rule n m [] below = tt
later_places policy rule n m (next ∷ rules) below = (same_policy policy.priority n m below, later_places policy rule n (m + 1) rules (omega arith))

places_in_order : (policy : AdminPolicy) (n : ℕ) (rules : List AdminRule) → IsInOrder admin_precedes (placed_from policy n rules)
places_in_order policy n [] = tt
places_in_order policy n (rule ∷ rules) = (later_places policy rule n (n + 1) rules (omega arith), places_in_order policy (n + 1) rules)

-- what holds of a policy's priority holds of that of each of its rules
of_policy : (P : ℕ → Type 0) (policy : AdminPolicy) (n : ℕ) (rules : List AdminRule) → P policy.priority → AllByRecursion (λ y. P y.policy.priority) (placed_from policy n rules)
of_policy P policy n [] holds = tt
of_policy P policy n (rule ∷ rules) holds = (holds, of_policy P policy (n + 1) rules holds)

-- ---- the rules of all policies

-- the rules of a policy, where it selects the pod
abbrev pub places_by : Direction → PodEnd → AdminPolicy → List PlacedAdminRule
places_by direction p policy = if subject_selects policy.subject p then admin_places_of direction policy else []

-- what holds of all items holds of them where there are any
if_any : {X : Type 0} (P : List X → Type 0) (b : Bool) (xs : List X) → P xs → P [] → P (if b then xs else [])
if_any P true xs some none = some
if_any P false xs some none = none

-- the rules of policies above a priority are above it
above : (direction : Direction) (p : PodEnd) (n : ℕ) (policies : List AdminPolicy) → ascends (n ∷ map (λ policy. policy.priority) policies) ≡ true →
    AllByRecursion (λ y. n < y.policy.priority) (admin_places policies direction p)
above direction p n [] ascending = tt
above direction p n (policy ∷ policies) ascending =
    let parts = and_parts _ _ ascending in
    let below : n < policy.priority = ltb-true _ _ parts.0 in
    All-append (λ y. n < y.policy.priority) (places_by direction p policy) (admin_places policies direction p)
    (if_any (AllByRecursion (λ y. n < y.policy.priority)) (subject_selects policy.subject p) (admin_places_of direction policy)
    (of_policy (λ k. n < k) policy 0 (admin_rules_of direction policy) below) tt)
    (All-weaker (λ y. policy.priority < y.policy.priority) (λ y. n < y.policy.priority) (λ y more. omega arith) (admin_places policies direction p)
    (above direction p policy.priority policies parts.1))

-- no rule above a priority precedes one of a policy of it
across : (direction : Direction) (policy : AdminPolicy) (n : ℕ) (rules : List AdminRule) (others : List PlacedAdminRule) → AllByRecursion (λ y. policy.priority < y.policy.priority) others →
    AllByRecursion (λ x. AllByRecursion (λ y. admin_precedes y x ≡ false) others) (placed_from policy n rules)
across direction policy n [] others later = tt
across direction policy n (rule ∷ rules) others later = (
  All-weaker (λ y. policy.priority < y.policy.priority) (λ y. admin_precedes y (record { policy = policy; place = n; rule = rule }) ≡ false)
      (λ y more. later_policy policy.priority y.policy.priority n y.place more) others later,
  across direction policy (n + 1) rules others later,
)

all_in_order : (direction : Direction) (p : PodEnd) (policies : List AdminPolicy) → ascends (map (λ policy. policy.priority) policies) ≡ true →
    IsInOrder admin_precedes (admin_places policies direction p)
all_in_order direction p [] ascending = tt
all_in_order direction p (policy ∷ policies) ascending =
    let rest = admin_places policies direction p in
    InOrder-append admin_precedes (places_by direction p policy) rest
    (if_any (IsInOrder admin_precedes) (subject_selects policy.subject p) (admin_places_of direction policy) (places_in_order policy 0 (admin_rules_of direction policy)) tt)
    (all_in_order direction p policies (ascends_rest policy.priority (map (λ q. q.priority) policies) ascending))
    (if_any (AllByRecursion (λ x. AllByRecursion (λ y. admin_precedes y x ≡ false) rest)) (subject_selects policy.subject p) (admin_places_of direction policy)
    (across direction policy 0 (admin_rules_of direction policy) rest (above direction p policy.priority policies ascending)) tt)
  where
    ascends_rest : (n : ℕ) (ns : List ℕ) → ascends (n ∷ ns) ≡ true → ascends ns ≡ true
    ascends_rest n [] asc = refl
    ascends_rest n (m ∷ ns) asc = (and_parts _ _ asc).1

-- The rule that decides is the first in the order of the policies that matches.
pub decider_is_first : (policies : List AdminPolicy) (direction : Direction) (p : PodEnd) (contact : Contact) → HasAscendingPriorities policies →
    admin_decider policies direction p contact ≡ find (λ placed. admin_rule_matches placed.rule contact) (admin_places policies direction p)
decider_is_first policies direction p contact ascending =
    least_is_first admin_precedes (λ placed. admin_rule_matches placed.rule contact) (admin_places policies direction p) (all_in_order direction p policies ascending)

-- ---- one policy more

-- what the first matching rule of one policy more says
pub action-next : (policies : List AdminPolicy) (direction : Direction) (p : PodEnd) (contact : Contact) (i : ℕ) (policy : AdminPolicy) (decided here made : Option Action) → i < length policies →
    policy ≡ get_or policies i policy → decided ≡ option_map (λ placed. placed.rule.action) (find (λ placed. admin_rule_matches placed.rule contact) (admin_places (take i policies) direction p)) →
    here ≡ option_map (λ rule. rule.action) (find (λ rule. admin_rule_matches rule contact) (if subject_selects policy.subject p then admin_rules_of direction policy else [])) →
    made ≡ option_or decided here → made ≡ option_map (λ placed. placed.rule.action) (find (λ placed. admin_rule_matches placed.rule contact) (admin_places (take (i + 1) policies) direction p))
action-next policies direction p contact i policy decided here made within is so_far is_here joined =
    let test : PlacedAdminRule → Bool = λ placed. admin_rule_matches placed.rule contact in
    let says : PlacedAdminRule → Action = λ placed. placed.rule.action in
    let found : option_map says (find test (places_by direction p policy)) ≡ here = if_both
    (λ xs ys. option_map says (find test xs) ≡ option_map (λ rule. rule.action) (find (λ rule. admin_rule_matches rule contact) ys)) (subject_selects policy.subject p)
    (admin_places_of direction policy) (admin_rules_of direction policy)
    (find-numbered (λ numbered. record { policy = policy; place = numbered.0; rule = numbered.1 }) (λ rule. admin_rule_matches rule contact) test (λ rule. rule.action) says (λ numbered. refl)
    (λ numbered. refl) 0 (admin_rules_of direction policy)) refl ∙ sym is_here in
    sym (ap (option_map says) (find-next test (places_by direction p) policies i policy within is)
    ∙ option_map-or says (find test (admin_places (take i policies) direction p)) (find test (places_by direction p policy))
    ∙ ap (λ a. option_or a (option_map says (find test (places_by direction p policy)))) (sym so_far)
    ∙ ap (option_or decided) found
    ∙ sym joined)

-- after the last policy
pub action-all : (policies : List AdminPolicy) (direction : Direction) (p : PodEnd) (contact : Contact) (i : ℕ) (decided : Option Action) → HasAscendingPriorities policies → i ≤ length policies →
    length policies ≤ i → decided ≡ option_map (λ placed. placed.rule.action) (find (λ placed. admin_rule_matches placed.rule contact) (admin_places (take i policies) direction p)) →
    decided ≡ option_map (λ placed. placed.rule.action) (admin_decider policies direction p contact)
action-all policies direction p contact i decided ascending within past so_far =
    let whole : take i policies ≡ policies = ap (λ k. take k policies) (le_antisym within past) ∙ take-length policies in
    so_far
    ∙ ap (λ qs. option_map (λ placed. placed.rule.action) (find (λ placed. admin_rule_matches placed.rule contact) (admin_places qs direction p))) whole
    ∙ ap (option_map (λ placed. placed.rule.action)) (sym (decider_is_first policies direction p contact ascending))
  where
    le_antisym : {a b : ℕ} → a ≤ b → b ≤ a → a ≡ b
    le_antisym below above = omega arith
