-- What decides says what the side says, and the first matching admin rule decides.
-- For `decider_gives_the_verdict`, `first_admin_rule_decides` and crates above.
use Rattle.std.proofs.Common.{◌≡◌, ◌≢◌, ℕ, List, [], ◌∷◌, Bool, true, false, ◌&&◌, ◌||◌, ◌==◌, nat_lt, filter, Option, Some, None, is_some, refl, sym, ◌∙◌, subst, arith, inl, inr, if◌then◌else◌}
use Rattle.std.specs.List.{AllByRecursion, list_any}
use Rattle.std.proofs.lemmas.Bool.Decides.{nat_tests}
use Rattle.np_base.proofs.Each.{All-weaker}
use Rattle.np_base.proofs.Options.{some_is}
use Rattle.np_rules.specs.Prelude.{Action, Allow, Contact, Decider, Deny, Direction, EstateLists, IsAmong, ModelEnd, Pass, PlacedAdminRule, PlacedBaseRule, PlacedNetRule, PodEnd, RuleName, action_decides, address, admin_decider, admin_decides, admin_precedes, admin_rule_name, admin_says, base_decider, base_decides, base_says, decider, decider_allows, end_allows, is_isolated, isolating_names, least_by, lower_allows, lower_decider, net_decider, net_decides, net_places, net_precedes, permits, placed_net_matches, pod, side_allows, sooner}
use Rattle.np_model.specs.Prelude.{action_says}

-- ---- what decides says what the side says

action_part : (action : Action) (rule : RuleName) (lower : Option RuleName → Decider) (below : Bool) → ((pass : Option RuleName) → decider_allows (lower pass) ≡ below) →
    decider_allows (action_decides action rule lower) ≡ action_says action below
action_part Allow rule lower below lowers = refl
action_part Deny rule lower below lowers = refl
action_part Pass rule lower below lowers = lowers (Some rule)

admin_part : (decides : Option PlacedAdminRule) (lower : Option RuleName → Decider) (below : Bool) → ((pass : Option RuleName) → decider_allows (lower pass) ≡ below) →
    decider_allows (admin_decides decides lower) ≡ admin_says decides below
admin_part None lower below lowers = lowers None
admin_part (Some placed) lower below lowers = action_part placed.rule.action (admin_rule_name placed) lower below lowers

net_part : (pass : Option RuleName) (names : List (List ℕ)) (decides : Option PlacedNetRule) → decider_allows (net_decides pass names decides) ≡ is_some decides
net_part pass names None = refl
net_part pass names (Some placed) = refl

base_part : (pass : Option RuleName) (decides : Option PlacedBaseRule) → decider_allows (base_decides pass decides) ≡ base_says decides
base_part pass None = refl
base_part pass (Some placed) = refl

-- there is a least item that passes where some item passes
least_some : {X : Type 0} (precedes : X → X → Bool) (test : X → Bool) (xs : List X) → is_some (least_by precedes (filter test xs)) ≡ list_any test xs
least_some precedes test [] = refl
least_some {X} precedes test (x ∷ xs) = go (test x) (least_some precedes test xs)
  where
    go : (b : Bool) → is_some (least_by precedes (filter test xs)) ≡ list_any test xs → is_some (least_by precedes (if b then x ∷ filter test xs else filter test xs)) ≡ (b || list_any test xs)
    go true rest = refl
    go false rest = rest

lower_part : (lists : EstateLists) (direction : Direction) (p : PodEnd) (contact : Contact) (pass : Option RuleName) →
    decider_allows (lower_decider lists direction p contact pass) ≡ lower_allows lists direction p contact
lower_part lists direction p contact pass = go (is_isolated lists.net_policies direction p)
  where
    names : List (List ℕ)
    names = isolating_names lists.net_policies direction p

    go : (b : Bool) →
        decider_allows (if b then net_decides pass names (net_decider lists.net_policies direction p contact) else base_decides pass (base_decider lists.baseline direction p contact)) ≡
        (if b then permits lists.net_policies direction p contact else base_says (base_decider lists.baseline direction p contact))
    go true = net_part pass names (net_decider lists.net_policies direction p contact) ∙ least_some net_precedes (placed_net_matches contact) (net_places lists.net_policies direction p)
    go false = base_part pass (base_decider lists.baseline direction p contact)

pub decider_says : (lists : EstateLists) (direction : Direction) (end : ModelEnd) (contact : Contact) → decider_allows (decider lists direction end contact) ≡ end_allows lists direction end contact
unfolding side_allows
decider_says lists direction (pod p) contact = admin_part (admin_decider lists.admin_policies direction p contact) (lower_decider lists direction p contact) (lower_allows lists direction p contact)
    (lower_part lists direction p contact)
decider_says lists direction (address a) contact = refl

-- ---- the first matching admin rule decides

none_sooner : {X : Type 0} (precedes : X → X → Bool) (item : X) (items : List X) → least_by precedes (item ∷ items) ≢ None
none_sooner precedes item items is = cc

pub none_is_empty : {X : Type 0} (precedes : X → X → Bool) (items : List X) → least_by precedes items ≡ None → items ≡ []
none_is_empty precedes [] none = refl
none_is_empty precedes (item ∷ items) none = absurd (none_sooner precedes item items none)

pub least_is_among : {X : Type 0} (precedes : X → X → Bool) (items : List X) (least : X) → least_by precedes items ≡ Some least → IsAmong least items
least_is_among precedes [] least is = absurd (nothing is)
  where
    nothing : None ≡ Some least → ⊥
    nothing same = cc
least_is_among {X} precedes (item ∷ items) least is = go (least_by precedes items) refl (least_is_among precedes items) (some_is _ _ is)
  where
    go : (rest : Option X) → least_by precedes items ≡ rest → ((other : X) → least_by precedes items ≡ Some other → IsAmong other items) → sooner precedes item rest ≡ least →
        IsAmong least (item ∷ items)
    go None found among chosen = inl (sym chosen)
    go (Some other) found among chosen = pick (precedes other item) chosen
      where
        pick : (b : Bool) → (if b then other else item) ≡ least → IsAmong least (item ∷ items)
        pick true same = inr (subst (λ (x : X). IsAmong x items) same (among other found))
        pick false same = inl (sym same)

-- an order in which what does not precede is passed on
pub record IsOrder {X : Type 0} (precedes : X → X → Bool) : Type 0 where
  pub apart : (a b : X) → precedes a b ≡ true → precedes b a ≡ false
  pub never : (a : X) → precedes a a ≡ false
  pub along : (a b c : X) → precedes a b ≡ false → precedes b c ≡ false → precedes a c ≡ false

pub least_is_first : {X : Type 0} (precedes : X → X → Bool) → IsOrder precedes → (items : List X) (least : X) → least_by precedes items ≡ Some least →
    AllByRecursion (λ other. precedes other least ≡ false) items
least_is_first precedes order [] least is = tt
least_is_first {X} precedes order (item ∷ items) least is = go (least_by precedes items) refl (least_is_first precedes order items) (some_is _ _ is)
  where
    go : (rest : Option X) → least_by precedes items ≡ rest → ((other : X) → least_by precedes items ≡ Some other → AllByRecursion (λ o. precedes o other ≡ false) items) →
        sooner precedes item rest ≡ least → AllByRecursion (λ other. precedes other least ≡ false) (item ∷ items)
    go None found first chosen = subst (λ (x : X). AllByRecursion (λ other. precedes other x ≡ false) (item ∷ items)) chosen
        (order.never item, subst (λ (xs : List X). AllByRecursion (λ other. precedes other item ≡ false) xs) (sym (none_is_empty precedes items found)) tt)
    go (Some other) found first chosen = pick (precedes other item) refl chosen
      where
        pick : (b : Bool) → precedes other item ≡ b → (if b then other else item) ≡ least → AllByRecursion (λ o. precedes o least ≡ false) (item ∷ items)
        pick true before same = subst (λ (x : X). AllByRecursion (λ o. precedes o x ≡ false) (item ∷ items)) same (order.apart other item before, first other found)
        pick false before same = subst (λ (x : X). AllByRecursion (λ o. precedes o x ≡ false) (item ∷ items)) same
            (order.never item, All-weaker (λ o. precedes o other ≡ false) (λ o. precedes o item ≡ false) (λ o behind. order.along o other item behind before) items (first other found))

-- ---- the order of admin rules

admin_apart : (a x b y : ℕ) → (nat_lt a b || ((a == b) && nat_lt x y)) ≡ true → (nat_lt b a || ((b == a) && nat_lt y x)) ≡ false
admin_apart a x b y is = grind (arith, nat_tests)

admin_never : (a x : ℕ) → (nat_lt a a || ((a == a) && nat_lt x x)) ≡ false
admin_never a x = grind (arith, nat_tests)

admin_along : (a x b y c z : ℕ) → (nat_lt a b || ((a == b) && nat_lt x y)) ≡ false → (nat_lt b c || ((b == c) && nat_lt y z)) ≡ false → (nat_lt a c || ((a == c) && nat_lt x z)) ≡ false
admin_along a x b y c z first second = grind (arith, nat_tests)

pub admin_order : IsOrder admin_precedes
admin_order = record {
  apart = λ a b. admin_apart a.policy.priority a.place b.policy.priority b.place;
  never = λ a. admin_never a.policy.priority a.place;
  along = λ a b c. admin_along a.policy.priority a.place b.policy.priority b.place c.policy.priority c.place;
}
