-- The ports of a workload that are reached, and the rules that are looked at for them.
-- For `Routes::ingress_set`, `sent_in_some` and 2 more.
use Rattle.std.proofs.Common.{◌≡◌, ◌<◌, ◌≤◌, ◌+◌, ℕ, List, [], ◌∷◌, ◌++◌, Bool, true, false, ◌&&◌, ◌||◌, Contains, Option, Some, None, eqb, length, get_or, take, arith, refl, sym, ap, subst, ◌∙◌}
use Rattle.std.specs.List.{list_any}
use Rattle.std.specs.Option.{option_eq}
use Rattle.std.proofs.Math.Nat.{mul-le-mul_right}
use Rattle.std.proofs.lemmas.List.{get_or_default}
use Rattle.std.proofs.lemmas.List.Folds.{list_any-append, list_any_more}
use Rattle.std.proofs.Math.Bool.{or-false}
use Rattle.np_routes.specs.Prelude.{Egress, EstateLists, Family, Ingress, PortSpot, Sender, ingress_allows, ingress_reaches, ingress_steps, is_controller, is_routed, may_send, reaches, send_steps, sender_for, sender_of, sends}
use Rattle.np_conns.specs.Prelude.{Conns, IsConns, conns_of, has_spot, is_spot}
use Rattle.np_model.specs.Prelude.{IsLawful, families_of}
use Rattle.np_fold.proofs.WorkloadLemmas.{number-in_workloads}
use Rattle.np_fold.specs.Prelude.{folding_of, members_of, workload_number}
use Rattle.np_routes.proofs.KindRoutes.{one_workload-alike, reaches-same}
use Rattle.np_rules.specs.Prelude.{pod_at, side_of, side_rule_count}
use Rattle.np_kinds.proofs.MemberLemmas.{member-number, members-some, members-within, own-member, source-member}
use Rattle.np_conns.proofs.ConnLemmas.{conns_of-has, conns_of-set}
use Rattle.np_kinds.specs.Prelude.{IsWorkload, first_side, source_pod}
use Rattle.np_table.proofs.SideLemmas.{families-few}

-- ---- the sender

sends-is : (lists : EstateLists) (controller : Option ℕ) (place : ℕ) (spot : PortSpot) →
    sends (sender_for lists controller) (side_of lists place Ingress) (families_of lists.pods) spot ≡ may_send lists (sender_of (folding_of lists) controller) place spot
sends-is lists None place spot = refl
sends-is lists (Some number) place spot = refl

-- what the joined set has is what some item up to the next one has
joins-next : {X : Type 0} (has : X → Bool) (items : List X) (i : ℕ) (item : X) (so_far here made : Bool) → i < length items → item ≡ get_or items i item → made ≡ (so_far || here) →
    so_far ≡ list_any has (take i items) → here ≡ has item → made ≡ list_any has (take (i + 1) items)
joins-next {X} has items i item so_far here made below is joined before at =
    let or_here : Bool → Bool = λ b. b || here in
    let or_at : Bool → Bool = λ b. list_any has (take i items) || b in
    joined ∙ ap or_here before ∙ ap or_at (at ∙ ap has is) ∙ sym (list_any_more has items i item below)

-- the sets of the families so far and of one more have what passes in some of these
pub sets-next : (passes : Family → PortSpot → Bool) (families : List Family) (i : ℕ) (d : Family) (sets more : List Conns) (set : Conns) (spot : PortSpot) → i < length families →
    more ≡ sets ++ set ∷ [] → set ≡ conns_of (passes (get_or families i d)) → is_spot spot ≡ true
    → list_any (λ one. has_spot one spot) sets ≡ list_any (λ one. passes one spot) (take i families) → list_any (λ one. has_spot one spot) more ≡ list_any (λ one. passes one spot)
    (take (i + 1) families)
sets-next passes families i d sets more set spot within pushed made is before =
    let family = get_or families i d in
    let item = get_or_default families i d family within in
    joins-next (λ (one : Family). passes one spot) families i family (list_any (λ one. has_spot one spot) sets) (has_spot set spot) (list_any (λ one. has_spot one spot) more) within item
    (ap (list_any (λ one. has_spot one spot)) pushed ∙ list_any-append (λ one. has_spot one spot) sets (set ∷ []) ∙ ap (λ (b : Bool). list_any (λ one. has_spot one spot) sets || b)
    (or-false (has_spot set spot)))
    before (ap (λ (conns : Conns). has_spot conns spot) made ∙ conns_of-has (passes family) spot is)

-- ---- rules that are looked at

steps-most : (lists : EstateLists) (controller : Option ℕ) (workload : ℕ) →
    send_steps (sender_for lists controller) (first_side lists Ingress workload) (families_of lists.pods) ≤ ingress_steps lists controller workload
steps-most lists None workload = omega arith
steps-most lists (Some number) workload = mul-le-mul_right (side_rule_count (first_side lists Egress number) + side_rule_count (first_side lists Ingress workload)) (families-few lists.pods)

-- no more are looked at than twice those of both
pub send_steps-most : (lists : EstateLists) (controller : Option ℕ) (workload place : ℕ) (backends : EstateLists) (sender : Sender) → place ≡ source_pod (folding_of lists) workload →
    backends ≡ lists → sender ≡ sender_for lists controller → send_steps sender (side_of backends place Ingress) (families_of backends.pods) ≤ ingress_steps lists controller workload
send_steps-most lists controller workload place backends sender stands same sent =
    let is = ap (λ (l : EstateLists). send_steps sender (side_of l place Ingress) (families_of l.pods)) same ∙ ap
    (λ (s : Sender). send_steps s (side_of lists place Ingress) (families_of lists.pods)) sent ∙ ap
    (λ (p : ℕ). send_steps (sender_for lists controller) (side_of lists p Ingress) (families_of lists.pods)) stands in
    subst (λ (n : ℕ). n ≤ ingress_steps lists controller workload) (sym is) (steps-most lists controller workload)

-- ---- the set of a workload

-- whether a workload is the controller, as the code asks it
controller-eq : (controller : Option ℕ) (workload : ℕ) → is_controller controller workload ≡ option_eq eqb controller (Some workload)
controller-eq None workload = refl
controller-eq (Some number) workload = refl

pub controller-asked : (controller controller' : Option ℕ) (workload : ℕ) (asked answer : Bool) → controller' ≡ controller → asked ≡ option_eq eqb controller' (Some workload) → asked ≡ answer →
    is_controller controller workload ≡ answer
controller-asked controller controller' workload asked answer same is answered =
    controller-eq controller workload ∙ ap (λ (c : Option ℕ). option_eq eqb c (Some workload)) (sym same) ∙ sym is ∙ answered

-- of the controller nothing is reached
allows-controller : (lists : EstateLists) (controller : Option ℕ) (workload : ℕ) (spot : PortSpot) → is_controller controller workload ≡ true →
    ingress_allows lists (folding_of lists) controller workload spot ≡ false
unfolding ingress_allows
allows-controller lists controller workload spot is = rw is refl

-- of another workload what is reached of its first pod
allows-reaches : (lists : EstateLists) (controller : Option ℕ) (workload : ℕ) (spot : PortSpot) → is_controller controller workload ≡ false →
    ingress_allows lists (folding_of lists) controller workload spot ≡ ingress_reaches lists (sender_of (folding_of lists) controller) (source_pod (folding_of lists) workload) spot
unfolding ingress_allows
allows-reaches lists controller workload spot is = rw is refl

reaches-is : (lists : EstateLists) (sender : Option ℕ) (place : ℕ) (spot : PortSpot) →
    ingress_reaches lists sender place spot ≡ (is_routed lists (pod_at lists place) spot && may_send lists sender place spot)
unfolding ingress_reaches
reaches-is lists sender place spot = refl

-- the empty set is that of the controller
pub set-of_controller : (lists : EstateLists) (controller : Option ℕ) (workload : ℕ) (made : Conns) → is_controller controller workload ≡ true → IsConns made →
    ((spot : PortSpot) → has_spot made spot ≡ false) → made ≡ conns_of (ingress_allows lists (folding_of lists) controller workload)
set-of_controller lists controller workload made is well none =
    conns_of-set made (ingress_allows lists (folding_of lists) controller workload) well (λ spot _. none spot ∙ sym (allows-controller lists controller workload spot is))

-- and that of another workload has what is reached of its first pod
pub set-of_other : (lists : EstateLists) (controller : Option ℕ) (workload place : ℕ) (backends : EstateLists) (sender : Sender) (made : Conns) → is_controller controller workload ≡ false →
    place ≡ source_pod (folding_of lists) workload → backends ≡ lists → sender ≡ sender_for lists controller → IsConns made →
    ((spot : PortSpot) → is_spot spot ≡ true → has_spot made spot ≡ reaches backends sender place spot) → made ≡ conns_of (ingress_allows lists (folding_of lists) controller workload)
set-of_other lists controller workload place backends sender made other stands same sent well members =
    conns_of-set made (ingress_allows lists (folding_of lists) controller workload) well (λ spot is.
    members spot is
    ∙ ap (λ (l : EstateLists). reaches l sender place spot) same
    ∙ ap (λ (s : Sender). reaches lists s place spot) sent
    ∙ ap (λ (b : Bool). is_routed lists (pod_at lists place) spot && b) (sends-is lists controller place spot)
    ∙ sym (reaches-is lists (sender_of (folding_of lists) controller) place spot)
    ∙ ap (λ (p : ℕ). ingress_reaches lists (sender_of (folding_of lists) controller) p spot) stands
    ∙ sym (allows-reaches lists controller workload spot other))

-- ---- every pod of a workload

-- the number of a pod's workload is a workload's
pub number-workload : (lists : EstateLists) (place : ℕ) → place < length lists.pods → IsWorkload lists (workload_number lists place)
unfolding folding_of
number-workload lists place within = number-in_workloads lists place within

-- what is reached of a pod is what is reached of its workload
reaches-member : (lists : EstateLists) (controller : Option ℕ) (workload p : ℕ) (spot : PortSpot) → IsLawful lists → IsWorkload lists workload → Contains (members_of (folding_of lists) workload) p →
    is_controller controller workload ≡ false → ingress_reaches lists (sender_of (folding_of lists) controller) p spot ≡ ingress_allows lists (folding_of lists) controller workload spot
reaches-member lists controller workload p spot lawful within has other =
    let folding = folding_of lists in
    let first = source_pod folding workload in
    let first_has = source-member folding workload (members-some lists folding workload refl within) in
    let p_in = members-within lists folding workload p refl within has in
    let first_in = members-within lists folding workload first refl within first_has in
    let same = member-number lists workload p p_in has ∙ sym (member-number lists workload first first_in first_has) in
    reaches-same lists (sender_of folding controller) p first spot (one_workload-alike lists p first lawful p_in first_in same)
    ∙ sym (allows-reaches lists controller workload spot other)

-- the set of a workload says what is reached of each of its pods
pub every_pod-of : (lists : EstateLists) (controller : Option ℕ) (workload : ℕ) (set : Conns) → IsLawful lists → IsWorkload lists workload →
    set ≡ conns_of (ingress_allows lists (folding_of lists) controller workload) → is_controller controller workload ≡ false → (p : ℕ) (spot : PortSpot) →
    Contains (members_of (folding_of lists) workload) p → is_spot spot ≡ true → has_spot set spot ≡ ingress_reaches lists (sender_of (folding_of lists) controller) p spot
every_pod-of lists controller workload set lawful within is other p spot has in_space =
    ap (λ (conns : Conns). has_spot conns spot) is
    ∙ conns_of-has (ingress_allows lists (folding_of lists) controller workload) spot in_space
    ∙ sym (reaches-member lists controller workload p spot lawful within has other)

-- folding loses no port that is reached
pub reaches-allows : (lists : EstateLists) (controller : Option ℕ) (p : ℕ) (spot : PortSpot) → IsLawful lists → p < length lists.pods → is_controller controller (workload_number lists p) ≡ false →
    ingress_reaches lists (sender_of (folding_of lists) controller) p spot ≡ ingress_allows lists (folding_of lists) controller (workload_number lists p) spot
reaches-allows lists controller p spot lawful p_in other =
    reaches-member lists controller (workload_number lists p) p spot lawful (number-workload lists p p_in) (own-member lists p p_in) other
