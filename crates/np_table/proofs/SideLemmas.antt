-- The sides of the pods that stand for workloads, and of those that stand for kinds.
-- For `address_rows_at`, `address_rows_by_kind` and 10 more.
use Rattle.std.proofs.Common.{◌≡◌, ◌<◌, ◌≤◌, ◌+◌, ◌-◌, ◌*◌, ◌^◌, ℕ, List, [], ◌∷◌, Bool, true, false, ◌&&◌, Some, None, length, lit≤, arith, refl, sym, ap, subst, ◌∙◌, if◌then◌else◌, ◌≢◌, Contains}
use Rattle.np_table.specs.Prelude.{AreEnds, Direction, Egress, EstateLists, Family, Four, Ingress, PairEnds, PortSpot, Six, address_rows, ends_of, estate_table, most_rules, pair_key, pair_rows, rows_in, rows_of_addresses, side_with_address, table_of}
use Rattle.np_conns.specs.Prelude.{Conns, IsConns, conns_of, has_spot, is_spot}
use Rattle.std.proofs.Math.Nat.{mul-le-mul_right}
use Rattle.np_model.specs.Prelude.{IsLawful, families_of, has_family, or_four}
use Rattle.np_model.specs.declared.pod.Pod.{Pod}
use Rattle.np_fold.specs.Prelude.{Folding, folding_of, members_of}
use Rattle.np_rules.specs.Prelude.{AllowTheSame, PodEnd, PodSide, address, allows, near_pod, pod, pod_at, side_of, side_rule_count}
use Rattle.np_table.proofs.KindLemmas.{conns_of-nothing, nothing, rows_in-agree, rows_in-nothing, rules-most}
use Rattle.np_kinds.proofs.PairLemmas.{pair_allows-between, between-members}
use Rattle.np_table.proofs.RangeOneList.{walk-agrees}
use Rattle.np_conns.proofs.ConnLemmas.{conns_of-agrees, conns_of-has, conns_of-set}
use Rattle.np_kinds.specs.Prelude.{IsAlike, IsWorkload, address_allows, address_numbered, between_pods, first_side, is_alone, kind_side, pair_allows, side_allows_pod, with_address}
use Rattle.std.proofs.lemmas.Bool.{and_right}
use Rattle.np_kinds.proofs.ReachLemmas.{between-is}
use Rattle.np_kinds.proofs.SideLemmas.{kind_side-address, kind_side-count, kind_sides-pass}

-- ---- a sender and a receiver

sender-is : (sender receiver : PodSide) → AreEnds sender receiver → sender ≡ side_of sender.lists sender.pod Egress
sender-is sender receiver ends = ap (λ (d : Direction). side_of sender.lists sender.pod d) ends.sends

receiver-is : (sender receiver : PodSide) → AreEnds sender receiver → receiver ≡ side_of sender.lists receiver.pod Ingress
receiver-is sender receiver ends =
    ap (λ (d : Direction). side_of receiver.lists receiver.pod d) ends.receives ∙ ap (λ (lists : EstateLists). side_of lists receiver.pod Ingress) ends.lists

-- what passes between two pods both of their sides allow
between-sides : (sender receiver : PodSide) (family : Family) (spot : PortSpot) → AreEnds sender receiver →
    between_pods sender.lists sender.pod receiver.pod family spot ≡ (side_allows_pod sender receiver.pod family spot && side_allows_pod receiver sender.pod family spot)
between-sides sender receiver family spot ends =
    between-is sender.lists sender.pod receiver.pod family spot
    ∙ ap (λ (s : PodSide). side_allows_pod s receiver.pod family spot && side_allows_pod (side_of sender.lists receiver.pod Ingress) sender.pod family spot) (sym (sender-is sender receiver ends))
    ∙ ap (λ (r : PodSide). side_allows_pod sender receiver.pod family spot && side_allows_pod r sender.pod family spot) (sym (receiver-is sender receiver ends))

-- nothing passes where the receiver's side allows nothing
pub received-pass : (sender receiver : PodSide) (family : Family) (received : Conns) → AreEnds sender receiver → IsConns received →
    ((spot : PortSpot) → is_spot spot ≡ true → has_spot received spot ≡ side_allows_pod receiver sender.pod family spot) → ((spot : PortSpot) → has_spot received spot ≡ false) →
    received ≡ conns_of (between_pods sender.lists sender.pod receiver.pod family)
received-pass sender receiver family received ends well members none =
    conns_of-set received (between_pods sender.lists sender.pod receiver.pod family) well (λ spot is.
    none spot ∙ sym (between-sides sender receiver family spot ends ∙ and_right (side_allows_pod sender receiver.pod family spot) (side_allows_pod receiver sender.pod family spot)
    (sym (members spot is) ∙ none spot)))

-- and else what both allow
pub both-pass : (sender receiver : PodSide) (family : Family) (sent received made : Conns) → AreEnds sender receiver → IsConns made →
    ((spot : PortSpot) → is_spot spot ≡ true → has_spot sent spot ≡ side_allows_pod sender receiver.pod family spot) →
    ((spot : PortSpot) → is_spot spot ≡ true → has_spot received spot ≡ side_allows_pod receiver sender.pod family spot) →
    ((spot : PortSpot) → has_spot made spot ≡ (has_spot sent spot && has_spot received spot)) → made ≡ conns_of (between_pods sender.lists sender.pod receiver.pod family)
both-pass sender receiver family sent received made ends well sends receives members =
    conns_of-set made (between_pods sender.lists sender.pod receiver.pod family) well (λ spot is.
    members spot
    ∙ ap (λ (b : Bool). b && has_spot received spot) (sends spot is)
    ∙ ap (λ (b : Bool). side_allows_pod sender receiver.pod family spot && b) (receives spot is)
    ∙ sym (between-sides sender receiver family spot ends))

-- ---- the ends of a pair

some_ends : (alone : Bool) (ends there : PairEnds) → Some ends ≡ (if alone then None else Some there) → (alone ≡ false) × (ends ≡ there)
some_ends true ends there is = absurd (cc)
some_ends false ends there is = (refl, cc)

-- there are ends unless a workload of one pod meets itself
pub ends-are : (lists : EstateLists) (source destination : ℕ) (ends : PairEnds) →
    Some ends ≡ (if is_alone (folding_of lists) source destination then None else Some (ends_of lists source destination)) →
    (is_alone (folding_of lists) source destination ≡ false) × (ends ≡ ends_of lists source destination)
ends-are lists source destination ends is = some_ends (is_alone (folding_of lists) source destination) ends (ends_of lists source destination) is

none_there : (alone : Bool) (there : PairEnds) → None ≡ (if alone then None else Some there) → alone ≡ true
none_there true there is = refl
none_there false there is = absurd (cc)

pub ends-none : (lists : EstateLists) (source destination : ℕ) → None ≡ (if is_alone (folding_of lists) source destination then None else Some (ends_of lists source destination)) →
    is_alone (folding_of lists) source destination ≡ true
ends-none lists source destination is = none_there (is_alone (folding_of lists) source destination) (ends_of lists source destination) is

-- they are those of a sender and of a receiver
pub ends-both : (lists : EstateLists) (source destination : ℕ) (ends : PairEnds) → ends ≡ ends_of lists source destination → AreEnds ends.sender ends.receiver
ends-both lists source destination ends are = subst (λ (e : PairEnds). AreEnds e.sender e.receiver) (sym are) (record { lists = refl; sends = refl; receives = refl })

-- what passes between them passes between the two workloads
pub ends-pass : (lists : EstateLists) (source destination : ℕ) (ends : PairEnds) (family : Family) → is_alone (folding_of lists) source destination ≡ false → ends ≡ ends_of lists source destination →
    conns_of (between_pods ends.sender.lists ends.sender.pod ends.receiver.pod family) ≡ conns_of (pair_allows lists (folding_of lists) source destination family)
ends-pass lists source destination ends family alone are =
    ap (λ (e : PairEnds). conns_of (between_pods e.sender.lists e.sender.pod e.receiver.pod family)) are
    ∙ conns_of-agrees _ _ (λ spot _. sym (pair_allows-between lists (folding_of lists) source destination family spot alone))

-- and so they have the rows of the pair
pub ends-rows : (lists : EstateLists) (source destination : ℕ) (ends : PairEnds) (families : List Family) → families ≡ families_of lists.pods → is_alone (folding_of lists) source destination ≡ false →
    ends ≡ ends_of lists source destination →
    rows_in families (pair_key source destination) (λ family. conns_of (between_pods ends.sender.lists ends.sender.pod ends.receiver.pod family)) ≡ pair_rows (estate_table lists) source destination
unfolding pair_rows table_of
ends-rows lists source destination ends families listed alone are =
    rows_in-agree families (pair_key source destination) (λ family. conns_of (between_pods ends.sender.lists ends.sender.pod ends.receiver.pod family))
    (λ family. conns_of (pair_allows lists (folding_of lists) source destination family)) (λ family. ends-pass lists source destination ends family alone are)
    ∙ ap (λ (all : List Family). rows_in all (pair_key source destination) (λ family. conns_of (pair_allows lists (folding_of lists) source destination family))) listed

-- the set of a pair says what passes between every two different pods of it
pub every_pod-of : (lists : EstateLists) (folding : Folding) (source destination : ℕ) (family : Family) (set : Conns) → folding ≡ folding_of lists → source < length folding.workloads →
    destination < length folding.workloads → set ≡ conns_of (pair_allows lists folding source destination family) → IsLawful lists → (p q : ℕ) (spot : PortSpot) →
    Contains (members_of folding source) p → Contains (members_of folding destination) q → p ≢ q → is_spot spot ≡ true → has_spot set spot ≡ between_pods lists p q family spot
every_pod-of lists folding source destination family set folded =
    let of : Folding → Type 0 = λ f. source < length f.workloads → destination < length f.workloads → set ≡ conns_of (pair_allows lists f source destination family) → IsLawful lists → (p q : ℕ)
    (spot : PortSpot) → Contains (members_of f source) p → Contains (members_of f destination) q → p ≢ q → is_spot spot ≡ true → has_spot set spot ≡ between_pods lists p q family spot in
    subst of (sym folded) (λ source_in destination_in made lawful p q spot p_has q_has differ is.
    ap (λ (conns : Conns). has_spot conns spot) made
    ∙ conns_of-has (pair_allows lists (folding_of lists) source destination family) spot is
    ∙ sym (between-members lists source destination p q family spot lawful source_in destination_in p_has q_has differ))

-- ---- kinds

-- of the pod that stands for a workload's kind no more rules speak than the most
kind-most : (lists : EstateLists) (direction : Direction) (workload : ℕ) → IsLawful lists → IsWorkload lists workload →
    side_rule_count (kind_side lists direction workload) ≤ most_rules lists (folding_of lists)
kind-most lists direction workload lawful within =
    subst (λ (n : ℕ). n ≤ most_rules lists (folding_of lists)) (sym (kind_side-count lists direction workload lawful within)) (rules-most lists (folding_of lists) direction workload within)

-- Two sides stand for two workloads: one sends and the other receives, no more rules speak of each than the most, and between them passes what passes between the workloads.
pub record StandFor (lists : EstateLists) (source destination : ℕ) (sender receiver : PodSide) : Type 0 where
  pub both : AreEnds sender receiver
  pub most : 2 * (side_rule_count sender + side_rule_count receiver) ≤ 4 * most_rules lists (folding_of lists)
  pub conns : (family : Family) → is_alone (folding_of lists) source destination ≡ false →
      conns_of (between_pods sender.lists sender.pod receiver.pod family) ≡ conns_of (pair_allows lists (folding_of lists) source destination family)

kinds-stand : (lists : EstateLists) (source destination : ℕ) → IsLawful lists → IsWorkload lists source → IsWorkload lists destination →
    StandFor lists source destination (kind_side lists Egress source) (kind_side lists Ingress destination)
kinds-stand lists source destination lawful source_in destination_in = record {
  both = record { lists = refl; sends = refl; receives = refl };
  most = omega (arith, kind-most lists Egress source lawful source_in, kind-most lists Ingress destination lawful destination_in);
  conns = λ family alone. conns_of-agrees _ _ (λ spot _. sym (kind_sides-pass lists source destination family spot lawful source_in destination_in alone));
}

-- the sides of the kinds of two workloads stand for them, by whatever names the lists are known
pub sides-stand : (lists lists' : EstateLists) (source destination : ℕ) (sender receiver : PodSide) → lists' ≡ lists → IsLawful lists' → IsWorkload lists source → IsWorkload lists destination →
    sender ≡ kind_side lists' Egress source → receiver ≡ kind_side lists' Ingress destination → StandFor lists source destination sender receiver
sides-stand lists lists' source destination sender receiver same lawful source_in destination_in sends receives =
    subst (λ (s : PodSide). StandFor lists source destination s receiver) (sym (sends ∙ ap (λ (l : EstateLists). kind_side l Egress source) same))
    (subst (λ (r : PodSide). StandFor lists source destination (kind_side lists Egress source) r) (sym (receives ∙ ap (λ (l : EstateLists). kind_side l Ingress destination) same))
    (kinds-stand lists source destination (subst IsLawful same lawful) source_in destination_in))

-- and so they have the rows of the pair
pub stand-rows : (lists : EstateLists) (source destination : ℕ) (sender receiver : PodSide) (families : List Family) → StandFor lists source destination sender receiver →
    families ≡ families_of lists.pods → is_alone (folding_of lists) source destination ≡ false →
    rows_in families (pair_key source destination) (λ family. conns_of (between_pods sender.lists sender.pod receiver.pod family)) ≡ pair_rows (estate_table lists) source destination
unfolding pair_rows table_of
stand-rows lists source destination sender receiver families stand listed alone =
    rows_in-agree families (pair_key source destination) (λ family. conns_of (between_pods sender.lists sender.pod receiver.pod family))
    (λ family. conns_of (pair_allows lists (folding_of lists) source destination family)) (λ family. stand.conns family alone)
    ∙ ap (λ (all : List Family). rows_in all (pair_key source destination) (λ family. conns_of (pair_allows lists (folding_of lists) source destination family))) listed

-- there are two families at most
pub families-few : (pods : List Pod) → length (families_of pods) ≤ 2
families-few pods = by (has_family pods Four) (has_family pods Six)
  where
    by : (four six : Bool) → length (or_four (if four then Four ∷ (if six then Six ∷ [] else []) else (if six then Six ∷ [] else []))) ≤ 2
    by true true = omega arith
    by true false = omega arith
    by false true = omega arith
    by false false = omega arith

-- in each of them no more rules are looked at than the most, for each of the two ends
pub stand-counted : (lists : EstateLists) (source destination : ℕ) (sender receiver : PodSide) (families : List Family) → StandFor lists source destination sender receiver →
    families ≡ families_of lists.pods → length families * (side_rule_count sender + side_rule_count receiver) ≤ 4 * most_rules lists (folding_of lists)
stand-counted lists source destination sender receiver families stand listed =
    let few : length families ≤ 2 = subst (λ (all : List Family). length all ≤ 2) (sym listed) (families-few lists.pods) in
    omega (arith, stand.most, mul-le-mul_right (side_rule_count sender + side_rule_count receiver) few)

-- ---- kinds between which nothing may pass

-- two workloads between which nothing passes have no rows
pub silent-rows : (lists : EstateLists) (source destination : ℕ) → ((family : Family) (spot : PortSpot) → pair_allows lists (folding_of lists) source destination family spot ≡ false) →
    [] ≡ pair_rows (estate_table lists) source destination
unfolding pair_rows table_of
silent-rows lists source destination silent =
    sym (rows_in-agree (families_of lists.pods) (pair_key source destination) (λ family. conns_of (pair_allows lists (folding_of lists) source destination family)) (λ family. nothing)
    (λ family. conns_of-nothing _ (silent family))
    ∙ rows_in-nothing (families_of lists.pods) (pair_key source destination))

-- ---- addresses

rows_of_addresses-agree : (passes passes' : Family → ℕ → PortSpot → Bool) → ((family : Family) (number : ℕ) (spot : PortSpot) → passes family number spot ≡ passes' family number spot) →
    rows_of_addresses passes ≡ rows_of_addresses passes'
rows_of_addresses-agree passes passes' agree =
    rw (
      walk-agrees (passes Four) (passes' Four) 0 (2 ^ 32 - 1) (lit≤ tt) (λ number spot _ _ _. agree Four number spot),
      walk-agrees (passes Six) (passes' Six) 0 (2 ^ 128 - 1) (lit≤ tt)
          (λ number spot _ _ _. agree Six number spot),
    ) refl

-- the side of a workload's first pod has the workload's rows
pub address_rows-first : (lists : EstateLists) (direction : Direction) (workload : ℕ) (side : PodSide) → side ≡ first_side lists direction workload →
    rows_of_addresses (side_with_address side) ≡ address_rows (estate_table lists) workload direction
unfolding address_rows table_of address_allows
address_rows-first lists direction workload side is = ap (λ (s : PodSide). rows_of_addresses (side_with_address s)) is

-- and so has that of its kind
pub address_rows-kind : (lists lists' : EstateLists) (direction : Direction) (workload : ℕ) (side : PodSide) → lists' ≡ lists → IsLawful lists' → IsWorkload lists workload →
    side ≡ kind_side lists' direction workload → rows_of_addresses (side_with_address side) ≡ address_rows (estate_table lists) workload direction
address_rows-kind lists lists' direction workload side same lawful within is =
    ap (λ (s : PodSide). rows_of_addresses (side_with_address s)) (is ∙ ap (λ (l : EstateLists). kind_side l direction workload) same)
    ∙ rows_of_addresses-agree _ (side_with_address (first_side lists direction workload)) (λ family number spot. kind_side-address lists direction workload family number spot
    (subst IsLawful same lawful) within)
    ∙ address_rows-first lists direction workload (first_side lists direction workload) refl

-- and so has a pod with the same side
with_address-alike : (lists : EstateLists) (direction : Direction) (p q : PodEnd) → AllowTheSame lists direction p q → (family : Family) (number : ℕ) (spot : PortSpot) →
    with_address lists direction (pod p) family number spot ≡ with_address lists direction (pod q) family number spot
unfolding allows
with_address-alike lists Ingress p q same family number spot = same (address (address_numbered family number)) family spot
with_address-alike lists Egress p q same family number spot = ap (λ b. b && true) (same (address (address_numbered family number)) family spot)

pub address_rows-alike : (lists lists' : EstateLists) (direction : Direction) (workload like : ℕ) → lists' ≡ lists → IsLawful lists' → IsWorkload lists workload →
    IsAlike (kind_side lists' direction workload) like → rows_of_addresses (side_with_address (side_of lists like direction)) ≡ address_rows (estate_table lists) workload direction
address_rows-alike lists lists' direction workload like same lawful within alike =
    let near = near_pod (kind_side lists direction workload) in
    let is = subst (λ (l : EstateLists). IsAlike (kind_side l direction workload) like) same alike in
    sym (rows_of_addresses-agree (with_address lists direction (pod near)) (with_address lists direction (pod (pod_at lists like))) (with_address-alike lists direction near (pod_at lists like) is.same))
    ∙ address_rows-kind lists lists direction workload (kind_side lists direction workload) refl (subst IsLawful same lawful) within refl

-- and of it no more rules speak than the most
pub side-most : (lists lists' : EstateLists) (direction : Direction) (workload : ℕ) (side : PodSide) → lists' ≡ lists → IsLawful lists' → IsWorkload lists workload →
    side ≡ kind_side lists' direction workload → side_rule_count side ≤ most_rules lists (folding_of lists)
side-most lists lists' direction workload side same lawful within is =
    subst (λ (s : PodSide). side_rule_count s ≤ most_rules lists (folding_of lists)) (sym (is ∙ ap (λ (l : EstateLists). kind_side l direction workload) same))
    (kind-most lists direction workload (subst IsLawful same lawful) within)
