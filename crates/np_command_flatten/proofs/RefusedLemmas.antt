-- What `flatten` refuses, pod by pod. For PromiseLemmas.
use Rattle.std.proofs.Common.{◌≡◌, ◌≢◌, ◌⊎◌, ◌==◌, ℕ, ◌<◌, ◌-◌, ◌^◌, ◌++◌, List, [], ◌∷◌, Bool, true, false, Contains, Some, not, map, length, get_or, eq-eqb, ne_eqb, lit≤, arith, refl, sym, ap, subst, ◌∙◌, inl, inr}
use Rattle.std.specs.List.{list_any}
use Rattle.std.specs.List.Sorted.{IsStrictlySortedBy}
use Rattle.std.specs.Ordering.{nat_cmp}
use Rattle.std.proofs.lemmas.Bool.{cases_eq, cases_lt, false_from_ne_true, not-true, true≢false}
use Rattle.std.proofs.lemmas.Map.Keys.{below_from_sorted}
use Rattle.np_command_flatten.specs.Prelude.{Alike, AreFamiliesAlike, AreTreatedAlike, AreTwoPods, Direction, EstateLists, Family, IsListed, PortSpot, RefusesFlatten, Split}
use Rattle.np_addr.specs.declared.address.Family.TheVariants.{Four, Six}
use Rattle.np_command.specs.declared.fault.Fault.TheVariants as fault
use Rattle.np_command_flatten.proofs.FlattenLemmas.{fault-workloads}
use Rattle.np_conns.specs.Prelude.{is_spot}
use Rattle.np_fold.proofs.WorkloadLemmas.{pods-ascend}
use Rattle.np_fold.specs.Prelude.{Folding, folding_of, members_of, name_of_workload, workload_number}
use Rattle.np_model.specs.Prelude.{IsLawful, families_of}
use Rattle.np_rules.specs.Prelude.{pod_at}
use Rattle.np_flatten.proofs.AddressVerdicts.{row_tells}
use Rattle.np_flatten.proofs.GroupLemmas.{look_decides}
use Rattle.np_flatten.proofs.RefusedLemmas.{alike_differ, alike_is_first, alike_together, nothing_split, split_differs, split_is_first}
use Rattle.np_flatten.proofs.SplitLemmas.{families_cases}
use Rattle.np_flatten.specs.Prelude.{AreFamiliesAlike as FamiliesPassAlike, AreTreatedAlike as WorkloadsPassAlike, PassTheSame, are_together, family_of_list, first_family, flat_fault, is_defined, look_alike, relevant}
use Rattle.np_kinds.proofs.MemberLemmas.{destination-member, member-number, members-some, members-within, not-alone, own-member, source-member}
use Rattle.np_kinds.proofs.PairLemmas.{between_pods-pair_allows, pair_allows-alone, with_address-address_allows}
use Rattle.np_table.proofs.RangeOneList.{walk-agrees}
use Rattle.np_kinds.specs.Prelude.{address_allows, between_pods, destination_pod, first_end, is_alone, number_of_workloads, pair_allows, source_pod}
use Rattle.np_table.specs.Prelude.{IsInFamily, Stretch, address_row, address_rows, estate_table, four_of, rows_of_addresses, six_of, table_of, walk}
use Rattle.np_table.specs.declared.rows.AddressRow.{AddressRow}
use Rattle.np_flatten.proofs.FlatVerdicts.{number-within, row-any, seen-pod}

-- ---- pods of workloads

-- the first pod of a workload is one of the estate, and of the workload
first-pod : (lists : EstateLists) (a : ℕ) → a < number_of_workloads lists → (source_pod (folding_of lists) a < length lists.pods) × (workload_number lists (source_pod (folding_of lists) a) ≡ a)
first-pod lists a a_in =
    let folding = folding_of lists in
    let has = source-member folding a (members-some lists folding a refl a_in) in
    let within = members-within lists folding a (source_pod folding a) refl a_in has in
    (within, member-number lists a (source_pod folding a) within has)

-- the pods that stand for a workload that meets itself are two
two-members : (folding : Folding) (a : ℕ) → IsStrictlySortedBy nat_cmp (members_of folding a) → 0 < length (members_of folding a) → is_alone folding a a ≡ false →
    source_pod folding a ≢ destination_pod folding a a
two-members folding a sorted some alone same =
    let itself : (a == a) ≡ true = eq-eqb a a refl in
    let many : (length (members_of folding a) == 1) ≡ false = rw itself at alone in
    let equal : get_or (members_of folding a) 0 0 ≡ get_or (members_of folding a) 1 0 = rw itself at same in
    elim (cases_lt 1 (length (members_of folding a))) [
      | inl more ↦ let less = below_from_sorted (members_of folding a) 0 1 0 sorted (omega arith) more in omega (arith, less, equal)
      | inr few ↦ true≢false (sym (eq-eqb (length (members_of folding a)) 1 (omega (arith, some, few))) ∙ many)
    ]

-- two different pods of two workloads
record StandFor (lists : EstateLists) (a b p q : ℕ) : Type 0 where
  p_in : p < length lists.pods
  q_in : q < length lists.pods
  p_of : workload_number lists p ≡ a
  q_of : workload_number lists q ≡ b
  apart : p ≢ q

-- those that stand for workloads between which something is defined are such
stand-for : (lists : EstateLists) (a b : ℕ) → a < number_of_workloads lists → b < number_of_workloads lists → is_alone (folding_of lists) a b ≡ false →
    StandFor lists a b (source_pod (folding_of lists) a) (destination_pod (folding_of lists) a b)
stand-for lists a b a_in b_in alone =
    let folding = folding_of lists in
    let p = source_pod folding a in
    let q = destination_pod folding a b in
    let p_has = source-member folding a (members-some lists folding a refl a_in) in
    let q_has = destination-member folding a b (members-some lists folding b refl b_in) alone in
    let p_in = members-within lists folding a p refl a_in p_has in
    let q_in = members-within lists folding b q refl b_in q_has in
    let p_of = member-number lists a p p_in p_has in
    let q_of = member-number lists b q q_in q_has in
    record { p_in = p_in; q_in = q_in; p_of = p_of; q_of = q_of; apart = differ p_of q_of }
  where
    itself : (c : ℕ) → a ≡ c → is_alone (folding_of lists) a c ≡ false → source_pod (folding_of lists) a ≢ destination_pod (folding_of lists) a c
    itself c same lonely =
        subst (λ (n : ℕ). is_alone (folding_of lists) a n ≡ false → source_pod (folding_of lists) a ≢ destination_pod (folding_of lists) a n) same
        (two-members (folding_of lists) a (pods-ascend lists a) (members-some lists (folding_of lists) a refl a_in)) lonely

    differ : workload_number lists (source_pod (folding_of lists) a) ≡ a → workload_number lists (destination_pod (folding_of lists) a b) ≡ b →
        source_pod (folding_of lists) a ≢ destination_pod (folding_of lists) a b
    differ p_of q_of =
        elim (cases_eq a b) [
          | inl same ↦ itself b same alone
          | inr other ↦ λ one. other (sym p_of ∙ ap (workload_number lists) one ∙ q_of)
        ]

-- another pod of a workload that has two
another : (lists : EstateLists) (p : ℕ) → p < length lists.pods → is_defined lists (workload_number lists p) (workload_number lists p) ≡ true →
    (r : ℕ) × (r < length lists.pods) × (workload_number lists r ≡ workload_number lists p) × (r ≢ p)
another lists p p_in defined =
    let a = workload_number lists p in
    let a_in = number-within lists p p_in in
    let stand = stand-for lists a a a_in a_in (not-true (is_alone (folding_of lists) a a) defined) in
    elim (cases_eq p (source_pod (folding_of lists) a)) [
      | inl here ↦ (destination_pod (folding_of lists) a a, stand.q_in, stand.q_of, λ same. stand.apart (sym here ∙ sym same))
      | inr there ↦ (source_pod (folding_of lists) a, stand.p_in, stand.p_of, λ same. there (sym same))
    ]

-- ---- families

module _ (lists : EstateLists) (lawful : IsLawful lists) where
  -- what passes between two pods passes between their workloads
  pair : (p q : ℕ) → AreTwoPods lists p q → (family : Family) (spot : PortSpot) →
      between_pods lists p q family spot ≡ pair_allows lists (folding_of lists) (workload_number lists p) (workload_number lists q) family spot
  pair p q two family spot = between_pods-pair_allows lists p q family spot lawful two.0 two.1 two.2

  pods-alike : (p q : ℕ) → AreTwoPods lists p q → FamiliesPassAlike lists (workload_number lists p) (workload_number lists q) → AreFamiliesAlike lists p q
  pods-alike p q two alike family other spot listed also =
      pair p q two family spot ∙ alike family other spot listed.0 also.0 listed.1 ∙ sym (pair p q two other spot)

  workloads-alike : (p q : ℕ) → AreTwoPods lists p q → AreFamiliesAlike lists p q → FamiliesPassAlike lists (workload_number lists p) (workload_number lists q)
  workloads-alike p q two alike family other spot has has' inside =
      sym (pair p q two family spot) ∙ alike family other spot (has, inside) (has', inside) ∙ pair p q two other spot

  -- the first two workloads between which the families differ
  split-at : (p q : ℕ) → AreTwoPods lists p q → flat_fault lists ≡ Some (Split (workload_number lists p) (workload_number lists q)) →
      RefusesFlatten lists (fault.Split (name_of_workload (folding_of lists) (workload_number lists p)) (name_of_workload (folding_of lists) (workload_number lists q)))
  split-at p q two is = record {
    p = p;
    q = q;
    source_is = refl;
    destination_is = refl;
    apart = two;
    differ = λ alike. split_differs lists (workload_number lists p) (workload_number lists q) is (workloads-alike p q two alike);
    first = λ r s other before. pods-alike r s other
        (split_is_first lists (workload_number lists p) (workload_number lists q) is (workload_number lists r) (workload_number lists s) (number-within lists r other.0) (number-within lists s other.1) before);
  }

-- ---- rows of addresses

-- tests that agree on every address have one list of rows
rows-agree : (passes passes' : Family → ℕ → PortSpot → Bool) → ((family : Family) (number : ℕ) (spot : PortSpot) → IsInFamily family number → is_spot spot ≡ true →
    passes family number spot ≡ passes' family number spot) → rows_of_addresses passes ≡ rows_of_addresses passes'
rows-agree passes passes' agree =
    ap (λ (four : List Stretch). map (address_row four_of) four ++ map (address_row six_of) (walk (passes Six) 0 (2 ^ 128 - 1)))
    (walk-agrees (passes Four) (passes' Four) 0 (2 ^ 32 - 1) (lit≤ tt) (λ n spot low high inside. agree Four n spot high inside))
    ∙ ap (λ (six : List Stretch). map (address_row four_of) (walk (passes' Four) 0 (2 ^ 32 - 1)) ++ map (address_row six_of) six)
    (walk-agrees (passes Six) (passes' Six) 0 (2 ^ 128 - 1) (lit≤ tt) (λ n spot low high inside. agree Six n spot high inside))

-- workloads that agree on every address
same-rows : (lists : EstateLists) (a b : ℕ) (direction : Direction) →
    ((family : Family) (number : ℕ) (spot : PortSpot) → IsInFamily family number → is_spot spot ≡ true →
    address_allows lists (folding_of lists) a direction family number spot ≡ address_allows lists (folding_of lists) b direction family number spot) →
    address_rows (estate_table lists) a direction ≡ address_rows (estate_table lists) b direction
unfolding address_rows table_of
same-rows lists a b direction agree = rows-agree (address_allows lists (folding_of lists) a direction) (address_allows lists (folding_of lists) b direction) agree

same-addresses : (lists : EstateLists) (a b : ℕ) (direction : Direction) (family : Family) (number : ℕ) (spot : PortSpot) →
    address_rows (estate_table lists) a direction ≡ address_rows (estate_table lists) b direction → IsInFamily family number → is_spot spot ≡ true →
    address_allows lists (folding_of lists) a direction family number spot ≡ address_allows lists (folding_of lists) b direction family number spot
same-addresses lists a b direction family number spot same within inside =
    sym (row-any lists a direction family number spot within inside)
    ∙ ap (λ (rows : List AddressRow). list_any (row_tells family number spot) rows) same
    ∙ row-any lists b direction family number spot within inside

-- ---- the first family

contains-first : (families : List Family) → ((family : Family) × (families ≡ family ∷ [])) ⊎ (families ≡ Four ∷ Six ∷ []) → Contains families (first_family families)
contains-first families (inl one) = rw one.1 (0, omega arith, refl)
contains-first families (inr both) = rw both (0, omega arith, refl)

first-listed : (lists : EstateLists) → Contains (families_of lists.pods) (family_of_list lists)
first-listed lists = contains-first (families_of lists.pods) (families_cases lists.pods)

-- ---- pods that selectors do not tell apart

-- so two pods look alike where their workloads are of one group
module _ (lists : EstateLists) (p q : ℕ) (two : AreTwoPods lists p q) where
  look-from : are_together lists (workload_number lists p) (workload_number lists q) ≡ true → look_alike (relevant lists) (pod_at lists p) (pod_at lists q) ≡ true
  unfolding are_together
  look-from together =
      (look_decides (relevant lists) (pod_at lists p) (pod_at lists q)).1
      (seen-pod lists p two.0
      ∙ (look_decides (relevant lists) (first_end lists (workload_number lists p)) (first_end lists (workload_number lists q))).0 together
      ∙ sym (seen-pod lists q two.1))

  look-to : look_alike (relevant lists) (pod_at lists p) (pod_at lists q) ≡ true → are_together lists (workload_number lists p) (workload_number lists q) ≡ true
  unfolding are_together
  look-to alike =
      (look_decides (relevant lists) (first_end lists (workload_number lists p)) (first_end lists (workload_number lists q))).1
      (sym (seen-pod lists p two.0)
      ∙ (look_decides (relevant lists) (pod_at lists p) (pod_at lists q)).0 alike
      ∙ seen-pod lists q two.1)

-- ---- pods that no packet tells apart

turn : (lists : EstateLists) (p q : ℕ) → AreTwoPods lists p q → AreTwoPods lists q p
turn lists p q two = (two.1, two.0, λ same. two.2 (sym same))

-- two pods of one workload
same-defined : (lists : EstateLists) (r s : ℕ) → AreTwoPods lists r s → workload_number lists r ≡ workload_number lists s → is_defined lists (workload_number lists s) (workload_number lists s) ≡ true
same-defined lists r s two same =
    let folding = folding_of lists in
    let b = workload_number lists s in
    ap not (not-alone folding b b r s (subst (λ (n : ℕ). Contains (members_of folding n) r) same (own-member lists r two.0)) (own-member lists s two.1) two.2)

module _ (lists : EstateLists) (lawful : IsLawful lists) (p q : ℕ) (two : AreTwoPods lists p q) (other : workload_number lists p ≢ workload_number lists q) where
  abbrev a : ℕ
  a = workload_number lists p

  abbrev b : ℕ
  b = workload_number lists q

  -- ---- by pods

  sends-at : AreTreatedAlike lists p q → (r : ℕ) → AreTwoPods lists r p → AreTwoPods lists r q → PassTheSame lists a (workload_number lists r) b (workload_number lists r)
  sends-at treated r with_p with_q spot inside =
      let family = family_of_list lists in
      sym (pair lists lawful p r (turn lists r p with_p) family spot)
      ∙ treated.sends r family spot with_p with_q (first-listed lists, inside)
      ∙ pair lists lawful q r (turn lists r q with_q) family spot

  receives-at : AreTreatedAlike lists p q → (r : ℕ) → AreTwoPods lists r p → AreTwoPods lists r q → PassTheSame lists (workload_number lists r) a (workload_number lists r) b
  receives-at treated r with_p with_q spot inside =
      let family = family_of_list lists in
      sym (pair lists lawful r p with_p family spot)
      ∙ treated.receives r family spot with_p with_q (first-listed lists, inside)
      ∙ pair lists lawful r q with_q family spot

  both-ways : AreTreatedAlike lists p q → PassTheSame lists a b b a
  both-ways treated spot inside =
      let family = family_of_list lists in
      sym (pair lists lawful p q two family spot)
      ∙ treated.each_other family spot (first-listed lists, inside)
      ∙ pair lists lawful q p (turn lists p q two) family spot

  -- a pod of a third workload
  third : (r : ℕ) → r < length lists.pods → workload_number lists r ≢ a → workload_number lists r ≢ b → AreTwoPods lists r p × AreTwoPods lists r q
  third r r_in not_a not_b = (
    (r_in, two.0, λ same. not_a (ap (workload_number lists) same)),
    (r_in, two.1, λ same. not_b (ap (workload_number lists) same)),
  )

  -- pods that are treated alike are of workloads that are
  workloads-treated : AreTreatedAlike lists p q → WorkloadsPassAlike lists a b
  workloads-treated treated = record {
    sends = λ w within not_a not_b.
        let r = source_pod (folding_of lists) w in
        let (r_in, r_of) = first-pod lists w within in
        let apart = third r r_in (λ same. not_a (sym r_of ∙ same)) (λ same. not_b (sym r_of ∙ same)) in
        subst (λ (n : ℕ). PassTheSame lists a n b n) r_of (sends-at treated r apart.0 apart.1);
    receives = λ w within not_a not_b.
        let r = source_pod (folding_of lists) w in
        let (r_in, r_of) = first-pod lists w within in
        let apart = third r r_in (λ same. not_a (sym r_of ∙ same)) (λ same. not_b (sym r_of ∙ same)) in
        subst (λ (n : ℕ). PassTheSame lists n a n b) r_of (receives-at treated r apart.0 apart.1);
    both_ways = both-ways treated;
    first = λ defined.
        let (r, r_in, r_of, apart) = another lists p two.0 defined in
        subst (λ (n : ℕ). PassTheSame lists n a n b) r_of (receives-at treated r (r_in, two.0, apart) (r_in, two.1, λ same. other (sym r_of ∙ ap (workload_number lists) same)));
    second = λ defined.
        let (r, r_in, r_of, apart) = another lists q two.1 defined in
        let from_b : PassTheSame lists b a b b = subst (λ (n : ℕ). PassTheSame lists n a n b) r_of
        (receives-at treated r (r_in, two.0, λ same. other (ap (workload_number lists) (sym same) ∙ r_of)) (r_in, two.1, apart)) in
        λ spot inside. sym (from_b spot inside) ∙ sym (both-ways treated spot inside);
    addresses = λ direction. same-rows lists a b direction (λ family number spot within inside.
        sym (with_address-address_allows lists p direction family number spot lawful two.0)
        ∙ treated.addresses direction family number spot within inside
        ∙ with_address-address_allows lists q direction family number spot lawful two.1);
  }

  -- ---- by workloads

  module _ (treated : WorkloadsPassAlike lists a b) (alike : (r s : ℕ) → AreTwoPods lists r s → AreFamiliesAlike lists r s) where
    -- what passes between two pods passes between their workloads in the first family
    moved : (r s : ℕ) → AreTwoPods lists r s → (family : Family) (spot : PortSpot) → IsListed lists family spot →
        between_pods lists r s family spot ≡ pair_allows lists (folding_of lists) (workload_number lists r) (workload_number lists s) (family_of_list lists) spot
    moved r s both family spot listed = alike r s both family (family_of_list lists) spot listed (first-listed lists, listed.1) ∙ pair lists lawful r s both (family_of_list lists) spot

    sends-by : (r : ℕ) → AreTwoPods lists r p → AreTwoPods lists r q → PassTheSame lists a (workload_number lists r) b (workload_number lists r)
    sends-by r with_p with_q =
        elim (cases_eq (workload_number lists r) a) [
          | inl same ↦ subst (λ (n : ℕ). PassTheSame lists a n b n) (sym same) (λ spot inside. treated.first (same-defined lists r p with_p same) spot inside ∙ treated.both_ways spot inside)
          | inr not_a ↦ elim (cases_eq (workload_number lists r) b) [
            | inl same ↦ subst (λ (n : ℕ). PassTheSame lists a n b n) (sym same) (λ spot inside. sym (treated.second (same-defined lists r q with_q same) spot inside))
            | inr not_b ↦ treated.sends (workload_number lists r) (number-within lists r with_p.0) not_a not_b
          ]
        ]

    receives-by : (r : ℕ) → AreTwoPods lists r p → AreTwoPods lists r q → PassTheSame lists (workload_number lists r) a (workload_number lists r) b
    receives-by r with_p with_q =
        elim (cases_eq (workload_number lists r) a) [
          | inl same ↦ subst (λ (n : ℕ). PassTheSame lists n a n b) (sym same) (treated.first (same-defined lists r p with_p same))
          | inr not_a ↦ elim (cases_eq (workload_number lists r) b) [
            | inl same ↦ subst (λ (n : ℕ). PassTheSame lists n a n b) (sym same)
                (λ spot inside. sym (treated.both_ways spot inside) ∙ sym (treated.second (same-defined lists r q with_q same) spot inside))
            | inr not_b ↦ treated.receives (workload_number lists r) (number-within lists r with_p.0) not_a not_b
          ]
        ]

    -- pods of workloads that are treated alike are so, where the families differ nowhere
    pods-treated : AreTreatedAlike lists p q
    pods-treated = record {
      sends = λ r family spot with_p with_q listed.
          moved p r (turn lists r p with_p) family spot listed ∙ sends-by r with_p with_q spot listed.1 ∙ sym (moved q r (turn lists r q with_q) family spot listed);
      receives = λ r family spot with_p with_q listed.
          moved r p with_p family spot listed ∙ receives-by r with_p with_q spot listed.1 ∙ sym (moved r q with_q family spot listed);
      each_other = λ family spot listed.
          moved p q two family spot listed ∙ treated.both_ways spot listed.1 ∙ sym (moved q p (turn lists p q two) family spot listed);
      addresses = λ direction family number spot within inside.
          with_address-address_allows lists p direction family number spot lawful two.0
          ∙ same-addresses lists a b direction family number spot (treated.addresses direction) within inside
          ∙ sym (with_address-address_allows lists q direction family number spot lawful two.1);
    }

-- the first two workloads that are alike to selectors and that some packet tells apart
alike-at : (lists : EstateLists) (p q : ℕ) → IsLawful lists → AreTwoPods lists p q → flat_fault lists ≡ Some (Alike (workload_number lists p) (workload_number lists q)) →
    RefusesFlatten lists (fault.Alike (name_of_workload (folding_of lists) (workload_number lists p)) (name_of_workload (folding_of lists) (workload_number lists q)))
alike-at lists p q lawful two is =
    let a = workload_number lists p in
    let b = workload_number lists q in
    let together = alike_together lists a b is in
    let none : (r s : ℕ) → AreTwoPods lists r s → AreFamiliesAlike lists r s = λ r s both. pods-alike lists lawful r s both
    (nothing_split lists a b is (workload_number lists r) (workload_number lists s) (number-within lists r both.0) (number-within lists s both.1)) in record {
      p = p;
      q = q;
      a_is = refl;
      b_is = refl;
      alike = (two, together.0, look-from lists p q two together.1);
      differ = λ treated. alike_differ lists a b is (workloads-treated lists lawful p q two (λ same. omega (arith, together.0, same)) treated);
      first = λ r s look before. pods-treated lists lawful r s look.0 (λ same. omega (arith, look.1, same))
          (alike_is_first lists a b is (workload_number lists r) (workload_number lists s) (number-within lists s look.0.1) look.1 (look-to lists r s look.0 look.2) before) none;
      nothing_split = none;
    }

-- ---- by numbers of workloads

pub tells-split : (lists : EstateLists) (a b : ℕ) → IsLawful lists → flat_fault lists ≡ Some (Split a b) →
    RefusesFlatten lists (fault.Split (name_of_workload (folding_of lists) a) (name_of_workload (folding_of lists) b))
tells-split lists a b lawful is =
    let folding = folding_of lists in
    let within = fault-workloads lists (Split a b) (inr is) in
    let apart : is_alone folding a b ≡ false = false_from_ne_true (is_alone folding a b) (λ yes. split_differs lists a b is (λ family other spot has has' inside.
    pair_allows-alone lists folding a b family spot yes ∙ sym (pair_allows-alone lists folding a b other spot yes))) in
    let stand = stand-for lists a b within.0 within.1 apart in
    let p = source_pod folding a in
    let q = destination_pod folding a b in
    let told = is ∙ ap (λ (n : ℕ). Some (Split n b)) (sym stand.p_of) ∙ ap (λ (n : ℕ). Some (Split (workload_number lists p) n)) (sym stand.q_of) in
    subst (λ (n : ℕ). RefusesFlatten lists (fault.Split (name_of_workload folding n) (name_of_workload folding b))) stand.p_of
    (subst (λ (n : ℕ). RefusesFlatten lists (fault.Split (name_of_workload folding (workload_number lists p)) (name_of_workload folding n))) stand.q_of
    (split-at lists lawful p q (stand.p_in, stand.q_in, stand.apart) told))

pub tells-alike : (lists : EstateLists) (a b : ℕ) → IsLawful lists → flat_fault lists ≡ Some (Alike a b) →
    RefusesFlatten lists (fault.Alike (name_of_workload (folding_of lists) a) (name_of_workload (folding_of lists) b))
tells-alike lists a b lawful is =
    let folding = folding_of lists in
    let within = fault-workloads lists (Alike a b) (inr is) in
    let less = (alike_together lists a b is).0 in
    let apart : is_alone folding a b ≡ false = rw (ne_eqb a b (λ same. omega (arith, less, same))) refl in
    let stand = stand-for lists a b within.0 within.1 apart in
    let p = source_pod folding a in
    let q = destination_pod folding a b in
    let told = is ∙ ap (λ (n : ℕ). Some (Alike n b)) (sym stand.p_of) ∙ ap (λ (n : ℕ). Some (Alike (workload_number lists p) n)) (sym stand.q_of) in
    subst (λ (n : ℕ). RefusesFlatten lists (fault.Alike (name_of_workload folding n) (name_of_workload folding b))) stand.p_of
    (subst (λ (n : ℕ). RefusesFlatten lists (fault.Alike (name_of_workload folding (workload_number lists p)) (name_of_workload folding n))) stand.q_of
    (alike-at lists p q lawful (stand.p_in, stand.q_in, stand.apart) told))
