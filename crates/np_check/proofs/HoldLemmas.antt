-- Nothing is found exactly where the statement holds. For `nothing_is_found_where_a_statement_holds` and crates above.
use Rattle.std.proofs.Common.{◌≡◌, ℕ, Bool, true, None, All, Contains, refl, sym, ap, subst, ◌∙◌, inl, inr}
use Rattle.std.specs.Option.{option_map}
use Rattle.std.proofs.lemmas.Bool.{cases_Bool}
use Rattle.std.proofs.lemmas.List.Elements.{All-contains}
use Rattle.np_addr.specs.Prelude.{family_of}
use Rattle.np_check.specs.Prelude.{Address, At, Egress, EstateLists, Family, HasAddress, Holds, Ingress, PlaceEnd, PortSpot, Question, Wanted, Work, addresses_of, breaks, complies, counterexample_at, counterexample_between, counterexample_from, counterexample_in, counterexample_of, first_given, first_spot, number_of_address}
use Rattle.np_check.proofs.FirstLemmas.{first_of-one, none_both}
use Rattle.np_check.proofs.NoneLemmas.{both_none, is_whole, no_address, no_addresses, no_spot, no_spots, none_all, none_at, none_map, not_broken}
use Rattle.np_check.proofs.PairLemmas.{between-alone, between-apart, from-work}
use Rattle.np_check.proofs.WholeLemmas.{of-question}
use Rattle.np_conns.specs.Prelude.{Conns, has_spot, is_spot}
use Rattle.np_model.specs.Prelude.{IsLawful, families_of}
use Rattle.np_fold.specs.Prelude.{folding_of, workload_number}
use Rattle.np_kinds.proofs.MemberLemmas.{destination-member, member-number, members-some, members-within, not-alone, own-member, pods-apart, source-member}
use Rattle.np_kinds.proofs.PairLemmas.{between_pods-pair_allows, pair_allows-between, with_address-address_allows}
use Rattle.np_kinds.specs.Prelude.{IsWorkload, address_allows, destination_pod, is_alone, pair_allows, source_pod}

-- ---- between two ends

none_in : (lists : EstateLists) (wanted : Wanted) (conns : Conns) (source destination : PlaceEnd) (family : Family) (passes : PortSpot → Bool) (spot : PortSpot) →
    option_map (counterexample_at source destination family) (first_spot (breaks wanted conns passes)) ≡ None → is_spot spot ≡ true → has_spot conns spot ≡ true → complies wanted (passes spot) ≡ true
none_in lists wanted conns source destination family passes spot none is has =
    not_broken wanted conns passes spot (no_spot (breaks wanted conns passes) spot (none_map (counterexample_at source destination family) (first_spot (breaks wanted conns passes)) none) is) has

all_in : (wanted : Wanted) (conns : Conns) (source destination : PlaceEnd) (family : Family) (passes : PortSpot → Bool) →
    ((spot : PortSpot) → is_spot spot ≡ true → has_spot conns spot ≡ true → complies wanted (passes spot) ≡ true) →
    option_map (counterexample_at source destination family) (first_spot (breaks wanted conns passes)) ≡ None
all_in wanted conns source destination family passes does =
    ap (option_map (counterexample_at source destination family)) (no_spots (breaks wanted conns passes) (λ spot is. is_whole wanted conns passes spot (does spot is)))

-- of an address
to_address : (lists : EstateLists) (wanted : Wanted) (conns : Conns) (a : ℕ) (address : Address) →
    counterexample_between lists wanted conns (Work a) (At address) ≡ option_map (counterexample_at (Work a) (At address) (family_of address))
    (first_spot (breaks wanted conns (address_allows lists (folding_of lists) a Egress (family_of address) (number_of_address address))))
unfolding counterexample_between
to_address lists wanted conns a address = first_of-one (counterexample_in lists wanted conns (Work a) (At address)) (family_of address)

from_address : (lists : EstateLists) (wanted : Wanted) (conns : Conns) (b : ℕ) (address : Address) →
    counterexample_between lists wanted conns (At address) (Work b) ≡ option_map (counterexample_at (At address) (Work b) (family_of address))
    (first_spot (breaks wanted conns (address_allows lists (folding_of lists) b Ingress (family_of address) (number_of_address address))))
unfolding counterexample_between
from_address lists wanted conns b address = first_of-one (counterexample_in lists wanted conns (At address) (Work b)) (family_of address)

-- ---- where nothing is found the statement holds

record AreNone (lists : EstateLists) (question : Question) : Type 0 where
  works : (a b : ℕ) → Contains question.source.works a → Contains question.destination.works b → counterexample_between lists question.wanted question.conns (Work a) (Work b) ≡ None
  egress : (a : ℕ) (address : Address) → Contains question.source.works a → HasAddress question.destination address →
      counterexample_between lists question.wanted question.conns (Work a) (At address) ≡ None
  ingress : (address : Address) (b : ℕ) → HasAddress question.source address → Contains question.destination.works b →
      counterexample_between lists question.wanted question.conns (At address) (Work b) ≡ None

are_none : (lists : EstateLists) (question : Question) → counterexample_of lists question ≡ None → AreNone lists question
are_none lists question none =
    let gives = counterexample_between lists question.wanted question.conns in
    let all = none_both _ _ (sym (of-question lists question) ∙ none) in
    let from = λ (a : ℕ) (among : Contains question.source.works a).
    none_both (first_given (λ (work : ℕ). gives (Work a) (Work work)) question.destination.works) (first_given (λ (address : Address). gives (Work a) (At address)) (addresses_of question.destination.block))
    (sym (from-work lists question.wanted question.conns question.destination a) ∙ none_at
    (λ (source : ℕ). counterexample_from lists question.wanted question.conns question.destination (Work source)) question.source.works a all.0 among) in
    record {
      works = λ a b in_source in_destination. none_at (λ (work : ℕ). gives (Work a) (Work work)) question.destination.works b (from a in_source).0 in_destination;
      egress = λ a address in_source has. no_address question.destination.block (λ (other : Address). gives (Work a) (At other)) address (from a in_source).1 has.0 has.1;
      ingress = λ address b has in_destination.
          none_at (λ (work : ℕ). gives (At address) (Work work)) question.destination.works b
          (no_address question.source.block (λ (other : Address). first_given (λ (work : ℕ). gives (At other) (Work work)) question.destination.works) address all.1 has.0 has.1) in_destination;
    }

pub holds : (lists : EstateLists) (question : Question) → IsLawful lists → counterexample_of lists question ≡ None → Holds lists question
holds lists question lawful none =
    let are = are_none lists question none in
    let folding = folding_of lists in
    record {
      pods = λ p q family spot in_source in_destination differ listed speaks.
          let a = workload_number lists p in
          let b = workload_number lists q in
          let apart = not-alone folding a b p q (own-member lists p in_source.0) (own-member lists q in_destination.0) differ in
          let families = between-apart lists question.wanted question.conns a b (families_of lists.pods) apart refl ∙ are.works a b in_source.1 in_destination.1 in
          ap (complies question.wanted) (between_pods-pair_allows lists p q family spot lawful in_source.0 in_destination.0 differ)
          ∙ none_in lists question.wanted question.conns (Work a) (Work b) family (pair_allows lists folding a b family) spot
          (none_at (counterexample_in lists question.wanted question.conns (Work a) (Work b)) (families_of lists.pods) family families listed) speaks.0 speaks.1;
      to_addresses = λ p address spot in_source has speaks.
          let a = workload_number lists p in
          ap (complies question.wanted) (with_address-address_allows lists p Egress (family_of address) (number_of_address address) spot lawful in_source.0)
          ∙ none_in lists question.wanted question.conns (Work a) (At address) (family_of address) (address_allows lists folding a Egress (family_of address) (number_of_address address)) spot
          (sym (to_address lists question.wanted question.conns a address) ∙ are.egress a address in_source.1 has) speaks.0 speaks.1;
      from_addresses = λ address q spot has in_destination speaks.
          let b = workload_number lists q in
          ap (complies question.wanted) (with_address-address_allows lists q Ingress (family_of address) (number_of_address address) spot lawful in_destination.0)
          ∙ none_in lists question.wanted question.conns (At address) (Work b) (family_of address) (address_allows lists folding b Ingress (family_of address) (number_of_address address)) spot
          (sym (from_address lists question.wanted question.conns b address) ∙ are.ingress address b has in_destination.1) speaks.0 speaks.1;
    }

-- ---- where the statement holds nothing is found

pub found_none : (lists : EstateLists) (question : Question) → IsLawful lists → All (IsWorkload lists) question.source.works → All (IsWorkload lists) question.destination.works →
    Holds lists question → counterexample_of lists question ≡ None
found_none lists question lawful sources destinations is =
    let folding = folding_of lists in
    let gives = counterexample_between lists question.wanted question.conns in
    let near = λ (a : ℕ) (a_in : IsWorkload lists a). source-member folding a (members-some lists folding a refl a_in) in
    let near_in = λ (a : ℕ) (a_in : IsWorkload lists a). members-within lists folding a (source_pod folding a) refl a_in (near a a_in) in
    let near_of = λ (a : ℕ) (a_in : IsWorkload lists a). member-number lists a (source_pod folding a) (near_in a a_in) (near a a_in) in
    let works : (a b : ℕ) → IsWorkload lists a → IsWorkload lists b → Contains question.source.works a → Contains question.destination.works b → gives (Work a) (Work b) ≡ None =
    λ a b a_in b_in in_source in_destination.
    elim (cases_Bool (is_alone folding a b)) [
      | inl alone ↦ sym (between-alone lists question.wanted question.conns a b alone)
      | inr apart ↦
          let far = destination-member folding a b (members-some lists folding b refl b_in) apart in
          let far_in = members-within lists folding b (destination_pod folding a b) refl b_in far in
          let far_of = member-number lists b (destination_pod folding a b) far_in far in
          sym (between-apart lists question.wanted question.conns a b (families_of lists.pods) apart refl)
          ∙ none_all (counterexample_in lists question.wanted question.conns (Work a) (Work b)) (families_of lists.pods) (λ family listed.
          all_in question.wanted question.conns (Work a) (Work b) family (pair_allows lists folding a b family) (λ spot is_one has.
          ap (complies question.wanted) (pair_allows-between lists folding a b family spot apart)
          ∙ is.pods (source_pod folding a) (destination_pod folding a b) family spot (near_in a a_in, subst (Contains question.source.works) (sym (near_of a a_in)) in_source)
          (far_in, subst (Contains question.destination.works) (sym far_of) in_destination) (pods-apart lists a b a_in b_in apart) listed (is_one, has)))
    ] in
    let egress : (a : ℕ) (address : Address) → IsWorkload lists a → Contains question.source.works a → HasAddress question.destination address → gives (Work a) (At address) ≡ None =
    λ a address a_in in_source has.
    to_address lists question.wanted question.conns a address
    ∙ all_in question.wanted question.conns (Work a) (At address) (family_of address) (address_allows lists folding a Egress (family_of address) (number_of_address address)) (λ spot is_one has_it.
    ap (λ (n : ℕ). complies question.wanted (address_allows lists folding n Egress (family_of address) (number_of_address address) spot)) (sym (near_of a a_in))
    ∙ ap (complies question.wanted) (sym (with_address-address_allows lists (source_pod folding a) Egress (family_of address) (number_of_address address) spot lawful (near_in a a_in)))
    ∙ is.to_addresses (source_pod folding a) address spot (near_in a a_in, subst (Contains question.source.works) (sym (near_of a a_in)) in_source) has (is_one, has_it)) in
    let ingress : (address : Address) (b : ℕ) → IsWorkload lists b → HasAddress question.source address → Contains question.destination.works b → gives (At address) (Work b) ≡ None =
    λ address b b_in has in_destination.
    from_address lists question.wanted question.conns b address
    ∙ all_in question.wanted question.conns (At address) (Work b) (family_of address) (address_allows lists folding b Ingress (family_of address) (number_of_address address)) (λ spot is_one has_it.
    ap (λ (n : ℕ). complies question.wanted (address_allows lists folding n Ingress (family_of address) (number_of_address address) spot)) (sym (near_of b b_in))
    ∙ ap (complies question.wanted) (sym (with_address-address_allows lists (source_pod folding b) Ingress (family_of address) (number_of_address address) spot lawful (near_in b b_in)))
    ∙ is.from_addresses address (source_pod folding b) spot has (near_in b b_in, subst (Contains question.destination.works) (sym (near_of b b_in)) in_destination) (is_one, has_it)) in
    of-question lists question
    ∙ both_none _ _
    (none_all (λ (source : ℕ). counterexample_from lists question.wanted question.conns question.destination (Work source)) question.source.works (λ a in_source.
    from-work lists question.wanted question.conns question.destination a
    ∙ both_none _ _
    (none_all (λ (work : ℕ). gives (Work a) (Work work)) question.destination.works
    (λ b in_destination. works a b (All-contains (IsWorkload lists) question.source.works a sources in_source)
    (All-contains (IsWorkload lists) question.destination.works b destinations in_destination) in_source in_destination))
    (no_addresses question.destination.block (λ (address : Address). gives (Work a) (At address))
    (λ address is_one has. egress a address (All-contains (IsWorkload lists) question.source.works a sources in_source) in_source (is_one, has)))))
    (no_addresses question.source.block (λ (address : Address). first_given (λ (work : ℕ). gives (At address) (Work work)) question.destination.works) (λ address is_one has.
    none_all (λ (work : ℕ). gives (At address) (Work work)) question.destination.works
    (λ b in_destination. ingress address b (All-contains (IsWorkload lists) question.destination.works b destinations in_destination) (is_one, has) in_destination)))
