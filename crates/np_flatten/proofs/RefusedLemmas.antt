-- What is split, and what is alike and differs, packet by packet.
-- For `the_first_alike_are_told`, `the_first_split_is_told` and crates above.
use Rattle.std.proofs.Common.{◌≡◌, ◌⊎◌, ℕ, ◌<◌, List, [], ◌∷◌, Bool, true, false, ◌&&◌, not, map, nat_lt, Option, Some, None, arith, refl, sym, ap, ◌∙◌, inl, inr}
use Rattle.std.specs.List.{Contains}
use Rattle.std.proofs.lemmas.Bool.{and_parts, and_right, lt-ltb, ltb-true, true≢false}
use Rattle.std.proofs.lemmas.List.Elements.{All-contains, All-from_recursion}
use Rattle.np_flatten.specs.Prelude.{AddressRow, Alike, AreFamiliesAlike, AreTreatedAlike, Direction, Egress, EstateLists, Family, Four, Ingress, IsLexicallyBefore, PassTheSame, PortSpot, Six, Split, are_together, differ, family_of_list, fault_by, first_family, first_pair, flat_fault, is_defined, is_split, is_unlike, set_in, set_of, two_differ}
use Rattle.np_conns.specs.Prelude.{Conns, has_spot, is_spot}
use Rattle.np_model.specs.Prelude.{families_of}
use Rattle.np_fold.specs.Prelude.{folding_of}
use Rattle.np_flatten.proofs.DifferLemmas.{Agrees, from_agree, to_agree}
use Rattle.np_flatten.proofs.FirstPairs.{first_pair-from_none, first_pair-is_first}
use Rattle.np_flatten.proofs.FlatFacts.{same_sets}
use Rattle.np_flatten.proofs.SplitLemmas.{families_cases, two_differ-two}
use Rattle.np_conns.proofs.ConnLemmas.{are_same_conns-Decides, conns_of-agrees, conns_of-has}
use Rattle.np_table.specs.Prelude.{address_rows, estate_table}
use Rattle.np_kinds.specs.Prelude.{is_alone, number_of_workloads, pair_allows}

-- ---- sets and packets

-- equal sets have the same packets
set_packets : (lists : EstateLists) (family other : Family) (a b c d : ℕ) → set_in lists family a b ≡ set_in lists other c d → (spot : PortSpot) → is_spot spot ≡ true →
    pair_allows lists (folding_of lists) a b family spot ≡ pair_allows lists (folding_of lists) c d other spot
unfolding set_in
set_packets lists family other a b c d same spot inside =
    sym (conns_of-has (pair_allows lists (folding_of lists) a b family) spot inside)
    ∙ ap (λ (set : Conns). has_spot set spot) same
    ∙ conns_of-has (pair_allows lists (folding_of lists) c d other) spot inside

-- and sets of the same packets are equal
packets_set : (lists : EstateLists) (family other : Family) (a b c d : ℕ) →
    ((spot : PortSpot) → is_spot spot ≡ true → pair_allows lists (folding_of lists) a b family spot ≡ pair_allows lists (folding_of lists) c d other spot) →
    set_in lists family a b ≡ set_in lists other c d
unfolding set_in
packets_set lists family other a b c d same = conns_of-agrees (pair_allows lists (folding_of lists) a b family) (pair_allows lists (folding_of lists) c d other) same

-- ---- families

none_differ : (sets : Family → Conns) (families : List Family) → ((family : Family) × (families ≡ family ∷ [])) ⊎ (families ≡ Four ∷ Six ∷ []) →
    ((family other : Family) → Contains families family → Contains families other → sets family ≡ sets other) → two_differ (map sets families) ≡ false
none_differ sets families (inl one) same = rw one.1 (rw ((are_same_conns-Decides (sets one.0) (sets one.0)).1 refl) refl)
none_differ sets families (inr both) same =
    let four : Contains families Four = rw both (0, omega arith, refl) in
    let six : Contains families Six = rw both (1, omega arith, refl) in
    rw both (two_differ-two (sets Four) (sets Six) ∙ ap not ((are_same_conns-Decides (sets Four) (sets Six)).1 (same Four Six four six)))

-- a pair of workloads that is not split
pub not_split : (lists : EstateLists) (a b : ℕ) → is_split lists a b ≡ false → AreFamiliesAlike lists a b
unfolding pair_allows
not_split lists a b none family other spot has has' inside = by (is_alone (folding_of lists) a b) refl none
  where
    by : (alone : Bool) → is_alone (folding_of lists) a b ≡ alone → (not alone && two_differ (map (λ one. set_in lists one a b) (families_of lists.pods))) ≡ false →
        pair_allows lists (folding_of lists) a b family spot ≡ pair_allows lists (folding_of lists) a b other spot
    by true is fine = rw is refl
    by false is fine =
        let all = All-from_recursion (λ (one : Family). set_in lists one a b ≡ set_in lists (first_family (families_of lists.pods)) a b) (families_of lists.pods)
        (same_sets (λ one. set_in lists one a b) (families_of lists.pods) (families_cases lists.pods) fine) in
        let at : (one : Family) → Contains (families_of lists.pods) one → set_in lists one a b ≡ set_in lists (first_family (families_of lists.pods)) a b = λ one there. All-contains
        (λ (one : Family). set_in lists one a b ≡ set_in lists (first_family (families_of lists.pods)) a b) (families_of lists.pods) one all there in
        set_packets lists family other a b a b (at family has ∙ sym (at other has')) spot inside

-- and one in which the families are alike is not split
families_alike : (lists : EstateLists) (a b : ℕ) → AreFamiliesAlike lists a b → is_split lists a b ≡ false
families_alike lists a b alike =
    and_right (is_defined lists a b) _ (none_differ (λ family. set_in lists family a b) (families_of lists.pods) (families_cases lists.pods)
    (λ family other has has'. packets_set lists family other a b a b (λ spot inside. alike family other spot has has' inside)))

-- ---- workloads that are alike to selectors

treated_alike : (lists : EstateLists) (a b : ℕ) → Agrees lists a b → AreTreatedAlike lists a b
treated_alike lists a b agree =
    let packets : (c d e f : ℕ) → set_of lists c d ≡ set_of lists e f → PassTheSame lists c d e f = λ c d e f same spot inside. set_packets lists (family_of_list lists)
    (family_of_list lists) c d e f same spot inside in record {
      sends = λ third within ca cb. packets a third b third (agree.sends third within ca cb);
      receives = λ third within ca cb. packets third a third b (agree.receives third within ca cb);
      both_ways = packets a b b a agree.both_ways;
      first = λ two. packets a a a b (agree.first two);
      second = λ two. packets b b a b (agree.second two);
      addresses = λ direction. by direction;
    }
  where
    by : (direction : Direction) → address_rows (estate_table lists) a direction ≡ address_rows (estate_table lists) b direction
    by Ingress = ap (λ (rows : List AddressRow × List AddressRow). rows.0) agree.alone
    by Egress = ap (λ (rows : List AddressRow × List AddressRow). rows.1) agree.alone

agree_alike : (lists : EstateLists) (a b : ℕ) → AreTreatedAlike lists a b → Agrees lists a b
agree_alike lists a b alike =
    let set : (c d e f : ℕ) → PassTheSame lists c d e f → set_of lists c d ≡ set_of lists e f = λ c d e f same. packets_set lists (family_of_list lists) (family_of_list lists) c d e f same in record {
      sends = λ third within ca cb. set a third b third (alike.sends third within ca cb);
      receives = λ third within ca cb. set third a third b (alike.receives third within ca cb);
      both_ways = set a b b a alike.both_ways;
      first = λ two. set a a a b (alike.first two);
      second = λ two. set b b a b (alike.second two);
      alone =
          ap (λ (rows : List AddressRow). (rows, address_rows (estate_table lists) a Egress)) (alike.addresses Ingress)
          ∙ ap (λ (rows : List AddressRow). (address_rows (estate_table lists) b Ingress, rows)) (alike.addresses Egress);
    }

-- ---- the first fault

split_found : (split unlike : Option (ℕ × ℕ)) (a b : ℕ) → fault_by split unlike ≡ Some (Split a b) → split ≡ Some (a, b)
split_found (Some pair) unlike a b is =
    let same : Split pair.0 pair.1 ≡ Split a b = cc in
    let one : pair.0 ≡ a = cc in
    let other : pair.1 ≡ b = cc in
    ap Some (ap (λ (n : ℕ). (n, pair.1)) one ∙ ap (λ (n : ℕ). (a, n)) other)
split_found None (Some pair) a b is = absurd (cc)
split_found None None a b is = absurd (cc)

alike_found : (split unlike : Option (ℕ × ℕ)) (a b : ℕ) → fault_by split unlike ≡ Some (Alike a b) → (split ≡ None) × (unlike ≡ Some (a, b))
alike_found (Some pair) unlike a b is = absurd (cc)
alike_found None (Some pair) a b is =
    let one : pair.0 ≡ a = cc in
    let other : pair.1 ≡ b = cc in
    (refl, ap Some (ap (λ (n : ℕ). (n, pair.1)) one ∙ ap (λ (n : ℕ). (a, n)) other))
alike_found None None a b is = absurd (cc)

is_before : (test : ℕ → ℕ → Bool) (count a b c d : ℕ) → first_pair test count ≡ Some (a, b) → c < count → d < count → IsLexicallyBefore c d a b → test c d ≡ false
is_before test count a b c d found c_in d_in (inl less) = (first_pair-is_first test count (a, b) found).earlier c d (omega arith) less d_in
is_before test count a b c d found c_in d_in (inr same) = ap (λ (n : ℕ). test n d) same.0 ∙ (first_pair-is_first test count (a, b) found).before d same.1

module _ (lists : EstateLists) (a b : ℕ) (is : flat_fault lists ≡ Some (Split a b)) where
  split_first : first_pair (is_split lists) (number_of_workloads lists) ≡ Some (a, b)
  unfolding flat_fault
  split_first = split_found (first_pair (is_split lists) (number_of_workloads lists)) (first_pair (is_unlike lists) (number_of_workloads lists)) a b is

  pub split_differs : AreFamiliesAlike lists a b → ⊥
  split_differs alike = true≢false (sym (first_pair-is_first (is_split lists) (number_of_workloads lists) (a, b) split_first).is ∙ families_alike lists a b alike)

  pub split_is_first : (c d : ℕ) → c < number_of_workloads lists → d < number_of_workloads lists → IsLexicallyBefore c d a b → AreFamiliesAlike lists c d
  split_is_first c d c_in d_in before = not_split lists c d (is_before (is_split lists) (number_of_workloads lists) a b c d split_first c_in d_in before)

module _ (lists : EstateLists) (a b : ℕ) (is : flat_fault lists ≡ Some (Alike a b)) where
  alike_first : (first_pair (is_split lists) (number_of_workloads lists) ≡ None) × (first_pair (is_unlike lists) (number_of_workloads lists) ≡ Some (a, b))
  unfolding flat_fault
  alike_first = alike_found (first_pair (is_split lists) (number_of_workloads lists)) (first_pair (is_unlike lists) (number_of_workloads lists)) a b is

  parts : (nat_lt a b && are_together lists a b ≡ true) × (differ lists a b ≡ true)
  parts = and_parts (nat_lt a b && are_together lists a b) (differ lists a b) (first_pair-is_first (is_unlike lists) (number_of_workloads lists) (a, b) alike_first.1).is

  pub alike_together : (a < b) × (are_together lists a b ≡ true)
  alike_together = let both = and_parts (nat_lt a b) (are_together lists a b) parts.0 in (ltb-true a b both.0, both.1)

  pub nothing_split : (c d : ℕ) → c < number_of_workloads lists → d < number_of_workloads lists → AreFamiliesAlike lists c d
  nothing_split c d c_in d_in = not_split lists c d (first_pair-from_none (is_split lists) (number_of_workloads lists) alike_first.0 c d c_in d_in)

  pub alike_differ : AreTreatedAlike lists a b → ⊥
  alike_differ alike =
      let first = first_pair-is_first (is_unlike lists) (number_of_workloads lists) (a, b) alike_first.1 in
      let less = alike_together.0 in
      let a_in : a < number_of_workloads lists = omega (arith, first.high) in
      true≢false (sym parts.1 ∙ from_agree lists a b a_in first.within (λ same. absurd (omega (arith, less, same))) (agree_alike lists a b alike))

  pub alike_is_first : (c d : ℕ) → d < number_of_workloads lists → c < d → are_together lists c d ≡ true → IsLexicallyBefore c d a b → AreTreatedAlike lists c d
  alike_is_first c d d_in less together before =
      let c_in : c < number_of_workloads lists = omega (arith, d_in, less) in
      let none = is_before (is_unlike lists) (number_of_workloads lists) a b c d alike_first.1 c_in d_in before in
      let plain : differ lists c d ≡ false = rw (lt-ltb c d less, together) at none in
      treated_alike lists c d (to_agree lists c d c_in d_in (λ same. omega (arith, less, same)) plain)
