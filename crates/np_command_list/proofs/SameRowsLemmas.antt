-- Two lists of rows that say what passes have the same rows. For OneTextLemmas and SameRangesLemmas.
use Rattle.std.proofs.Common.{◌≡◌, ◌≢◌, ℕ, List, [], ◌∷◌, Bool, true, ◌&&◌, Contains, Option, None, Some, arith, eq-eqb, refl, sym, ap, subst, ◌∙◌}
use Rattle.std.proofs.lemmas.Bool.{and_from, and_parts, false≢true}
use Rattle.std.proofs.lemmas.List.Elements.{All-contains}
use Rattle.std.specs.Cmp.{both_ways}
use Rattle.np_command_list.specs.Prelude.{AgreeInFamilies, Controller, EstateLists, Family, Four, IsIngressRow, IsPairRow, IsPodOf, IsRowOf, Pod, PortSpot, Query, Row, RowEnd, RowKey, SayWhatPasses, Six, Work}
use Rattle.np_model.proofs.FamilyLemmas.{same_family-itself}
use Rattle.np_conns.specs.Prelude.{has_spot, is_spot}
use Rattle.np_fold.specs.Prelude.{workload_number}
use Rattle.np_model.specs.Prelude.{families_of, same_family}
use Rattle.np_command_list.proofs.OneListLemmas.{AreToldAlike, from-kept, kept, has-head, one-of_rank, told-rank}
use Rattle.np_command_list.proofs.RowPartLemmas.{Agree, agree-one, families-cases}
use Rattle.np_report.specs.Prelude.{keeps}
use Rattle.np_routes.specs.Prelude.{ingress_key, is_from_controller, is_ingress_controller, rows_from_controller}
use Rattle.np_routes.proofs.ClusterLemmas.{controller-end}
use Rattle.np_table.specs.Prelude.{allows_in, is_between, is_workload, pair_key, rows_between, says, speaks_of}
use Rattle.np_kinds.specs.Prelude.{between_pods}
use Rattle.np_table.proofs.RowLemmas.{is_workload-end}
use Rattle.np_routes.proofs.RouteLemmas.{passes_some, some_passes}

-- ---- small facts

family-same : (one other : Family) → same_family one other ≡ true → one ≡ other
family-same Four Four is = refl
family-same Four Six is = absurd (false≢true is)
family-same Six Four is = absurd (false≢true is)
family-same Six Six is = refl

-- marks that speak of one family are one, where both are none or neither is
marks-same : (one other : Option Family) (family : Family) → (one ≡ None → other ≡ None) → (other ≡ None → one ≡ None) → speaks_of one family ≡ true → speaks_of other family ≡ true → one ≡ other
marks-same None None family forth back speaks speaks' = refl
marks-same None (Some other) family forth back speaks speaks' = sym (forth refl)
marks-same (Some one) None family forth back speaks speaks' = back refl
marks-same (Some one) (Some other) family forth back speaks speaks' = ap (λ (f : Family). Some f) (family-same one family speaks ∙ sym (family-same other family speaks'))

some-family : (pods : List Pod) → (family : Family) × Contains (families_of pods) family
some-family = families-cases (λ (families : List Family). (family : Family) × Contains families family) (Four, has-head Four []) (Six, has-head Six []) (Four, has-head Four (Six ∷ []))

-- where the families differ both are listed
each-family : (passes : Family → PortSpot → Bool) (family : Family) (pods : List Pod) → (Agree (families_of pods) passes → ⊥) → Contains (families_of pods) family
each-family passes family =
    families-cases (λ (families : List Family). (Agree families passes → ⊥) → Contains families family)
    (λ differ. absurd (differ (agree-one Four passes))) (λ differ. absurd (differ (agree-one Six passes))) (λ differ. by family)
  where
    by : (one : Family) → Contains (Four ∷ Six ∷ []) one
    by Four = (0, omega arith, refl)
    by Six = (1, omega arith, refl)

-- two ends make a key
pub key-from : (key : RowKey) (source destination : RowEnd) → key.source ≡ source → key.destination ≡ destination → key ≡ record { source = source; destination = destination }
key-from key source destination from to =
    let first : RowEnd → RowKey = λ end. record { source = end; destination = key.destination } in
    let second : RowEnd → RowKey = λ end. record { source = source; destination = end } in
    ap first from ∙ ap second to

module _ (lists : EstateLists) (sender : Option ℕ) (query : Query) where
  abbrev Says : List Row → Type 0
  Says rows = SayWhatPasses lists sender query rows

  pub row-of : (rows : List Row) → Says rows → (row : Row) (key : RowKey) → Contains rows row → row.key ≡ key → IsRowOf lists key.source key.destination row
  row-of rows say row key has is =
      subst (λ (one : RowKey). IsRowOf lists one.source one.destination row) is (All-contains (λ (one : Row). IsRowOf lists one.key.source one.key.destination one) rows row say.each has)

  pub kept-key : (rows : List Row) → Says rows → (row : Row) (key : RowKey) → Contains rows row → row.key ≡ key → keeps query key ≡ true
  kept-key rows say row key has is = ap (keeps query) (sym is) ∙ All-contains (λ (one : Row). keeps query one.key ≡ true) rows row say.asked has

  -- ---- pair rows

  module _ (source destination : ℕ) (asked : keeps query (pair_key source destination) ≡ true) where
    -- the rows between two workloads say what passes between two pods of them
    between-is : (rows : List Row) → Says rows → (p q : ℕ) → IsPodOf lists source p → IsPodOf lists destination q → p ≢ q → (family : Family) (spot : PortSpot)
        → Contains (families_of lists.pods) family →
        is_spot spot ≡ true → allows_in (rows_between source destination rows) family spot ≡ between_pods lists p q family spot
    between-is rows say p q near far apart family spot among is =
        ap (λ (n : ℕ). allows_in (rows_between n destination rows) family spot) (sym near.1)
        ∙ ap (λ (n : ℕ). allows_in (rows_between (workload_number lists p) n rows) family spot) (sym far.1)
        ∙ say.pods p q family spot near.0 far.0 apart among is
        (ap (λ (n : ℕ). keeps query (pair_key n (workload_number lists q))) near.1 ∙ ap (λ (n : ℕ). keeps query (pair_key source n)) far.1 ∙ asked)

    -- so the families agree for all pods of them, or for none
    agree-too : (rows : List Row) → Says rows → (row other : Row) (is : IsPairRow lists source destination row) (is' : IsPairRow lists source destination other) → AgreeInFamilies lists is.p is.q →
        AgreeInFamilies lists is'.p is'.q
    agree-too rows say row other is is' agree = λ one two has has' spot in_space.
        let first = between-is rows say is.p is.q is.sender is.receiver is.apart in
        let second = between-is rows say is'.p is'.q is'.sender is'.receiver is'.apart in
        sym (second one spot has in_space) ∙ first one spot has in_space ∙ agree one two has has' spot in_space ∙ sym (first two spot has' in_space) ∙ second two spot has' in_space

    -- and rows that speak of one family have one mark
    one-mark : (rows : List Row) → Says rows → (row other : Row) → IsPairRow lists source destination row → IsPairRow lists source destination other → (family : Family) →
        speaks_of row.family family ≡ true → speaks_of other.family family ≡ true → row.family ≡ other.family
    one-mark rows say row other is is' family speaks speaks' =
        marks-same row.family other.family family (λ unmarked. is'.mark.1 (agree-too rows say row other is is' (is.mark.0 unmarked)))
        (λ unmarked. is.mark.1 (agree-too rows say other row is' is (is'.mark.0 unmarked))) speaks speaks'

    -- a row speaks of some family of the list
    speaks-of_one : (row : Row) → IsPairRow lists source destination row → (family : Family) × Contains (families_of lists.pods) family × (speaks_of row.family family ≡ true)
    speaks-of_one row is = by row.family refl
      where
        no_mark : (family : Family) → Some family ≡ None → ⊥
        no_mark family at = cc

        by : (mark : Option Family) → row.family ≡ mark → (family : Family) × Contains (families_of lists.pods) family × (speaks_of mark family ≡ true)
        by None at = let one = some-family lists.pods in (one.0, one.1, refl)
        by (Some family) at =
            (family, each-family (between_pods lists is.p is.q) family lists.pods (λ agree. no_mark family (sym at ∙ is.mark.1 agree)), same_family-itself family)

    is_between-own : (row : Row) → row.key ≡ pair_key source destination → is_between source destination row ≡ true
    is_between-own row is = ap (λ (key : RowKey). is_workload source key.source && is_workload destination key.destination) is ∙ and_from _ _ (eq-eqb source source refl)
        (eq-eqb destination destination refl)

    is_between-key : (row : Row) → is_between source destination row ≡ true → row.key ≡ pair_key source destination
    is_between-key row is =
        let ends = and_parts (is_workload source row.key.source) (is_workload destination row.key.destination) is in
        key-from row.key (Work source) (Work destination) (is_workload-end source row.key.source ends.0) (is_workload-end destination row.key.destination ends.1)

    -- what one of them says is what they say
    pair-says : (rows : List Row) → Says rows → (row : Row) → Contains rows row → row.key ≡ pair_key source destination → (family : Family) → speaks_of row.family family ≡ true → (spot : PortSpot) →
        has_spot row.conns spot ≡ allows_in (rows_between source destination rows) family spot
    pair-says rows say row has key family speaks spot =
        both_ways (has_spot row.conns spot) (allows_in (rows_between source destination rows) family spot)
        (λ passes. passes_some (says family spot) (rows_between source destination rows) row (kept (is_between source destination) rows row has (is_between-own row key)) (and_from _ _ speaks passes))
        (λ allowed.
        let found = some_passes (says family spot) (rows_between source destination rows) allowed in
        let among = from-kept (is_between source destination) rows found.0 found.1 in
        let key' = is_between-key found.0 among.1 in
        let parts = and_parts (speaks_of found.0.family family) (has_spot found.0.conns spot) found.2 in
        let mark = one-mark rows say found.0 row (row-of rows say found.0 (pair_key source destination) among.0 key')
        (row-of rows say row (pair_key source destination) has key) family parts.0 speaks in
        let same = one-of_rank rows say.order found.0 row among.0 has (told-rank found.0 row (key' ∙ sym key) mark) in
        ap (λ (one : Row). has_spot one.conns spot) (sym same) ∙ parts.1)

    pub pair-among : (rows others : List Row) → Says rows → Says others → (row : Row) → Contains rows row → row.key ≡ pair_key source destination →
        (other : Row) × Contains others other × AreToldAlike row other
    pair-among rows others say say' row has key =
        let is : IsPairRow lists source destination row = row-of rows say row (pair_key source destination) has key in
        let family = speaks-of_one row is in
        let same : (spot : PortSpot) → is_spot spot ≡ true → allows_in (rows_between source destination rows) family.0 spot ≡ allows_in
        (rows_between source destination others) family.0 spot = λ spot in_space.
        between-is rows say is.p is.q is.sender is.receiver is.apart family.0 spot family.1 in_space
        ∙ sym (between-is others say' is.p is.q is.sender is.receiver is.apart family.0 spot family.1 in_space) in
        let some = is.some in
        let allowed = sym (same some.0 some.1) ∙ sym (pair-says rows say row has key family.0 family.2 some.0) ∙ some.2 in
        let found = some_passes (says family.0 some.0) (rows_between source destination others) allowed in
        let among = from-kept (is_between source destination) others found.0 found.1 in
        let key' = is_between-key found.0 among.1 in
        let parts = and_parts (speaks_of found.0.family family.0) (has_spot found.0.conns some.0) found.2 in
        let mark = one-mark rows say row found.0 is (row-of others say' found.0 (pair_key source destination) among.0 key') family.0 family.2 parts.0 in (
          found.0,
          among.0,
          record {
            key = key ∙ sym key';
            family = mark;
            ports = λ spot in_space. pair-says rows say row has key family.0 family.2 spot ∙ same spot in_space ∙ sym (pair-says others say' found.0 among.0 key' family.0 parts.0 spot);
          },
        )

  -- ---- Ingress rows

  module _ (workload : ℕ) (asked : keeps query (ingress_key workload) ≡ true) where
    is_from_controller-own : (row : Row) → row.key ≡ ingress_key workload → is_from_controller workload row ≡ true
    is_from_controller-own row is = ap (λ (key : RowKey). is_ingress_controller key.source && is_workload workload key.destination) is ∙ eq-eqb workload workload refl

    is_from_controller-key : (row : Row) → is_from_controller workload row ≡ true → row.key ≡ ingress_key workload
    is_from_controller-key row is =
        let ends = and_parts (is_ingress_controller row.key.source) (is_workload workload row.key.destination) is in
        key-from row.key Controller (Work workload) (controller-end row.key.source ends.0) (is_workload-end workload row.key.destination ends.1)

    ingress-unmarked : (rows : List Row) → Says rows → (row : Row) → Contains rows row → row.key ≡ ingress_key workload → row.family ≡ None
    ingress-unmarked rows say row has key = let is : IsIngressRow lists workload row = row-of rows say row (ingress_key workload) has key in is.unmarked

    ingress-says : (rows : List Row) → Says rows → (row : Row) → Contains rows row → row.key ≡ ingress_key workload → (spot : PortSpot) →
        has_spot row.conns spot ≡ allows_in (rows_from_controller workload rows) Four spot
    ingress-says rows say row has key spot =
        let unmarked = ingress-unmarked rows say row has key in
        both_ways (has_spot row.conns spot) (allows_in (rows_from_controller workload rows) Four spot)
        (λ passes. passes_some (says Four spot) (rows_from_controller workload rows) row (kept (is_from_controller workload) rows row has (is_from_controller-own row key))
        (and_from _ _ (ap (λ (mark : Option Family). speaks_of mark Four) unmarked) passes))
        (λ allowed.
        let found = some_passes (says Four spot) (rows_from_controller workload rows) allowed in
        let among = from-kept (is_from_controller workload) rows found.0 found.1 in
        let key' = is_from_controller-key found.0 among.1 in
        let parts = and_parts (speaks_of found.0.family Four) (has_spot found.0.conns spot) found.2 in
        let same = one-of_rank rows say.order found.0 row among.0 has (told-rank found.0 row (key' ∙ sym key) (ingress-unmarked rows say found.0 among.0 key' ∙ sym unmarked)) in
        ap (λ (one : Row). has_spot one.conns spot) (sym same) ∙ parts.1)

    pub ingress-among : (rows others : List Row) → Says rows → Says others → (row : Row) → Contains rows row → row.key ≡ ingress_key workload →
        (other : Row) × Contains others other × AreToldAlike row other
    ingress-among rows others say say' row has key =
        let is : IsIngressRow lists workload row = row-of rows say row (ingress_key workload) has key in
        let own : (list : List Row) → Says list → (spot : PortSpot) → is_spot spot ≡ true → allows_in (rows_from_controller workload list) Four spot ≡ allows_in
        (rows_from_controller (workload_number lists is.p) list) Four spot =
        λ list say_so spot in_space. ap (λ (n : ℕ). allows_in (rows_from_controller n list) Four spot) (sym is.receiver.1) in
        let reached = ap (λ (n : ℕ). keeps query (ingress_key n)) is.receiver.1 ∙ asked in
        let same : (spot : PortSpot) → is_spot spot ≡ true → allows_in (rows_from_controller workload rows) Four spot ≡ allows_in (rows_from_controller workload others) Four spot = λ spot in_space.
        own rows say spot in_space ∙ say.ingresses is.p Four spot is.receiver.0 in_space reached
        ∙ sym (say'.ingresses is.p Four spot is.receiver.0 in_space reached) ∙ sym (own others say' spot in_space) in
        let some = is.some in
        let allowed = sym (same some.0 some.1) ∙ sym (ingress-says rows say row has key some.0) ∙ some.2 in
        let found = some_passes (says Four some.0) (rows_from_controller workload others) allowed in
        let among = from-kept (is_from_controller workload) others found.0 found.1 in
        let key' = is_from_controller-key found.0 among.1 in (
          found.0,
          among.0,
          record {
            key = key ∙ sym key';
            family = is.unmarked ∙ sym (ingress-unmarked others say' found.0 among.0 key');
            ports = λ spot in_space. ingress-says rows say row has key spot ∙ same spot in_space ∙ sym (ingress-says others say' found.0 among.0 key' spot);
          },
        )
