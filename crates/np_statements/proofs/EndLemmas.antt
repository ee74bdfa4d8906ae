-- The workloads of a form. For `ends_of`, `is_in_namespace` and 2 more.
use Rattle.std.proofs.Common.{◌≡◌, ℕ, zero, suc, ◌+◌, ◌<◌, ◌≤◌, nat_le, List, [], ◌∷◌, ◌++◌, Bool, true, false, Option, Some, None, Ok, All, length, get_or, slice_get, slice_index, refl, sym, ap, subst, ◌∙◌, arith, append-nil, zero-add, inl, inr}
use Rattle.std.specs.Prelude.{filter}
use Rattle.std.specs.List.{range_with_len}
use Rattle.std.specs.Option.{option_map_or}
use Rattle.std.specs.Str.{bytes_eq}
use Rattle.std.proofs.lemmas.Bool.{and_from, and_parts, cases_Bool, le-leb, leb-true, true≢false}
use Rattle.std.proofs.lemmas.List.Elements.{All-cons, All-filter, All-nil, All-weaker, filter-append}
use Rattle.std.proofs.lemmas.List.Quantifiers.{position-Some}
use Rattle.std.proofs.lemmas.Option.{slice_get_read}
use Rattle.np_addr.specs.Prelude.{AddressRanges}
use Rattle.np_statements.specs.Prelude.{Addresses, Block, Cidr, EndForm, Ends, EstateLists, Namespace, Pod, Pods, Work, addresses_alone, all_works, block_addresses, ends_of, every_address, is_address_form, is_work_in_namespace, named_alone, works_alone}
use Rattle.np_table.proofs.PlaceLemmas.{range-append}
use Rattle.np_check.specs.Prelude.{HasNoAddress, ascends_from, is_ascending}
use Rattle.np_fold.specs.Prelude.{Workload, folding_of, members_of, number_named}
use Rattle.np_statements.proofs.StepLemmas.{same_ok}
use Rattle.np_kinds.specs.Prelude.{IsWorkload, number_of_workloads, source_pod}

-- ---- workloads of a namespace

-- the first pod of a workload tells
pub in_namespace-by : (lists : EstateLists) (name : List ℕ) (work : ℕ) (members : List ℕ) (pods : List Pod) (pod : Pod) (answer : Bool) → members ≡ members_of (folding_of lists) work →
    pods ≡ lists.pods → source_pod (folding_of lists) work < length lists.pods → pod ≡ get_or pods (slice_index members 0) pod → answer ≡ bytes_eq pod.namespace name →
    answer ≡ is_work_in_namespace lists name work
in_namespace-by lists name work members pods pod answer members_are pods_are within pod_is is =
    let here : pod ≡ get_or lists.pods (source_pod (folding_of lists) work) pod = pod_is ∙ ap (λ (ms : List ℕ). get_or pods (slice_index ms 0) pod) members_are ∙ ap
    (λ (ps : List Pod). get_or ps (source_pod (folding_of lists) work) pod) pods_are in
    let there : slice_get lists.pods (source_pod (folding_of lists) work) ≡ Some pod = slice_get_read lists.pods (length lists.pods) (source_pod (folding_of lists) work) pod refl within here in
    is ∙ sym (ap (λ (found : Option Pod). option_map_or (λ (one : Pod). bytes_eq one.namespace name) found false) there)

-- one workload more
one_more : (test : ℕ → Bool) (n : ℕ) → filter test (range_with_len 0 (n + 1)) ≡ filter test (range_with_len 0 n) ++ filter test (n ∷ [])
one_more test n =
    ap (filter test) (range-append 0 n 1)
    ∙ filter-append test (range_with_len 0 n) (range_with_len (0 + n) 1)
    ∙ ap (λ (m : ℕ). filter test (range_with_len 0 n) ++ filter test (m ∷ [])) (zero-add n)

pub one_taken : (test : ℕ → Bool) (n : ℕ) (works : List ℕ) → works ≡ filter test (range_with_len 0 n) → test n ≡ true → works ++ n ∷ [] ≡ filter test (range_with_len 0 (n + 1))
one_taken test n works are passes = ap (λ (ws : List ℕ). ws ++ n ∷ []) are ∙ sym (one_more test n ∙ rw passes refl)

pub one_left : (test : ℕ → Bool) (n : ℕ) (works : List ℕ) → works ≡ filter test (range_with_len 0 n) → test n ≡ false → works ≡ filter test (range_with_len 0 (n + 1))
one_left test n works are fails = are ∙ sym (one_more test n ∙ rw fails (append-nil (filter test (range_with_len 0 n))))

-- ---- what is known of the ends of a form

-- the numbers are those of workloads and ascend, and only an address form has addresses
pub record AreEnds (lists : EstateLists) (form : EndForm) (ends : Ends) : Type 0 where
  pub works : All (IsWorkload lists) ends.works
  pub ascend : is_ascending ends.works ≡ true
  pub alone : is_address_form form ≡ false → HasNoAddress ends.block

filter-below : (test : ℕ → Bool) (low count : ℕ) → All (λ n. n < low + count) (filter test (range_with_len low count))
filter-below test low count = All-filter test (λ n. n < low + count) (range_with_len low count) (range-below low count)
  where
    range-below : (first many : ℕ) → All (λ n. n < first + many) (range_with_len first many)
    range-below first zero = All-nil (λ n. n < first + 0)
    range-below first (suc many) =
        All-cons (λ n. n < first + suc many) first (range_with_len (first + 1) many) (omega arith)
        (All-weaker (λ n. n < first + 1 + many) (λ n. n < first + suc many) (λ n below. omega arith) (range_with_len (first + 1) many) (range-below (first + 1) many))

filter-all : (low count : ℕ) → filter (λ n. true) (range_with_len low count) ≡ range_with_len low count
filter-all low zero = refl
filter-all low (suc count) = ap (λ (ns : List ℕ). low ∷ ns) (filter-all (low + 1) count)

-- numbers that ascend from a greater one on ascend from a lesser one on
lower : (least low : ℕ) (numbers : List ℕ) → low ≤ least → ascends_from least numbers ≡ true → ascends_from low numbers ≡ true
lower least low [] below ascends = refl
lower least low (n ∷ numbers) below ascends =
    let parts = and_parts (nat_le least n) (ascends_from (n + 1) numbers) ascends in
    let above = leb-true least n parts.0 in
    and_from (nat_le low n) (ascends_from (n + 1) numbers) (le-leb low n (omega arith)) parts.1

-- numbers that are filtered ascend
filtered : (test : ℕ → Bool) (low count : ℕ) → ascends_from low (filter test (range_with_len low count)) ≡ true
filtered test low zero = refl
filtered test low (suc count) =
    elim (cases_Bool (test low)) [
      | inl passes ↦ rw passes (and_from (nat_le low low) (ascends_from (low + 1) (filter test (range_with_len (low + 1) count))) (le-leb low low (omega arith)) (filtered test (low + 1) count))
      | inr fails ↦ rw fails (lower (low + 1) low (filter test (range_with_len (low + 1) count)) (omega arith) (filtered test (low + 1) count))
    ]

are-works : (lists : EstateLists) (form : EndForm) (test : ℕ → Bool) → AreEnds lists form (works_alone (filter test (all_works lists)))
are-works lists form test =
    let count = number_of_workloads lists in
    record {
      works = All-weaker (λ n. n < 0 + count) (IsWorkload lists) (λ n below. omega arith) (filter test (range_with_len 0 count)) (filter-below test 0 count);
      ascend = filtered test 0 count;
      alone = λ _. (refl, refl);
    }

are-addresses : (lists : EstateLists) (form : EndForm) (block : AddressRanges) → is_address_form form ≡ true → AreEnds lists form (addresses_alone block)
are-addresses lists form block is = record { works = All-nil (IsWorkload lists); ascend = refl; alone = λ not. absurd (true≢false (sym is ∙ not)) }

-- the workload of a name is one
pub named-within : (lists : EstateLists) (name : List ℕ) (work : ℕ) → number_named (folding_of lists) name ≡ Some work → IsWorkload lists work
named-within lists name work is = (position-Some (λ (one : Workload). bytes_eq one.name name) (folding_of lists).workloads work (record { name = []; members = [] }) is).0

pub ends_of-are : (lists : EstateLists) (form : EndForm) (ends : Ends) → ends_of lists form ≡ Ok ends → AreEnds lists form ends
unfolding ends_of
ends_of-are lists Pods ends is =
    let all : works_alone (filter (λ n. true) (all_works lists)) ≡ works_alone (all_works lists) = ap works_alone (filter-all 0 (number_of_workloads lists)) in
    subst (AreEnds lists Pods) (all ∙ same_ok (works_alone (all_works lists)) ends is) (are-works lists Pods (λ n. true))
ends_of-are lists Addresses ends is = subst (AreEnds lists Addresses) (same_ok (addresses_alone every_address) ends is) (are-addresses lists Addresses every_address refl)
ends_of-are lists (Namespace name) ends is = subst (AreEnds lists (Namespace name)) (same_ok (works_alone (filter (is_work_in_namespace lists name) (all_works lists))) ends is)
    (are-works lists (Namespace name) (is_work_in_namespace lists name))
ends_of-are lists (Work name) ends is = of (number_named (folding_of lists) name) refl is
  where
    of : (found : Option ℕ) → number_named (folding_of lists) name ≡ found → named_alone name found ≡ Ok ends → AreEnds lists (Work name) ends
    of None none is = cc
    of (Some work) there is =
        let one : AreEnds lists (Work name) (works_alone (work ∷ [])) = record {
          works = All-cons (IsWorkload lists) work [] (named-within lists name work there) (All-nil (IsWorkload lists));
          ascend = and_from (nat_le 0 work) true (le-leb 0 work (omega arith)) refl;
          alone = λ _. (refl, refl);
        } in
        subst (AreEnds lists (Work name)) (same_ok (works_alone (work ∷ [])) ends is) one
ends_of-are lists (Block cidr) ends is = subst (AreEnds lists (Block cidr)) (same_ok (addresses_alone (block_addresses cidr)) ends is) (are-addresses lists (Block cidr) (block_addresses cidr) refl)

-- ---- the ends of address forms

pub all-addresses : (lists : EstateLists) (form : EndForm) (made : AddressRanges) (ends : Ends) → form ≡ Addresses → made ≡ every_address → ends ≡ addresses_alone made → ends_of lists form ≡ Ok ends
unfolding ends_of
all-addresses lists form made ends form_is is alone = ap (ends_of lists) form_is ∙ ap (λ (block : AddressRanges). Ok (addresses_alone block)) (sym is) ∙ ap Ok (sym alone)

pub block-addresses : (lists : EstateLists) (form : EndForm) (cidr : Cidr) (made : AddressRanges) (ends : Ends) → form ≡ Block cidr → made ≡ block_addresses cidr → ends ≡ addresses_alone made →
    ends_of lists form ≡ Ok ends
unfolding ends_of
block-addresses lists form cidr made ends form_is is alone = ap (ends_of lists) form_is ∙ ap (λ (block : AddressRanges). Ok (addresses_alone block)) (sym is) ∙ ap Ok (sym alone)
