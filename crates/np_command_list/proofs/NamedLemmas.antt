-- Workloads by the names that are given. For PromiseLemmas.
use Rattle.std.proofs.Common.{◌≡◌, ◌≤◌, ℕ, List, [], Bool, true, false, Contains, Option, Some, None, Ok, Err, length, map, get_or, slice_get, nat_lt, position, if◌then◌else◌, arith, refl, sym, ap, subst, ◌∙◌}
use Rattle.std.specs.List.{position_or_len}
use Rattle.std.specs.Str.{bytes_eq}
use Rattle.std.proofs.lemmas.Bool.{false≢true, ltb-false}
use Rattle.std.proofs.lemmas.List.{get_or-map, length-map}
use Rattle.std.proofs.lemmas.List.Quantifiers.{position-Some}
use Rattle.std.proofs.lemmas.List.Sums.{fails_before_first}
use Rattle.std.proofs.lemmas.Option.{slice_get-get_or}
use Rattle.std.proofs.lemmas.Slice.Eq.{bytes_eq-Decides}
use Rattle.np_command_list.specs.Prelude.{EstateLists, Fault, FocusSide, IsNamed, Query, UnknownEnd, controller_of, query_for, query_of}
use Rattle.np_command.specs.Prelude.{or_unknown}
use Rattle.np_command.proofs.EndLemmas.{no_workload}
use Rattle.np_fold.specs.Prelude.{Workload, folding_of, number_named}
use Rattle.np_report.specs.Prelude.{names_of}
use Rattle.np_report.specs.declared.query.Query.TheVariants.{Work}

abbrev has_name : List ℕ → Workload → Bool
has_name name one = bytes_eq one.name name

-- what is found by a name has it
found-named : (workloads : List Workload) (name : List ℕ) (number : ℕ) → position (has_name name) workloads ≡ Some number → slice_get (map (λ (one : Workload). one.name) workloads) number ≡ Some name
found-named workloads name number is =
    let found = position-Some (has_name name) workloads number no_workload is in
    let names = map (λ (one : Workload). one.name) workloads in
    let long : length names ≡ length workloads = length-map workloads (λ (one : Workload). one.name) in
    slice_get-get_or names number [] (omega (arith, long, found.0))
    ∙ ap (λ (text : List ℕ). Some text)
    (get_or-map (λ (one : Workload). one.name) workloads number no_workload [] found.0 ∙ (bytes_eq-Decides (get_or workloads number no_workload).name name).0 found.1)

last-by : (first count : ℕ) → (if nat_lt first count then Some first else None) ≡ None → count ≤ first
last-by first count is = by (nat_lt first count) refl
  where
    by : (below : Bool) → nat_lt first count ≡ below → count ≤ first
    by true at = absurd (some (ap (λ (below : Bool). if below then Some first else None) (sym at) ∙ is))
      where
        some : Some first ≡ None → ⊥
        some is = cc
    by false at = let past = ltb-false first count at in omega (arith, past)

-- what is not found by a name is no workload's
none-named : (workloads : List Workload) (name : List ℕ) → position (has_name name) workloads ≡ None → Contains (map (λ (one : Workload). one.name) workloads) name → ⊥
none-named workloads name is has =
    let names = map (λ (one : Workload). one.name) workloads in
    let long : length names ≡ length workloads = length-map workloads (λ (one : Workload). one.name) in
    let last = last-by (position_or_len (has_name name) workloads) (length workloads) is in
    let fails = fails_before_first (has_name name) workloads has.0 no_workload (omega (arith, last, long, has.1)) in
    let own : (get_or workloads has.0 no_workload).name ≡ name = sym (get_or-map (λ (one : Workload). one.name) workloads has.0 no_workload name (omega (arith, long, has.1))) ∙ has.2 in
    false≢true (sym fails ∙ (bytes_eq-Decides (get_or workloads has.0 no_workload).name name).1 own)

-- ---- what a name gives

-- what is made of a name that is known is made of a workload that has it
known-by : {X : Type 0} (lists : EstateLists) (name : List ℕ) (make : ℕ → X) (x : X) → or_unknown name make (number_named (folding_of lists) name) ≡ Ok x →
    (number : ℕ) × (slice_get (names_of (folding_of lists)) number ≡ Some name) × (x ≡ make number)
known-by {X} lists name make x is = by (number_named (folding_of lists) name) refl is
  where
    by : (found : Option ℕ) → number_named (folding_of lists) name ≡ found → or_unknown name make found ≡ Ok x → (number : ℕ) ×
        (slice_get (names_of (folding_of lists)) number ≡ Some name) × (x ≡ make number)
    by None at is = absurd (cc)
    by (Some number) at is = (number, found-named (folding_of lists).workloads name number at, cc)

-- and where there is a fault no workload has it
unknown-by : {X : Type 0} (lists : EstateLists) (name : List ℕ) (make : ℕ → X) (fault : Fault) → or_unknown name make (number_named (folding_of lists) name) ≡ Err fault →
    (fault ≡ UnknownEnd name) × (Contains (names_of (folding_of lists)) name → ⊥)
unknown-by {X} lists name make fault is = by (number_named (folding_of lists) name) refl is
  where
    by : (found : Option ℕ) → number_named (folding_of lists) name ≡ found → or_unknown name make found ≡ Err fault → (fault ≡ UnknownEnd name) × (Contains (names_of (folding_of lists)) name → ⊥)
    by None at is = (cc, none-named (folding_of lists).workloads name at)
    by (Some number) at is = absurd (cc)

-- ---- the controller

pub controller-named : (lists : EstateLists) (controller : Option (List ℕ)) (sender : Option ℕ) → controller_of controller lists ≡ Ok sender → IsNamed lists controller sender
unfolding controller_of
controller-named lists None sender is = cc
controller-named lists (Some name) sender is =
    let known = known-by lists name (λ (number : ℕ). Some number) sender is in subst (λ (number : Option ℕ). IsNamed lists (Some name) number) (sym known.2) known.1

pub controller-unknown : (lists : EstateLists) (controller : Option (List ℕ)) (fault : Fault) → controller_of controller lists ≡ Err fault →
    (name : List ℕ) × (controller ≡ Some name) × (fault ≡ UnknownEnd name) × (Contains (names_of (folding_of lists)) name → ⊥)
unfolding controller_of
controller-unknown lists None fault is = absurd (cc)
controller-unknown lists (Some name) fault is = let unknown = unknown-by lists name (λ (number : ℕ). Some number) fault is in (name, refl, unknown.0, unknown.1)

-- ---- the focus

pub focus-named : (lists : EstateLists) (focus : Option (List ℕ)) (side : FocusSide) (query : Query) → query_of focus side lists ≡ Ok query →
    (focused : Option ℕ) × IsNamed lists focus focused × (query ≡ query_for focused side)
unfolding query_of
focus-named lists None side query is = (None, refl, cc)
focus-named lists (Some name) side query is = let known = known-by lists name (λ (workload : ℕ). Work workload side) query is in (Some known.0, known.1, known.2)

pub focus-unknown : (lists : EstateLists) (focus : Option (List ℕ)) (side : FocusSide) (fault : Fault) → query_of focus side lists ≡ Err fault →
    (name : List ℕ) × (focus ≡ Some name) × (fault ≡ UnknownEnd name) × (Contains (names_of (folding_of lists)) name → ⊥)
unfolding query_of
focus-unknown lists None side fault is = absurd (cc)
focus-unknown lists (Some name) side fault is = let unknown = unknown-by lists name (λ (workload : ℕ). Work workload side) fault is in (name, refl, unknown.0, unknown.1)
