-- Sets of connections, and the rows of them. For `Rows::next`, `add_row` and 9 more.
use Rattle.std.proofs.Common.{◌≡◌, ◌≢◌, ℕ, List, [], ◌∷◌, ◌++◌, true, false, not, Option, None, Some, Result, Ok, Err, IfOk, OnErr, OnOk, length, get_or, arith, refl, subst}
use Rattle.std.proofs.lemmas.Bool.{and_from, both_ways, false_from_ne_true, or_left}
use Rattle.np_table.specs.Prelude.{Family, Four, PortSpot, Range, RowKey, Sctp, Six, Tcp, Udp, has_no_range, is_nothing, row_if, rows_in, rows_of_both}
use Rattle.np_base.proofs.Ranges.{is_within-inside}
use Rattle.np_base.specs.Ranges.{holds, IsAscending}
use Rattle.np_conns.specs.Prelude.{Conns, IsConns, are_same_conns, has_spot}
use Rattle.np_conns.proofs.ConnLemmas.{are_same_conns-Decides}
use Rattle.np_base.proofs.Bools.{not_itself}

-- ---- rows

-- ranges that hold no number are none
is_none-holds : (from : ℕ) (ranges : List (Range ℕ)) → IsAscending (λ port. port) from 65535 ranges → ((port : ℕ) → holds (λ p. p) ranges port ≡ false) → has_no_range ranges ≡ true
is_none-holds from [] ascends none = refl
is_none-holds from (range ∷ ranges) ascends none =
    absurd (both_ways _ (none range.lo) (or_left _ _ (is_within-inside (λ p. p) range range.lo (omega arith) ascends.1)))

-- a set without ports has no ranges of any protocol
no_proto : (conns : Conns) → IsConns conns → ((spot : PortSpot) → has_spot conns spot ≡ false) → is_nothing conns ≡ true
no_proto conns well none =
    and_from _ _ (and_from _ _ (is_none-holds 1 conns.tcp well.tcp (λ port. none (record { proto = Tcp; port = port })))
    (is_none-holds 1 conns.udp well.udp (λ port. none (record { proto = Udp; port = port }))))
    (is_none-holds 1 conns.sctp well.sctp (λ port. none (record { proto = Sctp; port = port })))

-- there is no row of an empty set
pub row_if-none : (key : RowKey) (family : Option Family) (conns : Conns) → IsConns conns → ((spot : PortSpot) → has_spot conns spot ≡ false) → row_if key family conns ≡ []
row_if-none key family conns well none = rw (no_proto conns well none) refl

-- one row where the sets of both families are equal
pub rows_of_both-same : (key : RowKey) (four six : Conns) → four ≡ six → rows_of_both key four six ≡ row_if key None four
rows_of_both-same key four six same = rw ((are_same_conns-Decides four six).1 same) refl

-- and else one for each
pub rows_of_both-apart : (key : RowKey) (four six : Conns) → (spot : PortSpot) × (has_spot four spot ≡ not (has_spot six spot)) →
    rows_of_both key four six ≡ row_if key (Some Four) four ++ row_if key (Some Six) six
rows_of_both-apart key four six apart =
    let differ : four ≡ six → ⊥ = λ same. not_itself (has_spot six apart.0) (subst (λ (conns : Conns). has_spot conns apart.0 ≡ not (has_spot six apart.0)) same apart.1) in
    rw (false_from_ne_true (are_same_conns four six) (λ yes. differ ((are_same_conns-Decides four six).0 yes))) refl

-- ---- rows by the families

-- without a mark where there is one family
pub rows_in-one : (families : List Family) (key : RowKey) (conns : Family → Conns) → length families ≡ 1 → row_if key None (conns (get_or families 0 Four)) ≡ rows_in families key conns
rows_in-one [] key conns one = absurd (omega arith)
rows_in-one (family ∷ []) key conns one = refl
rows_in-one (family ∷ next ∷ families) key conns one = absurd (omega arith)

-- and else by both
pub rows_in-both : (families : List Family) (key : RowKey) (conns : Family → Conns) → length families ≢ 1 → rows_of_both key (conns Four) (conns Six) ≡ rows_in families key conns
rows_in-both [] key conns several = refl
rows_in-both (family ∷ []) key conns several = absurd (several refl)
rows_in-both (family ∷ next ∷ families) key conns several = refl

-- ---- results

-- what follows from two facts of a value that is made
pub IfOk-both : {X E : Type 0} (made : Result X E) (P Q R : X → Type 0) → ((x : X) → P x → Q x → R x) → IfOk made P → IfOk made Q → IfOk made R
IfOk-both (Ok x) P Q R from p q = from x p q
IfOk-both (Err e) P Q R from p q = tt

-- what holds holds where there is an error
pub OnErr-from : {X E : Type 0} (made : Result X E) (P : Type 0) → P → OnErr made P
OnErr-from (Ok x) P holds = tt
OnErr-from (Err e) P holds = holds

-- and where there is none
pub OnOk-from : {X E : Type 0} (made : Result X E) (P : Type 0) → P → OnOk made P
OnOk-from (Ok x) P holds = holds
OnOk-from (Err e) P holds = tt
