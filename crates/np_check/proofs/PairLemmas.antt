-- The first packet between two ends. For `Checker::check`, `first_between` and 4 more.
use Rattle.std.proofs.Common.{◌≡◌, ℕ, suc, ◌<◌, ◌≤◌, ◌==◌, ◌&&◌, List, Bool, true, false, Option, Some, None, drop, get_or, length, map, option_map, is_some, not, refl, sym, ap, ◌∙◌, inl, inr, if◌then◌else◌}
use Rattle.std.specs.Option.{option_or}
use Rattle.std.proofs.Math.Seq.{drop-cons}
use Rattle.std.proofs.lemmas.List.{drop_all}
use Rattle.std.proofs.lemmas.Bool.{and_parts, cases_Bool, eqb-true, ne_eqb}
use Rattle.np_check.specs.Prelude.{Allow, AreSettled, At, Deny, Ends, EstateLists, Family, PortSpot, Wanted, Work, addresses_of, breaks, complies, counterexample_at, counterexample_between, counterexample_from, counterexample_in, families_between, first_given, first_spot, has_pair, is_deny, kind_of}
use Rattle.np_check.proofs.FirstLemmas.{first_of-append, first_of-map, first_of-none}
use Rattle.np_check.proofs.NoneLemmas.{no_spots, none_all, none_at, none_map}
use Rattle.np_check.proofs.SpotLemmas.{breaks-same}
use Rattle.np_conns.specs.Prelude.{Conns, conns_of, has_spot}
use Rattle.np_model.specs.Prelude.{IsLawful, families_of}
use Rattle.np_fold.specs.Prelude.{folding_of, members_of}
use Rattle.np_kinds.proofs.KindNumbers.{kinds-by}
use Rattle.np_kinds.proofs.PairLemmas.{pair_allows-kinds}
use Rattle.np_conns.proofs.ConnLemmas.{conns_of-has}
use Rattle.np_kinds.specs.Prelude.{IsWorkload, is_alone, pair_allows}

-- ---- the first of a list in a loop

pub some_or : {Y : Type 0} (found rest : Option Y) → is_some found ≡ true → found ≡ option_or found rest
some_or None rest some = cc
some_or (Some y) rest some = refl

pub none_or : {Y : Type 0} (found rest : Option Y) → is_some found ≡ false → rest ≡ option_or found rest
none_or None rest none = refl
none_or (Some y) rest none = cc

-- what is found at an index is the first, where nothing before it gives anything
pub found_at : {X Y : Type 0} (gives : X → Option Y) (xs : List X) (i : ℕ) (d : X) (found : Option Y) → i < length xs → first_given gives (drop i xs) ≡ first_given gives xs → found ≡ gives (get_or xs i d) →
    is_some found ≡ true → found ≡ first_given gives xs
found_at gives xs i d found within left is some =
    is ∙ some_or (gives (get_or xs i d)) (first_given gives (drop (suc i) xs)) (ap is_some (sym is) ∙ some) ∙ ap (first_given gives) (sym (drop-cons xs i d within)) ∙ left

-- where nothing is left, nothing is found
pub none_left : {X Y : Type 0} (gives : X → Option Y) (xs : List X) (i : ℕ) → length xs ≤ i → first_given gives (drop i xs) ≡ first_given gives xs → None ≡ first_given gives xs
none_left gives xs i past left = sym (ap (first_given gives) (drop_all i xs past)) ∙ left

-- what is no counterexample is none
pub none_of_is : {Y : Type 0} (found wanted : Option Y) (none : Bool) → is_some found ≡ not none → none ≡ true → found ≡ wanted → wanted ≡ None
none_of_is None wanted none is yes_none same = sym same
none_of_is (Some y) wanted none is yes_none same = cc

-- ---- what passes between workloads

-- the first by the set of what passes
by_set : (lists : EstateLists) (wanted : Wanted) (conns passes : Conns) (a b : ℕ) (family : Family) → passes ≡ conns_of (pair_allows lists (folding_of lists) a b family) →
    first_spot (breaks wanted conns (has_spot passes)) ≡ first_spot (breaks wanted conns (pair_allows lists (folding_of lists) a b family))
by_set lists wanted conns passes a b family is =
    breaks-same wanted conns (has_spot passes) (pair_allows lists (folding_of lists) a b family) (λ spot of.
    ap (λ (set : Conns). has_spot set spot) is ∙ conns_of-has (pair_allows lists (folding_of lists) a b family) spot of)

pub in_family : (lists : EstateLists) (wanted : Wanted) (conns passes : Conns) (a b : ℕ) (family : Family) (found : Option PortSpot) →
    passes ≡ conns_of (pair_allows lists (folding_of lists) a b family) → found ≡ first_spot (breaks wanted conns (has_spot passes)) →
    option_map (counterexample_at (Work a) (Work b) family) found ≡ counterexample_in lists wanted conns (Work a) (Work b) family
in_family lists wanted conns passes a b family found is found_is =
    ap (option_map (counterexample_at (Work a) (Work b) family)) (found_is ∙ by_set lists wanted conns passes a b family is)

-- ---- between two workloads

pub between-alone : (lists : EstateLists) (wanted : Wanted) (conns : Conns) (a b : ℕ) → is_alone (folding_of lists) a b ≡ true → None ≡ counterexample_between lists wanted conns (Work a) (Work b)
unfolding counterexample_between
between-alone lists wanted conns a b alone = rw alone refl

pub between-apart : (lists : EstateLists) (wanted : Wanted) (conns : Conns) (a b : ℕ) (families : List Family) → is_alone (folding_of lists) a b ≡ false → families ≡ families_of lists.pods →
    first_given (counterexample_in lists wanted conns (Work a) (Work b)) families ≡ counterexample_between lists wanted conns (Work a) (Work b)
unfolding counterexample_between
between-apart lists wanted conns a b families apart are = rw (apart, are) refl

-- ---- kinds

none_in-kinds : (lists : EstateLists) (wanted : Wanted) (conns : Conns) (a b a' b' : ℕ) (family : Family) →
    ((spot : PortSpot) → pair_allows lists (folding_of lists) a b family spot ≡ pair_allows lists (folding_of lists) a' b' family spot) →
    counterexample_in lists wanted conns (Work a) (Work b) family ≡ None → counterexample_in lists wanted conns (Work a') (Work b') family ≡ None
none_in-kinds lists wanted conns a b a' b' family same none =
    let spots = breaks-same wanted conns (pair_allows lists (folding_of lists) a b family) (pair_allows lists (folding_of lists) a' b' family) (λ spot is. same spot) in
    ap (option_map (counterexample_at (Work a') (Work b') family))
    (none_map (counterexample_at (Work a) (Work b) family) (first_spot (breaks wanted conns (pair_allows lists (folding_of lists) a' b' family)))
    (ap (option_map (counterexample_at (Work a) (Work b) family)) (sym spots) ∙ none))

none_all-kinds : (lists : EstateLists) (wanted : Wanted) (conns : Conns) (a b a' b' : ℕ) (families : List Family) →
    ((family : Family) (spot : PortSpot) → pair_allows lists (folding_of lists) a b family spot ≡ pair_allows lists (folding_of lists) a' b' family spot) →
    first_given (counterexample_in lists wanted conns (Work a) (Work b)) families ≡ None → first_given (counterexample_in lists wanted conns (Work a') (Work b')) families ≡ None
none_all-kinds lists wanted conns a b a' b' families same none =
    none_all (counterexample_in lists wanted conns (Work a') (Work b')) families
    (λ family has. none_in-kinds lists wanted conns a b a' b' family (same family) (none_at (counterexample_in lists wanted conns (Work a) (Work b)) families family none has))

-- where nothing breaks the statement between two workloads, nothing does between two of their kinds
between-kinds : (lists : EstateLists) (wanted : Wanted) (conns : Conns) (a b a' b' : ℕ) → IsLawful lists → IsWorkload lists a → IsWorkload lists b → IsWorkload lists a' → IsWorkload lists b' →
    kind_of lists a ≡ kind_of lists a' → kind_of lists b ≡ kind_of lists b' → is_alone (folding_of lists) a b ≡ false → counterexample_between lists wanted conns (Work a) (Work b) ≡ None →
    counterexample_between lists wanted conns (Work a') (Work b') ≡ None
between-kinds lists wanted conns a b a' b' lawful a_in b_in a'_in b'_in sources destinations apart none =
    let kind = λ (work : ℕ) (within : IsWorkload lists work). kinds-by lists work within in
    elim (cases_Bool (is_alone (folding_of lists) a' b')) [
      | inl alone ↦ sym (between-alone lists wanted conns a' b' alone)
      | inr apart' ↦
          sym (between-apart lists wanted conns a' b' (families_of lists.pods) apart' refl)
          ∙ none_all-kinds lists wanted conns a b a' b' (families_of lists.pods)
          (λ family spot. pair_allows-kinds lists a a' b b' family spot lawful (kind a a_in).0 (kind a' a'_in).0 (kind b b_in).0 (kind b' b'_in).0
          (sym (kind a a_in).2 ∙ sources ∙ (kind a' a'_in).2) (sym (kind b b_in).2 ∙ destinations ∙ (kind b' b'_in).2) apart apart')
          (between-apart lists wanted conns a b (families_of lists.pods) apart refl ∙ none)
    ]

-- so the pair of their kinds is settled
pub settled-more : (lists : EstateLists) (wanted : Wanted) (conns : Conns) (pairs more : List (ℕ × ℕ)) (a b : ℕ) → IsLawful lists → IsWorkload lists a → IsWorkload lists b → (a ≡ b → ⊥) →
    counterexample_between lists wanted conns (Work a) (Work b) ≡ None → ((i j : ℕ) → has_pair more i j ≡ (if (kind_of lists a == i) && (kind_of lists b == j) then true else has_pair pairs i j)) →
    AreSettled lists wanted conns pairs → AreSettled lists wanted conns more
settled-more lists wanted conns pairs more a b lawful a_in b_in differ none has settled a' b' a'_in b'_in yes_there =
    let apart : is_alone (folding_of lists) a b ≡ false = ap (λ same. same && length (members_of (folding_of lists) a) == 1) (ne_eqb a b differ) in
    elim (cases_Bool ((kind_of lists a == kind_of lists a') && (kind_of lists b == kind_of lists b'))) [
      | inl same ↦
          let parts = and_parts (kind_of lists a == kind_of lists a') (kind_of lists b == kind_of lists b') same in
          between-kinds lists wanted conns a b a' b' lawful a_in b_in a'_in b'_in (eqb-true (kind_of lists a) (kind_of lists a') parts.0)
          (eqb-true (kind_of lists b) (kind_of lists b') parts.1) apart none
      | inr other ↦ settled a' b' a'_in b'_in (sym (rw other at (has (kind_of lists a') (kind_of lists b'))) ∙ yes_there)
    ]

-- ---- from a workload

pub from-work : (lists : EstateLists) (wanted : Wanted) (conns : Conns) (ends : Ends) (source : ℕ) →
    counterexample_from lists wanted conns ends (Work source) ≡ option_or (first_given (λ destination. counterexample_between lists wanted conns (Work source) (Work destination)) ends.works)
    (first_given (λ address. counterexample_between lists wanted conns (Work source) (At address)) (addresses_of ends.block))
unfolding counterexample_from
from-work lists wanted conns ends source =
    first_of-append (counterexample_between lists wanted conns (Work source)) (map Work ends.works) (map At (addresses_of ends.block))
    ∙ ap (λ first. option_or first (first_given (counterexample_between lists wanted conns (Work source)) (map At (addresses_of ends.block))))
    (first_of-map (counterexample_between lists wanted conns (Work source)) Work ends.works)
    ∙ ap (λ rest. option_or (first_given (λ destination. counterexample_between lists wanted conns (Work source) (Work destination)) ends.works) rest)
    (first_of-map (counterexample_between lists wanted conns (Work source)) At (addresses_of ends.block))

-- ---- workloads between which nothing passes

not_denied : (speaks allowed : Bool) → allowed ≡ false → (speaks && not (complies Deny allowed)) ≡ false
not_denied true allowed none = rw none refl
not_denied false allowed none = refl

-- no packet between them breaks a statement that denies
pub none_denied : (lists : EstateLists) (wanted : Wanted) (conns : Conns) (a b : ℕ) → is_deny wanted ≡ true →
    ((family : Family) (spot : PortSpot) → pair_allows lists (folding_of lists) a b family spot ≡ false) → None ≡ counterexample_between lists wanted conns (Work a) (Work b)
unfolding counterexample_between
none_denied lists Allow conns a b denies silent = absurd (cc)
none_denied lists Deny conns a b denies silent =
    sym (first_of-none (counterexample_in lists Deny conns (Work a) (Work b)) (families_between lists (Work a) (Work b)) (λ family.
    ap (option_map (counterexample_at (Work a) (Work b) family)) (no_spots (breaks Deny conns (pair_allows lists (folding_of lists) a b family))
    (λ spot is. not_denied (has_spot conns spot) _ (silent family spot)))))
