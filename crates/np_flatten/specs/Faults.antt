-- When no policies of one tier that select groups give the same verdicts.
use Rattle.std.specs.Prelude.{ℕ, List, [], ◌∷◌, Bool, false, ◌&&◌, ◌||◌, ◌==◌, not, nat_lt, map, filter, Option, Some, None}
use Rattle.std.specs.Cmp.Lexicographic.{pointwise}
use Rattle.std.specs.List.{list_any}
use Rattle.np_flatten.specs.Types.{AddressRow, AddressSpan, Alike, Direction, Egress, EstateLists, Family, FlatFault, Four, Ingress, Split}
use Rattle.np_classes.specs.Classes.{places}
use Rattle.np_conns.specs.Prelude.{Conns, are_same_conns, conns_of}
use Rattle.np_model.specs.Prelude.{families_of}
use Rattle.np_fold.specs.Prelude.{folding_of}
use Rattle.np_flatten.specs.Groups.{are_together}
use Rattle.np_flatten.specs.Pairs.{first_pair}
use Rattle.np_table.specs.Prelude.{address_rows, estate_table}
use Rattle.np_base.specs.Ranges.{are_same_range}
use Rattle.np_kinds.specs.Prelude.{is_alone, number_of_workloads, pair_allows}
use Rattle.np_table.specs.declared.rows.AddressSpan.TheVariants as span

-- ---- what passes between two workloads

-- It is defined where they are two, or one that has two pods.
abbrev pub is_defined : EstateLists → ℕ → ℕ → Bool
is_defined lists source destination = not (is_alone (folding_of lists) source destination)

-- what passes in packets of a family, as a set
unfoldable pub set_in : EstateLists → Family → ℕ → ℕ → Conns
set_in lists family source destination = conns_of (pair_allows lists (folding_of lists) source destination family)

-- the first of some families
abbrev pub first_family : List Family → Family
first_family [] = Four
first_family (family ∷ families) = family

-- the first family of the list
abbrev pub family_of_list : EstateLists → Family
family_of_list lists = first_family (families_of lists.pods)

-- what passes in packets of that family: where nothing is split, of every family of the list
abbrev pub set_of : EstateLists → ℕ → ℕ → Conns
set_of lists source destination = set_in lists (family_of_list lists) source destination

-- whether some two of the sets differ
abbrev pub two_differ : List Conns → Bool
two_differ sets = list_any (λ one. list_any (λ other. not (are_same_conns one other)) sets) sets

-- ---- what is split

-- whether what passes between two workloads is defined, and differs between the families of the list
abbrev pub is_split : EstateLists → ℕ → ℕ → Bool
is_split lists source destination = is_defined lists source destination && two_differ (map (λ family. set_in lists family source destination) (families_of lists.pods))

-- ---- what is alike to selectors and differs

-- whether two workloads differ in what they send to a third, or in what they receive of it
abbrev pub differ_at : EstateLists → ℕ → ℕ → ℕ → Bool
differ_at lists a b third =
    not (third == a) && not (third == b)
    && (not (are_same_conns (set_of lists a third) (set_of lists b third)) || not (are_same_conns (set_of lists third a) (set_of lists third b)))

-- what passes between two workloads and within each of them, where it is defined
abbrev pub own_sets : EstateLists → ℕ → ℕ → List Conns
own_sets lists a b = map (λ (pair : ℕ × ℕ). set_of lists pair.0 pair.1) (filter (λ (pair : ℕ × ℕ). is_defined lists pair.0 pair.1) ((a, a) ∷ (a, b) ∷ (b, a) ∷ (b, b) ∷ []))

abbrev pub are_same_span : AddressSpan → AddressSpan → Bool
are_same_span (span.Four one) (span.Four other) = are_same_range one other
are_same_span (span.Six one) (span.Six other) = are_same_range one other
are_same_span (span.Four one) (span.Six other) = false
are_same_span (span.Six one) (span.Four other) = false

abbrev pub are_same_address_row : AddressRow → AddressRow → Bool
are_same_address_row one other = are_same_span one.span other.span && are_same_conns one.conns other.conns

-- Whether two workloads differ in what passes at some address in a direction: they do where their rows of addresses
-- differ, which are the fewest ranges such that the same passes at each address of one.
abbrev pub differ_towards : EstateLists → ℕ → ℕ → Direction → Bool
differ_towards lists a b direction = not (pointwise are_same_address_row (address_rows (estate_table lists) a direction) (address_rows (estate_table lists) b direction))

-- whether two workloads differ in any of these
unfoldable pub differ : EstateLists → ℕ → ℕ → Bool
differ lists a b =
    list_any (differ_at lists a b) (places (number_of_workloads lists))
    || two_differ (own_sets lists a b)
    || list_any (differ_towards lists a b) (Ingress ∷ Egress ∷ [])

-- whether two workloads, the first of the lesser number, are of one group and differ
abbrev pub is_unlike : EstateLists → ℕ → ℕ → Bool
is_unlike lists a b = nat_lt a b && are_together lists a b && differ lists a b

-- ---- the first fault

-- by the first pair that is split, and where none is by the first that is unlike
abbrev pub fault_by : Option (ℕ × ℕ) → Option (ℕ × ℕ) → Option FlatFault
fault_by (Some pair) unlike = Some (Split pair.0 pair.1)
fault_by None (Some pair) = Some (Alike pair.0 pair.1)
fault_by None None = None

-- why an estate has no flat policies
unfoldable pub flat_fault : EstateLists → Option FlatFault
flat_fault lists = fault_by (first_pair (is_split lists) (number_of_workloads lists)) (first_pair (is_unlike lists) (number_of_workloads lists))
