-- What passes between two workloads, as it is found. For `Passing::between`.
use Rattle.std.proofs.Common.{◌≡◌, ◌≢◌, ◌==◌, ℕ, false, length, sym, ap, ◌∙◌}
use Rattle.std.proofs.lemmas.Bool.{and_left, ne_eqb}
use Rattle.np_flatten.specs.Prelude.{EstateLists, Family, PortSpot, family_of_list, set_in, set_of}
use Rattle.np_conns.specs.Prelude.{Conns, IsConns, conns_of, has_spot}
use Rattle.np_fold.specs.Prelude.{folding_of, members_of}
use Rattle.np_conns.proofs.ConnLemmas.{conns_of-set}
use Rattle.np_kinds.specs.Prelude.{is_alone, pair_allows}

-- two workloads are not one of one pod
pub apart-alone : (lists : EstateLists) (source destination : ℕ) → source ≢ destination → is_alone (folding_of lists) source destination ≡ false
apart-alone lists source destination apart =
    and_left (source == destination) (length (members_of (folding_of lists) source) == 1) (ne_eqb source destination apart)

-- what passes in packets of the first family of the list
pub found-set : (lists folded : EstateLists) (source destination : ℕ) (family : Family) (made : Conns) → family ≡ family_of_list folded → folded ≡ lists →
    made ≡ conns_of (pair_allows lists (folding_of lists) source destination family) → made ≡ set_of lists source destination
unfolding set_in
found-set lists folded source destination family made is same told = told ∙ ap (λ (f : Family). set_in lists f source destination) (is ∙ ap family_of_list same)

-- nothing is what passes between workloads between which nothing passes
pub silent-set : (lists : EstateLists) (made : Conns) (source destination : ℕ) → IsConns made → ((spot : PortSpot) → has_spot made spot ≡ false) →
    ((family : Family) (spot : PortSpot) → pair_allows lists (folding_of lists) source destination family spot ≡ false) → made ≡ set_of lists source destination
unfolding set_in
silent-set lists made source destination well none silent =
    conns_of-set made (pair_allows lists (folding_of lists) source destination (family_of_list lists)) well (λ spot is. none spot ∙ sym (silent (family_of_list lists) spot))
