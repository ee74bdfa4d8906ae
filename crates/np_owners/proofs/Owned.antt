-- Things that nothing owns. For crates above.
use Rattle.std.proofs.Common.{◌≡◌, ℕ, List, [], ◌∷◌, length, find, Option, None, refl}
use Rattle.np_owners.proofs.Walks.{chain_none}
use Rattle.np_owners.specs.Prelude.{owns_itself, up}

-- where nothing is above anything, nothing owns itself
pub owns_itself-none : (ups : List (Option ℕ)) → ((place : ℕ) → up ups place ≡ None) → (ks : List ℕ) → find (owns_itself ups) ks ≡ None
owns_itself-none ups none [] = refl
owns_itself-none ups none (k ∷ ks) = rw (chain_none ups (length ups) k (none k)) (owns_itself-none ups none ks)
