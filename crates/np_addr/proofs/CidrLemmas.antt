-- The text of a block. For `find_cidr`.
use Rattle.std.proofs.Common.{◌≡◌, ℕ, List, ◌∷◌, Option, Some, None, inl, inr, refl, sym, lit≤}
use Rattle.np_addr.specs.Prelude.{Address, address_of, block_between, block_of, block_of_pieces, family_of, length_of, pieces, width_of, ◌>>=◌}
use Rattle.np_addr.proofs.PieceLemmas.{pieces-cases, numeral_of-cut}

-- what is cut at `/` is no length
length_of-cut : (most : ℕ) (text first next : List ℕ) (more : List (List ℕ)) → pieces 47 text ≡ first ∷ next ∷ more → length_of most text ≡ None
unfolding length_of
length_of-cut most text first next more cut = rw (numeral_of-cut 10 3 47 text first next more (lit≤ tt) cut)

no_length : (found : Option Address) (text first next : List ℕ) (more : List (List ℕ)) → pieces 47 text ≡ first ∷ next ∷ more →
    (found >>= λ address. length_of (width_of (family_of address)) text >>= λ len. Some (block_of address len)) ≡ None
no_length None text first next more cut = refl
no_length (Some address) text first next more cut = rw (length_of-cut (width_of (family_of address)) text first next more cut)

-- A length has no `/`, so what follows the first one is the length, or nothing is read.
pub block_of-last : (before after : List ℕ) → block_of_pieces (before ∷ pieces 47 after) ≡ block_between before after
block_of-last before after =
    elim (pieces-cases 47 after) [
      | inl one ↦ rw one
      | inr several ↦
          let (first, next, more, cut) = several in
          rw cut (sym (no_length (address_of before) after first next more cut))
    ]
