-- Ties of the keys at places. For `ties_of_keys_are_alike`.
use Rattle.std.proofs.Common.{◌≡◌, ℕ, ◌<◌, List, [], ◌∷◌, length, Bool, true, false, Option, Some, None, Ordering, get_or, refl, ◌∙◌, arith}
use Rattle.std.specs.Prelude.{slice_get}
use Rattle.std.specs.Cmp.{IsTotalOrder}
use Rattle.std.specs.Ordering.{is_eq}
use Rattle.std.proofs.lemmas.Cmp.{eq_by_cmp_equiv}
use Rattle.std.proofs.lemmas.Option.{slice_get-get_or}
use Rattle.np_classes.specs.Classes.{IsAlike, keys_tie, of_both}

-- an order in which things tie that may be missing
module _ {K : Type 0} (compare : K → K → Ordering) (total : IsTotalOrder compare) where
  abbrev tie : Option K → Option K → Bool
  tie = of_both (λ x y. is_eq (compare x y))

  pub tie-back : (a b : Option K) → tie a b ≡ tie b a
  tie-back None None = refl
  tie-back None (Some y) = refl
  tie-back (Some x) None = refl
  tie-back (Some x) (Some y) = (eq_by_cmp_equiv total).symm x y

  pub tie-onward : (a b c : Option K) → tie a b ≡ true → tie a c ≡ tie b c
  tie-onward None b c tied = let never : false ≡ true = tied in cc
  tie-onward (Some x) None c tied = let never : false ≡ true = tied in cc
  tie-onward (Some x) (Some y) None tied = refl
  tie-onward (Some x) (Some y) (Some z) tied = (eq_by_cmp_equiv total).congr x y z tied

  tie-itself : (a : Option K) (x : K) → a ≡ Some x → tie a a ≡ true
  tie-itself a x is = rw is ((eq_by_cmp_equiv total).refl x)

  pub keys_are_alike : (keys : List K) → IsAlike (keys_tie compare keys) (length keys)
  keys_are_alike keys = record {
    itself = λ a within. itself keys a within;
    both_ways = λ a b _ _ tied. tie-back (slice_get keys b) (slice_get keys a) ∙ tied;
    onward = λ a b c _ _ _ near far. tie-onward (slice_get keys a) (slice_get keys b) (slice_get keys c) near ∙ far;
  }
    where
      itself : (keys : List K) (a : ℕ) → a < length keys → keys_tie compare keys a a ≡ true
      itself (key ∷ others) a within = tie-itself (slice_get (key ∷ others) a) (get_or (key ∷ others) a key) (slice_get-get_or (key ∷ others) a key within)
      itself [] a within = absurd (omega arith)
