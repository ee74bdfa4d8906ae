-- The text of IPv4 addresses. For `read_ipv4` and `read_part`.
use Rattle.std.proofs.Common.{◌≡◌, ℕ, ◌<◌, List, ◌∷◌, Option, Some, None, Result, Ok, Err, inl, inr, refl, sym, arith, lit≤}
use Rattle.std.proofs.lemmas.Bool.{le-leb, lt-leb, cases_lt}
use Rattle.std.specs.Result.{result_ok, OkIff}
use Rattle.np_addr.specs.Prelude.{dotted_of, numeral_of, octet_of, octets_of, pieces, ◌>>=◌}
use Rattle.np_addr.proofs.PieceLemmas.{pieces-cases, numeral_of-cut}

-- a numeral of at most 255 is a part
pub part_of-numeral : {E : Type 0} (text : List ℕ) (n : ℕ) (r : Result ℕ E) → numeral_of 10 3 text ≡ Some n → OkIff r (n < 256) n → result_ok r ≡ octet_of text
unfolding octet_of
part_of-numeral text n (Ok m) reads fits = rw (reads, le-leb n 255 (omega arith), fits.1)
part_of-numeral text n (Err e) reads large = rw (reads, lt-leb n 255 (elim (cases_lt n 256) [ inl fits ↦ absurd (large fits) | inr past ↦ omega arith ]))

none_last : (a b c : Option ℕ) (f : ℕ → ℕ → ℕ → ℕ → Option ℕ) → (a >>= λ x. b >>= λ y. c >>= λ z. None >>= f x y z) ≡ None
none_last None b c f = refl
none_last (Some x) None c f = refl
none_last (Some x) (Some y) None f = refl
none_last (Some x) (Some y) (Some z) f = refl

-- Parts have no dots, so what follows the third dot is the fourth part, or nothing is read.
pub dotted_of-last : (first second third fourth : List ℕ) → dotted_of (first ∷ second ∷ third ∷ pieces 46 fourth) ≡ octets_of first second third fourth
unfolding octets_of octet_of
dotted_of-last first second third fourth =
    elim (pieces-cases 46 fourth) [
      | inl one ↦ rw one
      | inr several ↦
          let (piece, next, more, cut) = several in
          rw (cut, numeral_of-cut 10 3 46 fourth piece next more (lit≤ tt) cut)
          (sym (none_last (octet_of first) (octet_of second) (octet_of third) (λ _ _ _ _. None)))
    ]
