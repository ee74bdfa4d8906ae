-- A slice that is written piece by piece. For `write_whole`.
use Rattle.std.proofs.Common.{◌≡◌, ℕ, ◌+◌, ◌-◌, ◌≤◌, List, ◌++◌, length, take, drop, Option, sym, refl, ap, ◌∙◌, arith}
use Rattle.std.specs.Io.KnownBytes.{append_known}
use Rattle.std.proofs.lemmas.List.{take-append-drop, take-take, drop-take, take_rest}
use Rattle.np_io.specs.Prelude.{TookFront}
use Rattle.np_io.proofs.TakenLemmas.{append_known-append_known}

-- the first bytes, and then the next ones
take_on : (bytes : List ℕ) (at n : ℕ) → take (at + n) bytes ≡ take at bytes ++ take n (drop at bytes)
take_on bytes at n =
    let fits : at ≤ at + n = omega arith in
    sym (take-append-drop at (take (at + n) bytes)) ∙ (rw (take-take at (at + n) bytes fits, drop-take at n bytes) refl)

-- a sink that took the bytes before `at` takes the next ones
pub takes_on : (old middle new : Option (List ℕ)) (bytes : List ℕ) (at n : ℕ) → middle ≡ append_known old (take at bytes) →
    new ≡ append_known middle (take n (take (length bytes - at) (drop at bytes))) → new ≡ append_known old (take (at + n) bytes)
takes_on old middle new bytes at n took takes =
    takes ∙ ap (λ piece. append_known middle (take n piece)) (take_rest bytes at) ∙ ap (λ known. append_known known (take n (drop at bytes))) took ∙ append_known-append_known old (take at bytes)
    (take n (drop at bytes)) ∙ ap (append_known old) (sym (take_on bytes at n))

-- a sink that took the bytes before `at` took a front of all
pub took_front : (old middle new : Option (List ℕ)) (bytes : List ℕ) (at : ℕ) → middle ≡ append_known old (take at bytes) → new ≡ middle → TookFront old new bytes
took_front old middle new bytes at took same = record {
  front = take at bytes;
  rest = drop at bytes;
  parts = sym (take-append-drop at bytes);
  taken = same ∙ took;
}
