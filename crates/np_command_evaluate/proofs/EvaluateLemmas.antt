-- Words that name pods, and ends that are not there. For `evaluate` and `is_word_of`.
use Rattle.std.proofs.Common.{◌≡◌, ℕ, List, [], ◌∷◌, ◌++◌, Bool, ◌&&◌, ◌==◌, length, take, drop, refl, ap, ◌∙◌, Result, Ok, Err, subst, sym}
use Rattle.std.specs.Str.{bytes_eq}
use Rattle.np_base.proofs.Bools.{and-leftwards}
use Rattle.np_command_evaluate.specs.Types.{End, EndWord, EstateLists, Fault, PortSpot}
use Rattle.np_command.proofs.WroteLemmas.{Wrote-refused}
use Rattle.np_command.specs.Prelude.{IsKept, Refuses, SinkTrace, Wrote}
use Rattle.np_command.specs.declared.failure.Failure.{Failure}
use Rattle.np_command_evaluate.specs.Report.{between, evaluate_reply, known_end}

-- a text is another one and a rest where it begins with the one and goes on as the rest
pub bytes_eq_parts : (word front rest : List ℕ) → bytes_eq word (front ++ rest) ≡ (bytes_eq (take (length front) word) front && bytes_eq (drop (length front) word) rest)
bytes_eq_parts word [] rest = refl
bytes_eq_parts [] (a ∷ front) rest = refl
bytes_eq_parts (b ∷ word) (a ∷ front) rest =
    ap (λ (more : Bool). (b == a) && more) (bytes_eq_parts word front rest) ∙ and-leftwards (b == a) (bytes_eq (take (length front) word) front) (bytes_eq (drop (length front) word) rest)

-- behind a source that is known, the fault of the destination is that of the reply
pub wrote-unknown : (out : SinkTrace) (from to : EndWord) (spot : PortSpot) (lists : EstateLists) (source : End) (failure : Failure) → known_end lists from ≡ Ok source →
    Refuses failure (known_end lists to) → IsKept out → Wrote out (evaluate_reply from to spot lists) (Err failure)
unfolding evaluate_reply
wrote-unknown out from to spot lists source failure known refuses kept =
    subst (λ (found : Result End Fault). Wrote out (between lists from to spot found (known_end lists to)) (Err failure)) (sym known)
    (Wrote-refused out (between lists from to spot (Ok source)) (known_end lists to) failure (λ fault. refl) refuses kept)
