use Rattle.std.proofs.Common.{◌≡◌, ℕ, ◌≤◌, List, ◌∷◌, length, take, codes}
use Rattle.std.specs.List.{All, join_by, AllByRecursion}
use Rattle.np_conns.specs.Prelude.{IsRun, Range, run_text}
use Rattle.np_conns.proofs.read.read_runs.Given as goal

abbrev pub invariant-loop-piece : goal.invariant-loop-piece
invariant-loop-piece l = record {
  can : goal.iterator-loop-piece.can_next l.piece-iterator;
  ends : goal.iterator-loop-piece.is_finite l.piece-iterator;
  ordered : All (λ run. run.lo ≤ run.hi) l.runs;
  taken : (run : Range ℕ) (others : List (Range ℕ)) → AllByRecursion IsRun (run ∷ others) → l.text ≡ join_by run_text (codes ",") (run ∷ others) → l.runs ≡ take (length l.yielded) (run ∷ others);
}
