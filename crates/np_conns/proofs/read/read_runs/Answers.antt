use Rattle.std.proofs.Common.{◌≡◌, ℕ, ◌<◌, ◌≤◌, List, ◌∷◌, length, get_or, codes, ap, ◌∙◌, lit<}
use Rattle.std.proofs.lemmas.Iterator.Consumers.{YieldsList-turn, YieldsList-end}
use Rattle.std.proofs.lemmas.Iterator.Splits.{YieldsList-from_str_split}
use Rattle.std.proofs.lemmas.List.{length_push}
use Rattle.std.proofs.lemmas.List.Elements.{All-push}
use Rattle.std.specs.List.{join_by, AllByRecursion}
use Rattle.np_conns.specs.Prelude.{IsRun, Range, in_runs, run_text}
use Rattle.np_conns.proofs.ReadLemmas.{all_at, not_both, one_more_taken, run_at, runs_done}
use Rattle.np_conns.proofs.read.read_runs.Goals as goal
use Rattle.np_conns.proofs.read.read_runs.Goals.{In-Some}

-- which run a piece of a printed text is
here : (c : In-Some) (run : Range ℕ) (others : List (Range ℕ)) → AllByRecursion IsRun (run ∷ others) → c.args.text.now ≡ join_by run_text (codes ",") (run ∷ others) →
    (length c.loop-piece.yielded < length (run ∷ others)) × (c.in-Some.piece.now ≡ run_text (get_or (run ∷ others) (length c.loop-piece.yielded) run))
here c run others real printed =
    let turn = YieldsList-turn (YieldsList-from_str_split 44 c.args.text.now (lit< tt) (cc) (cc) (cc)) c.loop-piece.yielded _ c.loop-piece.yielded_by _ _ c.in-Some.piece c.in-Some.is
    c.next.ensures.steps in
    run_at run others c.args.text.now c.in-Some.piece.now (length c.loop-piece.yielded) real printed turn

pub returns-in_err-run-clause-printed : goal.returns-in_err-run-clause-printed
returns-in_err-run-clause-printed c = λ run others real printed.
    let turn = here (goal.at.returns-in_err-run-clause-printed c).In-Some run others real printed in
    absurd (not_both c.read_run.result _ c.in_err-run.ensures.ok_part (c.read_run.ensures.printed _ (all_at _ (run ∷ others) _ run real turn.0) turn.1))

pub loop-piece-preserved : goal.loop-piece-preserved
loop-piece-preserved c = record {
  can = tt;
  ends = tt;
  ordered = rw c.in_ok-push.ensures.ok (All-push (λ run. run.lo ≤ run.hi) c.loop-piece.runs c.in_ok-run.run' c.loop-piece.invariant.ordered
      (rw c.in_ok-run.ensures.ok_part at c.read_run.ensures.ordered));
  taken = λ run others real printed.
      let turn = here (goal.at.loop-piece-preserved c).In-Some run others real printed in
      rw (length_push c.loop-piece.yielded c.in-Some.piece)
      (one_more_taken (run ∷ others) _ run c.in_ok-run.run' c.read_run.result c.loop-piece.runs c.push.new.self turn.0
      (c.loop-piece.invariant.taken run others real printed) c.in_ok-run.ensures.ok_part (c.read_run.ensures.printed _ (all_at _ (run ∷ others) _ run real turn.0) turn.1) c.in_ok-push.ensures.ok);
}

pub returns-clause-printed : goal.returns-clause-printed
returns-clause-printed c = λ run others real printed port.
    let end = YieldsList-end (YieldsList-from_str_split 44 c.args.text.now (lit< tt) (cc) (cc) (cc)) c.loop-piece.yielded _ c.loop-piece.yielded_by _ _ c.in-None.is c.next.ensures.steps in
    let all = c.loop-piece.invariant.taken run others real printed ∙ runs_done run others c.args.text.now (length c.loop-piece.yielded) real printed end.1 in
    c.in_ok-ports_of.ensures.members port ∙ ap (λ rs. in_runs rs port) (c.items.ensures ∙ all)
