use Rattle.std.proofs.Common.{◌≡◌, ◌<◌, List, ◌∷◌, ◌⊎◌, length, get_or, codes, lit<, arith}
use Rattle.std.proofs.lemmas.Iterator.Consumers.{YieldsList-turn, YieldsList-end, count_from_yields_List}
use Rattle.std.proofs.lemmas.Iterator.Splits.{YieldsList-from_str_split}
use Rattle.std.proofs.lemmas.List.{length_push}
use Rattle.std.proofs.lemmas.Result.{err_from_is_err_and}
use Rattle.std.specs.List.{join_by, AllByRecursion}
use Rattle.np_conns.specs.Prelude.{IsPart, Part, has_spot, in_part, text_of_part}
use Rattle.np_conns.proofs.ReadLemmas.{all_at, few_pieces, one_more, part_at, parts_done}
use Rattle.np_conns.proofs.read.read_parts.Goals as goal
use Rattle.np_conns.proofs.read.read_parts.Goals.{In-Some}

-- which part a piece of a printed text is
here : (c : In-Some) (part : Part) (others : List Part) → AllByRecursion IsPart (part ∷ others) → c.args.text.now ≡ join_by text_of_part (codes "; ") (part ∷ others) →
    (length c.loop-piece.yielded < length (part ∷ others)) × ((c.in-Some.piece.now ≡ text_of_part (get_or (part ∷ others) (length c.loop-piece.yielded) part)) ⊎
    (c.in-Some.piece.now ≡ 32 ∷ text_of_part (get_or (part ∷ others) (length c.loop-piece.yielded) part)))
here c part others real printed =
    let turn = YieldsList-turn (YieldsList-from_str_split 59 c.args.text.now (lit< tt) (cc) (cc) (cc)) c.loop-piece.yielded _ c.loop-piece.yielded_by _ _ c.in-Some.piece c.in-Some.is
    c.next.ensures.steps in
    part_at part others c.args.text.now c.in-Some.piece.now (length c.loop-piece.yielded) real printed turn

pub returns-then-count-gt3-clause-printed : goal.returns-then-count-gt3-clause-printed
returns-then-count-gt3-clause-printed c = λ part others few real printed.
    let pieces = count_from_yields_List c.split.result c.count.result c.count.ensures.ran
    (YieldsList-from_str_split 59 c.args.text.now (lit< tt) c.split.ensures.text c.split.ensures.has_more c.split.ensures.pattern) in
    absurd (omega (arith, c.if-count-gt3.true, few_pieces part others c.args.text.now c.count.result few real printed pieces))

pub returns-in_err-set-2-clause-printed : goal.returns-in_err-set-2-clause-printed
returns-in_err-set-2-clause-printed c = λ part others few real printed.
    let turn = here (goal.at.returns-in_err-set-2-clause-printed c).In-Some part others real printed in
    let answer = err_from_is_err_and c.from_residual-in_err-set-2.result c.from_residual-in_err-set-2.ensures.1 in
    rw (answer.1, answer.2) (c.in_err-set-2.ensures.printed _ (all_at _ (part ∷ others) _ part real turn.0) turn.1)

pub loop-piece-preserved : goal.loop-piece-preserved
loop-piece-preserved c = record {
  can = tt;
  ends = tt;
  well = c.in_ok-set-2.ensures.well;
  taken = λ part others real printed.
      let turn = here (goal.at.loop-piece-preserved c).In-Some part others real printed in
      rw (length_push c.loop-piece.yielded c.in-Some.piece)
      (one_more (λ spot p. in_part spot p) (part ∷ others) _ part (has_spot c.loop-piece.set) (has_spot c.in_ok-set-2.set) turn.0
      (c.loop-piece.invariant.taken part others real printed) (c.in_ok-set-2.ensures.printed _ (all_at _ (part ∷ others) _ part real turn.0) turn.1));
}

pub returns-clause-printed : goal.returns-clause-printed
returns-clause-printed c = λ part others few real printed.
    let end = YieldsList-end (YieldsList-from_str_split 59 c.args.text.now (lit< tt) (cc) (cc) (cc)) c.loop-piece.yielded _ c.loop-piece.yielded_by _ _ c.in-None.is c.next.ensures.steps in
    rw (parts_done part others c.args.text.now (length c.loop-piece.yielded) real printed end.1) at (c.loop-piece.invariant.taken part others real printed)
