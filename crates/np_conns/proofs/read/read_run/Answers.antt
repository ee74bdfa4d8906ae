use Rattle.std.proofs.Common.{◌≡◌, decimal, ap, ◌∙◌, arith}
use Rattle.std.proofs.lemmas.Grind.{common_steps}
use Rattle.np_conns.specs.Prelude.{IsRun, Range, run_text}
use Rattle.np_conns.proofs.SplitLemmas.{run_text-ends}
use Rattle.np_conns.proofs.read.read_run.Goals as goal
use Rattle.np_conns.proofs.read.read_run.Goals.{After-unwrap_or}

-- the two texts that a printed run is cut into
ends : (c : After-unwrap_or) (run : Range _) → IsRun run → c.args.text.now ≡ run_text run → (c.unwrap_or.result.0.now ≡ decimal run.lo) × (c.unwrap_or.result.1.now ≡ decimal run.hi)
ends c run real printed =
    let texts = run_text-ends run c.args.text c.split_once.result real printed c.split_once.ensures.cases in
    (ap (λ e. e.0.now) c.unwrap_or.ensures ∙ texts.0, ap (λ e. e.1.now) c.unwrap_or.ensures ∙ texts.1)

pub returns-in_err-lo-clause-printed : goal.returns-in_err-lo-clause-printed
returns-in_err-lo-clause-printed c = λ run real printed.
    let lo = c.read_port.ensures run.lo real.low (omega arith) (ends (goal.at.returns-in_err-lo-clause-printed c).After-unwrap_or run real printed).0 in
    grind (arith, common_steps)

pub returns-in_err-hi-clause-printed : goal.returns-in_err-hi-clause-printed
returns-in_err-hi-clause-printed c = λ run real printed.
    let hi = c.read_port-2.ensures run.hi (omega arith) real.high (ends (goal.at.returns-in_err-hi-clause-printed c).After-unwrap_or run real printed).1 in
    grind (arith, common_steps)

pub returns-clause-printed : goal.returns-clause-printed
returns-clause-printed c = λ run real printed.
    let texts = ends (goal.at.returns-clause-printed c).After-unwrap_or run real printed in
    let lo = c.read_port.ensures run.lo real.low (omega arith) texts.0 in
    let hi = c.read_port-2.ensures run.hi (omega arith) real.high texts.1 in
    grind (arith, common_steps)
