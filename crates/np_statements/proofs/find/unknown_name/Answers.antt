use Rattle.std.proofs.Common.{[], arith}
use Rattle.np_statements.proofs.FoundLemmas.{none_found, not_found, told_all, told_more}
use Rattle.np_statements.proofs.find.unknown_name.Goals as goal

pub loop-line-init : goal.loop-line-init
loop-line-init c = ([], none_found c.args.folded.now c.args.statements.now)

pub returns-in-Some : goal.returns-in-Some
returns-in-Some c =
    not_found c.args.folded.now c.args.statements.now c.loop-line.line-index c.line-item.result c.loop-line.invariant.0 c.in-Some.name.now _
    (c.loop-line-test.true, c.line-item.is) c.loop-line.invariant.1 c.in-Some.ensures

pub loop-line-preserved : goal.loop-line-preserved
loop-line-preserved c =
    told_more c.args.folded.now c.args.statements.now c.loop-line.line-index c.line-item.result (c.loop-line-test.true, c.line-item.is) c.loop-line.invariant c.in_default.ensures

pub returns : goal.returns
returns c = told_all c.args.folded.now c.args.statements.now c.loop-line.line-index (omega arith) c.loop-line.invariant
