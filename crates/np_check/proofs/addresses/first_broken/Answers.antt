use Rattle.std.proofs.Common.{sym, ap, ◌∙◌, arith}
use Rattle.np_check.proofs.BrokenLemmas.{first_broken-rows}
use Rattle.np_check.proofs.PairLemmas.{found_at, none_left}
use Rattle.np_check.specs.Prelude.{broken_in, first_given}
use Rattle.np_check.proofs.addresses.first_broken.Goals as goal

pub returns-then-is_some : goal.returns-then-is_some
returns-then-is_some c = λ passes is.
    let gives = broken_in c.args.claim.now.wanted c.args.claim.now.conns.now c.args.block.now in
    found_at gives c.args.rows.now c.loop-row.row-index c.row-item.result c.in_ok-found.found c.loop-row-test.true c.loop-row.invariant (c.in_ok-found.ensures ∙ ap gives c.row-item.is)
    (sym c.is_some.ensures ∙ c.if-is_some.true)
    ∙ ap (first_given gives) is ∙ first_broken-rows c.args.claim.now.wanted c.args.claim.now.conns.now c.args.block.now passes c.requires

pub returns : goal.returns
returns c = λ passes is.
    let gives = broken_in c.args.claim.now.wanted c.args.claim.now.conns.now c.args.block.now in
    none_left gives c.args.rows.now c.loop-row.row-index (omega arith) c.loop-row.invariant
    ∙ ap (first_given gives) is ∙ first_broken-rows c.args.claim.now.wanted c.args.claim.now.conns.now c.args.block.now passes c.requires
