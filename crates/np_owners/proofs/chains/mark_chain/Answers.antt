use Rattle.std.proofs.Common.{rules, length, ◌+◌, ◌-◌, None, arith, sym, ◌∙◌}
use Rattle.std.proofs.Math.Bool.{or-false}
use Rattle.np_owners.proofs.Walks.{up_at, up_within, chain_none, none_over, mark_step}
use Rattle.np_owners.specs.Prelude.{is_marked}
use Rattle.np_owners.proofs.chains.mark_chain.Goals as goal

pub returns-in_default : goal.returns-in_default
returns-in_default c = λ other below.
    let ups = c.args.ups.now in
    let so_far = c.loop-mark.invariant in
    let nothing = up_at ups c.loop-mark.at None so_far.0 ∙ none_over _ c.in_default.not-Some in
    sym (or-false (is_marked c.loop-mark.marks other)) ∙ (rw (chain_none ups (length ups - c.loop-mark._mark) c.loop-mark.at nothing) at so_far.2 other below)

pub loop-mark-preserved : goal.loop-mark-preserved
loop-mark-preserved c =
    let ups = c.args.ups.now in
    let so_far = c.loop-mark.invariant in
    let here = up_at ups c.loop-mark.at None so_far.0 ∙ c.in-Some.is in
    let within = up_within ups c.requires.chains _ _ so_far.0 here in (
      within,
      search rules,
      λ other below. mark_step c.loop-mark.marks ups (length ups - c.loop-mark._mark) (length ups - (c.loop-mark._mark + 1)) c.loop-mark.at c.in-Some.above (omega arith) here
          (rw so_far.1 within) other ∙ so_far.2 other below,
    )
