use Rattle.std.proofs.Common.{sym, ◌∙◌}
use Rattle.std.proofs.lemmas.Bool.{true≢false}
use Rattle.np_args.specs.Prelude.{asked_by}
use Rattle.np_cli.specs.InMemory.{texts_held}
use Rattle.np_cli.proofs.AnswerLemmas.{answered, holding-is, told, unfailed, unrisen}
use Rattle.np_frame.specs.Prelude.{names_asked}
use Rattle.np_cli.proofs.in_memory.answer_counted.Goals as goal

pub returns-clause-says : goal.returns-clause-says
returns-clause-says g c =
    let names = names_asked (asked_by c.args.words.now) in
    let texts = texts_held c.args.files.now (asked_by c.args.words.now) in
    let never = unfailed c.np_main-status.new.inputs.faults c.np_main-status.new.inputs.failed in
    (answered _ _ c.np_main-status.result texts c.in_ok-report.report c.in_ok-said.said c.np_main-status.ensures.promises c.np_main-status.ensures.bytes
    (rw (c.new-inputs.ensures.holds, c.new-inputs.ensures.left) (told c.args.files.now names))
    (λ name. unrisen _ _ (c.new-inputs.ensures.faults name) never)
    (holding-is _ c.in_ok-report.report c.new-report.ensures.taken c.in_ok-report.ensures.taken c.new-report.ensures.faults c.in_ok-report.ensures.unfailed)
    (holding-is _ c.in_ok-said.said c.new-said.ensures.taken c.in_ok-said.ensures.taken c.new-said.ensures.faults c.in_ok-said.ensures.unfailed)
    (λ lacks. true≢false (rw lacks at (sym c.eq.ensures ∙ c.if-eq.false)))).0

pub returns-clause-bytes : goal.returns-clause-bytes
returns-clause-bytes g c =
    let names = names_asked (asked_by c.args.words.now) in
    let texts = texts_held c.args.files.now (asked_by c.args.words.now) in
    let never = unfailed c.np_main-status.new.inputs.faults c.np_main-status.new.inputs.failed in
    (answered _ _ c.np_main-status.result texts c.in_ok-report.report c.in_ok-said.said c.np_main-status.ensures.promises c.np_main-status.ensures.bytes
    (rw (c.new-inputs.ensures.holds, c.new-inputs.ensures.left) (told c.args.files.now names))
    (λ name. unrisen _ _ (c.new-inputs.ensures.faults name) never)
    (holding-is _ c.in_ok-report.report c.new-report.ensures.taken c.in_ok-report.ensures.taken c.new-report.ensures.faults c.in_ok-report.ensures.unfailed)
    (holding-is _ c.in_ok-said.said c.new-said.ensures.taken c.in_ok-said.ensures.taken c.new-said.ensures.faults c.in_ok-said.ensures.unfailed)
    (λ lacks. true≢false (rw lacks at (sym c.eq.ensures ∙ c.if-eq.false)))).1
