use Rattle.std.proofs.Common.{rules, ◌∙◌}
use Rattle.std.proofs.lemmas.Result.{IfOk-weaker}
use Rattle.np_command_exposure.proofs.KnownLemmas.{rows-shown, side-named}
use Rattle.np_command_exposure.proofs.report.rows_at.Goals as goal

pub returns-in-Some-clause-rows : goal.returns-in-Some-clause-rows
returns-in-Some-clause-rows c =
    IfOk-weaker c.row_texts.result _ _
    (λ texts is. side-named c.args.folded.now c.args.side c.name-name.result.now c.in-Some.rows.now texts (search rules)
    (rows-shown c.args.folded.now c.args.known.now c.args.side c.first_place-pod.result c.in-Some.rows.now c.requires.known c.first_place-pod.ensures.value (search rules)) is)
    c.row_texts.ensures

pub returns-clause-rows : goal.returns-clause-rows
returns-clause-rows c =
    side-named c.args.folded.now c.args.side c.name-name.result.now c.items.result.now c.in_ok-texts.texts (search rules) (c.items.ensures ∙ c.in_ok-rows.ensures) c.in_ok-texts.ensures
