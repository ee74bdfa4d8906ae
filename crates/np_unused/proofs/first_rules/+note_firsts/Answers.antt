use Rattle.std.proofs.Common.{◌≡◌, ◌/◌, ◌++◌, length, sym, ◌∙◌}
use Rattle.std.proofs.lemmas.List.{take-append-drop}
use Rattle.std.proofs.lemmas.Result.{IfOk-weaker}
use Rattle.np_unused.proofs.NoteLemmas.{all_noted, halves_noted, none_left}
use Rattle.np_unused.proofs.first_rules.+note_firsts.Goals as goal
use Rattle.np_unused.proofs.first_rules.+note_firsts.Goals.{then-is_empty-via-then-is_empty, then-is_empty-via-else-is_empty+then-are_known}

pub returns-then-is_empty : goal.returns-then-is_empty
returns-then-is_empty g t c =
    elim c.then-is_empty.branch [
      | then-is_empty-via-then-is_empty w ↦ none_left g.S.Cells.has (g.S.Cells.has c.args.left.now) c.args.rules.now c.args.flags.now w.if-is_empty.ensures.answer
      | then-is_empty-via-else-is_empty+then-are_known w ↦ all_noted g.S.Cells.has (g.S.Cells.has c.args.left.now) c.args.rules.now c.args.flags.now (sym w.are_known.ensures ∙ w.if-are_known.true)
    ]

pub returns-in_ok-minus-in_default : goal.returns-in_ok-minus-in_default
returns-in_ok-minus-in_default g t c =
    let rules = c.args.rules.now in
    let front = c.split_at.result.0.now in
    let back = c.split_at.result.1.now in
    let split : front ++ back ≡ rules = rw (c.split_at.ensures.front, c.split_at.ensures.back) (take-append-drop (length rules / 2) rules) in
    IfOk-weaker c.note_firsts-in_default.result _ _
    (λ _ noted. halves_noted g.S.Cells.has (g.S.Cells.has c.args.left.now) rules front back (g.S.Cells.has c.in_ok-matched-in_default.matched) (g.S.Cells.has c.in_ok-meet-in_default.field-0)
    (g.S.Cells.has c.in_ok-minus-in_default.field-0) c.args.flags.now c.note_firsts.new.flags c.note_firsts-in_default.new.flags split c.in_ok-matched-in_default.ensures
    c.in_ok-meet-in_default.ensures.members c.in_ok-minus-in_default.ensures.members c.in_ok-note_firsts-in_default.ensures noted)
    c.note_firsts-in_default.ensures
