use Rattle.std.proofs.Common.{◌++◌, ap, sym, ◌∙◌, append_assoc}
use Rattle.std.proofs.lemmas.List.{append_cancel_right}
use Rattle.np_statements.proofs.grammar.cut.Goals as goal

pub returns-in_err-rest-clause-only : goal.returns-in_err-rest-clause-only
returns-in_err-rest-clause-only c = λ end rest before spelled. absurd (c.in_err-rest.ensures end rest before spelled)

pub returns-in_err-before-clause-only : goal.returns-in_err-before-clause-only
returns-in_err-before-clause-only c = λ end rest before spelled.
    absurd (c.in_err-before.ensures (end ++ c.args.mark.now) (spelled ∙ sym (append_assoc end c.args.mark.now rest) ∙ ap (λ behind. (end ++ c.args.mark.now) ++ behind)
    (sym (c.in_ok-rest.ensures end rest before spelled))))

pub returns-in_err-end-clause-only : goal.returns-in_err-end-clause-only
returns-in_err-end-clause-only c = λ end rest before spelled.
    absurd (c.in_err-end.ensures end (append_cancel_right c.in_ok-before.field-0.now (end ++ c.args.mark.now) c.in_ok-rest.rest.now
    (sym c.in_ok-before.ensures ∙ spelled ∙ sym (append_assoc end c.args.mark.now rest) ∙ ap (λ behind. (end ++ c.args.mark.now) ++ behind) (sym (c.in_ok-rest.ensures end rest before spelled)))))

pub returns-clause-only : goal.returns-clause-only
returns-clause-only c = λ end rest before spelled. (
  append_cancel_right c.in_ok-end.end.now end c.args.mark.now (sym c.in_ok-end.ensures ∙ append_cancel_right c.in_ok-before.field-0.now (end ++ c.args.mark.now) c.in_ok-rest.rest.now
      (sym c.in_ok-before.ensures ∙ spelled ∙ sym (append_assoc end c.args.mark.now rest) ∙ ap (λ behind. (end ++ c.args.mark.now) ++ behind) (sym (c.in_ok-rest.ensures end rest before spelled)))),
  c.in_ok-rest.ensures end rest before spelled,
)
