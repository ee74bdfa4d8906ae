use Rattle.std.proofs.Common.{sym, ◌∙◌}
use Rattle.std.proofs.lemmas.Result.{MatchResult-weaker}
use Rattle.np_conns.proofs.PrintedForms.{whole_spots, no_spots, of_parts}
use Rattle.np_conns.proofs.read.read_leniently.Goals as goal

pub returns-in_ok-everything-in-text-clause-printed :
    goal.returns-in_ok-everything-in-text-clause-printed
returns-in_ok-everything-in-text-clause-printed c = λ conns well printed spot.
    c.in_ok-everything-in-text.ensures.members spot ∙ sym (whole_spots conns well (sym printed ∙ c.in-text.is) spot)

pub returns-in_ok-nothing-in-text-2-clause-printed :
    goal.returns-in_ok-nothing-in-text-2-clause-printed
returns-in_ok-nothing-in-text-2-clause-printed c = λ conns well printed spot.
    c.in_ok-nothing-in-text-2.ensures.members spot ∙ sym (no_spots conns well (sym printed ∙ c.in-text-2.is) spot)

pub returns-in_default-clause-printed : goal.returns-in_default-clause-printed
returns-in_default-clause-printed c = λ conns well printed.
    let parts = of_parts conns well (λ e. c.in_default.not-text (printed ∙ e)) (λ e. c.in_default.not-text-2 (printed ∙ e)) in
    MatchResult-weaker c.read_parts.result (c.read_parts.ensures.printed parts.part parts.others parts.few parts.real (printed ∙ parts.text)) (λ made has spot. has spot ∙ parts.spots spot)
    (λ fault is. is)
