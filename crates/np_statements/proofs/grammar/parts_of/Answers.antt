use Rattle.std.proofs.Common.{◌++◌, codes, sym, ◌∙◌}
use Rattle.np_statements.proofs.TextLemmas.{arrow_mark, colon_mark, one_wanted}
use Rattle.np_statements.proofs.grammar.parts_of.Goals as goal

pub cut-requires : goal.cut-requires
cut-requires c = arrow_mark

pub cut-requires-2 : goal.cut-requires-2
cut-requires-2 c = colon_mark

pub returns-in_err-wanted-clause-only : goal.returns-in_err-wanted-clause-only
returns-in_err-wanted-clause-only c = λ wanted source destination conns arrow colon spelled. absurd (c.in_err-wanted.ensures wanted _ spelled)

pub returns-in_err-source-clause-only : goal.returns-in_err-source-clause-only
returns-in_err-source-clause-only c = λ wanted source destination conns arrow colon spelled.
    let behind = destination ++ (codes " : " ++ conns) in
    let sides = one_wanted c.in_ok-wanted.wanted wanted c.in_ok-wanted.sides.now (source ++ (codes " => " ++ behind)) (sym c.in_ok-wanted.ensures ∙ spelled) in
    absurd (c.in_err-source.ensures.only source behind arrow sides.1)

pub returns-in_err-destination-clause-only : goal.returns-in_err-destination-clause-only
returns-in_err-destination-clause-only c = λ wanted source destination conns arrow colon spelled.
    let behind = destination ++ (codes " : " ++ conns) in
    let sides = one_wanted c.in_ok-wanted.wanted wanted c.in_ok-wanted.sides.now (source ++ (codes " => " ++ behind)) (sym c.in_ok-wanted.ensures ∙ spelled) in
    let first = c.in_ok-source.ensures.only source behind arrow sides.1 in
    absurd (c.in_err-destination.ensures.only destination conns colon first.1)

pub returns-clause-only : goal.returns-clause-only
returns-clause-only c = λ wanted source destination conns arrow colon spelled.
    let behind = destination ++ (codes " : " ++ conns) in
    let sides = one_wanted c.in_ok-wanted.wanted wanted c.in_ok-wanted.sides.now (source ++ (codes " => " ++ behind)) (sym c.in_ok-wanted.ensures ∙ spelled) in
    let first = c.in_ok-source.ensures.only source behind arrow sides.1 in
    let second = c.in_ok-destination.ensures.only destination conns colon first.1 in
    (sides.0, first.0, second.0, second.1)
