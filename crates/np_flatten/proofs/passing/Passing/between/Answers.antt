use Rattle.std.proofs.Common.{sym, ap, ◌∙◌}
use Rattle.std.proofs.lemmas.Result.{IfOk-weaker}
use Rattle.np_flatten.specs.Prelude.{EstateLists, set_of}
use Rattle.np_flatten.proofs.PassingFacts.{apart-alone, found-set, silent-set}
use Rattle.np_flatten.proofs.passing.Passing.between.Goals as goal

pub returns-then-is_silent-clause-set : goal.returns-then-is_silent-clause-set
returns-then-is_silent-clause-set c =
    silent-set c.folded-folded.result.now c.in_ok-nothing.nothing c.args.source c.args.destination c.in_ok-nothing.ensures.well c.in_ok-nothing.ensures.members
    (c.is_silent.ensures.silent c.if-is_silent.true)
    ∙ ap (λ (l : EstateLists). set_of l c.args.source c.args.destination) c.folded-folded.ensures

pub set_by_kinds-requires-clause-apart : goal.set_by_kinds-requires-clause-apart
set_by_kinds-requires-clause-apart c = apart-alone _ c.args.source c.args.destination c.requires.apart

pub returns-clause-set : goal.returns-clause-set
returns-clause-set c =
    IfOk-weaker c.set_by_kinds.result _ _ (λ made is.
    found-set c.self.inside.sides.lists c.folded-folded.result.now c.args.source c.args.destination c.first_family.result made c.first_family.ensures
    (c.folded-folded.ensures ∙ sym c.self.view_is) is
    ∙ ap (λ (l : EstateLists). set_of l c.args.source c.args.destination) c.self.view_is) c.set_by_kinds.ensures.set
