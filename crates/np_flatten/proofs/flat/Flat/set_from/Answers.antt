use Rattle.std.proofs.Common.{ℕ, Some, sym, ap, ◌∙◌}
use Rattle.np_conns.specs.Prelude.{Conns}
use Rattle.np_flatten.specs.Prelude.{EstateLists, first_of_group, set_of}
use Rattle.np_flatten.proofs.ReceiverFacts.{firsts-apart, set-cross}
use Rattle.np_flatten.proofs.flat.Flat.set_from.Goals as goal

pub between-requires-clause-apart : goal.between-requires-clause-apart
between-requires-clause-apart c = λ same. firsts-apart c.args.self.now c.args.sender c.args.group c.requires.sender c.requires.group c.if-sender-group.false
    (sym c.first-source.ensures.value ∙ same ∙ c.first-destination.ensures.value)

pub returns-clause-set : goal.returns-clause-set
returns-clause-set c =
    ap (λ (set : Conns). Some set) (c.in_ok-set.ensures.set
    ∙ ap (λ (l : EstateLists). set_of l c.first-source.result c.first-destination.result) c.self.view_is
    ∙ ap (λ (f : ℕ). set_of c.args.self.now f c.first-destination.result) c.first-source.ensures.value
    ∙ ap (λ (f : ℕ). set_of c.args.self.now (first_of_group c.args.self.now c.args.sender) f) c.first-destination.ensures.value)
    ∙ set-cross c.args.self.now c.args.sender c.args.group c.requires.sender c.requires.group c.if-sender-group.false
