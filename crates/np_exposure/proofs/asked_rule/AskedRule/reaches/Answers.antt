use Rattle.std.proofs.Common.{true, sym, ◌∙◌, subst}
use Rattle.std.proofs.lemmas.Bool.{not-true}
use Rattle.std.specs.Str.{bytes_eq}
use Rattle.np_exposure.proofs.OnlyNamespaceLemmas.{is-elsewhere}
use Rattle.np_exposure.specs.Prelude.{AreOfNamespace, RuleConns}
use Rattle.np_exposure.proofs.asked_rule.AskedRule.reaches.Goals as goal

pub returns-in-Some : goal.returns-in-Some
returns-in-Some c =
    is-elsewhere c.args.self.now c.in-Some.name.now c.args.own.now c.args.namespace.now c.args.stranger.now
    (subst (λ (kept : RuleConns). AreOfNamespace c.in-Some.name.now kept.rule.now.peers) c.self.view_is (rw c.in-Some.is at c.self.invariant))
    c.requires
    (not-true (bytes_eq c.in-Some.name.now c.args.own.now) (sym (rw c.in-Some.name-is at c.ne.ensures) ∙ c.if-ne.true))
