use Rattle.std.proofs.Common.{◌||◌, Some, ap, ◌∙◌}
use Rattle.std.specs.List.{list_any}
use Rattle.np_conns.specs.Prelude.{Conns, has_spot}
use Rattle.np_exposure.proofs.SettledLemmas.{all-rules, any-pushed, met-next, missed-next, open-next}
use Rattle.np_exposure.proofs.open_rules.OpenRules.sort.Goals.{in-Some-true+in_ok-push-in-Some-true, in-Some-false, in-None+in_ok-push-in-None}
use Rattle.np_exposure.specs.Prelude.{rule_matches}
use Rattle.np_exposure.proofs.open_rules.OpenRules.sort.Goals as goal

pub loop-rule-preserved : goal.loop-rule-preserved
loop-rule-preserved c = λ s witness spot.
    elim c.match-matches.branch [
      | in-Some-true+in_ok-push-in-Some-true w ↦ rw (w.sets-is, w.opens-is)
          (met-next c.args.namespace.now s spot (has_spot c.args.self.now.settled spot) c.deref-rule-items.result.now c.loop-rule.rule-index c.rule-item.result c.loop-rule-test.true c.rule-item.is
          c.args.state.now c.matches.result witness c.matches.ensures
          (list_any (λ set. has_spot set.now spot) c.loop-rule.sets.items) (list_any (rule_matches c.args.namespace.now s spot) c.loop-rule.opens.items) (c.loop-rule.invariant s witness spot) _
          (w.in-Some-true.is ∙ ap Some w.in-Some-true.field-0-test)
          (any-pushed (λ set. has_spot set.now spot) c.loop-rule.sets.items w.push-in-Some-true.new.self.items _ w.in_ok-push-in-Some-true.ensures.items
          ∙ ap (λ (set : Conns). list_any (λ one. has_spot one.now spot) c.loop-rule.sets.items || has_spot set spot) w.conns.ensures))
      | in-Some-false w ↦ rw (w.sets-is, w.opens-is)
          (missed-next c.args.namespace.now s spot (has_spot c.args.self.now.settled spot) c.deref-rule-items.result.now c.loop-rule.rule-index c.rule-item.result c.loop-rule-test.true c.rule-item.is
          c.args.state.now c.matches.result witness c.matches.ensures
          (list_any (λ set. has_spot set.now spot) c.loop-rule.sets.items) (list_any (rule_matches c.args.namespace.now s spot) c.loop-rule.opens.items) (c.loop-rule.invariant s witness spot)
          (w.in-Some-false.is ∙ ap Some w.in-Some-false.field-0-test))
      | in-None+in_ok-push-in-None w ↦ rw (w.sets-is, w.opens-is)
          (open-next c.args.namespace.now s spot (has_spot c.args.self.now.settled spot) c.deref-rule-items.result.now c.loop-rule.rule-index c.rule-item.result c.loop-rule-test.true c.rule-item.is
          c.args.state.now c.matches.result witness c.matches.ensures
          (list_any (λ set. has_spot set.now spot) c.loop-rule.sets.items) (list_any (rule_matches c.args.namespace.now s spot) c.loop-rule.opens.items) (c.loop-rule.invariant s witness spot) _
          (any-pushed (rule_matches c.args.namespace.now s spot) c.loop-rule.opens.items w.push-in-None.new.self.items _ w.in_ok-push-in-None.ensures.items))
    ]

pub returns : goal.returns
returns c = λ s witness spot.
    all-rules c.args.namespace.now s spot c.args.self.now c.deref-rule-items.result.now c.loop-rule.rule-index _ c.deref-rule-items.ensures.value c.loop-rule-test.false
    (c.loop-rule.invariant s witness spot)
