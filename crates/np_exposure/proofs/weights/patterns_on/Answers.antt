use Rattle.std.proofs.Common.{◌∙◌}
use Rattle.np_exposure.proofs.WeightLemmas.{patterns-full, patterns-step}
use Rattle.np_exposure.proofs.weights.patterns_on.Goals as goal

pub loop-key-preserved : goal.loop-key-preserved
loop-key-preserved c =
    patterns-step c.args.side c.args.mentions.now c.items-key-items.result.now c.loop-key.key-index c.loop-key.patterns _ c.saturating_mul-patterns.result c.key-item.result c.as_str.result.now
    c.loop-key.invariant c.loop-key-test.true c.key-item.is c.as_str.ensures c.in_ok-patterns_at.ensures c.saturating_mul-patterns.ensures

pub returns-then-patterns : goal.returns-then-patterns
returns-then-patterns c =
    patterns-full c.args.side c.args.mentions.now c.items-key-items.result.now _ c.saturating_mul-patterns.result
    (patterns-step c.args.side c.args.mentions.now c.items-key-items.result.now c.loop-key.key-index c.loop-key.patterns _ c.saturating_mul-patterns.result c.key-item.result c.as_str.result.now
    c.loop-key.invariant c.loop-key-test.true c.key-item.is c.as_str.ensures c.in_ok-patterns_at.ensures c.saturating_mul-patterns.ensures)
    c.if-patterns.true (c.items-key-items.ensures ∙ c.in_ok-keys.ensures)
