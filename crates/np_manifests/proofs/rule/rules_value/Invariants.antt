use Rattle.std.proofs.Common.{◌≡◌, map, take}
use Rattle.serde_json.specs.View.{view}
use Rattle.np_manifests.specs.Manifests as manifests
use Rattle.np_manifests.proofs.rule.rules_value.Given as goal

abbrev pub invariant-loop-rule : goal.invariant-loop-rule
invariant-loop-rule l = map view l.values.items ≡ map (manifests.rule_data l.direction) (take l.rule-index l.rules)
