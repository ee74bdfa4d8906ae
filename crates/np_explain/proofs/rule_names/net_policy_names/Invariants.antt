use Rattle.std.proofs.Common.{◌≡◌, map, take}
use Rattle.np_explain.specs.Prelude.{policy_name_at}
use Rattle.np_explain.proofs.rule_names.net_policy_names.Given as goal

abbrev pub invariant-loop-place : goal.invariant-loop-place
invariant-loop-place l = l.names.items ≡ map (policy_name_at l.policies) (take l.place-index l.places)
