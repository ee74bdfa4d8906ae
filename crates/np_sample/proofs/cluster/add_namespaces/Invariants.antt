use Rattle.std.proofs.Common.{◌≡◌, ◌++◌, map}
use Rattle.std.specs.List.{range_with_len}
use Rattle.serde_json.specs.View.{view}
use Rattle.np_sample.specs.Objects as spec
use Rattle.np_sample.proofs.cluster.add_namespaces.Given as goal

-- what is pushed so far are the objects of the numbers so far
abbrev pub invariant-loop-number : goal.invariant-loop-number
invariant-loop-number l = map view l.values.items ≡ map view l.initial.values.items ++ map spec.sample_namespace (range_with_len 0 l.number)
