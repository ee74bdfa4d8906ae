use Rattle.std.proofs.Common.{◌≡◌, ◌++◌, codes, string_bytes, take}
use Rattle.std.specs.List.{flat_map}
use Rattle.np_conns.specs.Prelude.{run_text}
use Rattle.np_conns.proofs.print.push_runs.Given as goal

abbrev pub invariant-loop-run : goal.invariant-loop-run
invariant-loop-run l = string_bytes l.text ≡ string_bytes l.initial.text ++ flat_map (λ run. codes "," ++ run_text run) (take l.run-index l.others)
