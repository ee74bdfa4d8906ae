-- The command line of `evaluate`.
use Rattle.std.specs.Prelude.{◌∷◌, [], List, Option, Some, codes}
use Rattle.clap.specs.Simple.{App}
use Rattle.clap.specs.Walk.{Row}
use Rattle.np_addr.specs.Prelude.{◌>>=◌}
use Rattle.np_conns.specs.Prelude.{proto_named}
use Rattle.np_args.specs.Arguments.{command_of, file_rule, files_in, required_rule, value_in}
use Rattle.np_args.specs.Values.{number_to, packet_end_of}
use Rattle.np_args.specs.Types.{Evaluate as EvaluateJob, Job}

-- `evaluate --from END --to END --protocol P --port N [FILE]...`
abbrev pub evaluate_command : App
evaluate_command = command_of (codes "evaluate")
    (required_rule (codes "from") ∷ required_rule (codes "to") ∷ required_rule (codes "protocol") ∷ required_rule (codes "port")
    ∷ file_rule ∷ [])

-- the packet that was asked for
abbrev pub evaluate_of : List Row → Option Job
evaluate_of rows = do
  proto ← value_in proto_named (codes "protocol") rows
  port ← value_in (number_to 65535) (codes "port") rows
  files ← files_in rows
  from ← value_in packet_end_of (codes "from") rows
  to ← value_in packet_end_of (codes "to") rows
  Some (EvaluateJob from to proto port files)
