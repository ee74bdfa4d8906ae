use Rattle.np_command_flatten.proofs.FlattenLemmas.{fault-workloads}
use Rattle.np_command_flatten.proofs.report.flatten_in.Goals as goal

pub named-requires : goal.named-requires
named-requires g c = fault-workloads c.args.folded.now c.in-Err.fault c.in-Err.ensures.fault
