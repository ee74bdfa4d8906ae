use Rattle.np_args.proofs.PacketLemmas.{packet_job}
use Rattle.np_args.proofs.laws.packet_is_read_of_its_options.Goals as goal

pub returns : goal.returns
returns c = packet_job
