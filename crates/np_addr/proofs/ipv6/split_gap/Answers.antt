use Rattle.np_addr.proofs.GapLemmas.{around_gap-found}
use Rattle.np_addr.proofs.ipv6.split_gap.Goals as goal

pub returns : goal.returns
returns c = around_gap-found c.args.text.now _ c.split_once.ensures.cases
