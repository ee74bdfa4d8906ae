use Rattle.np_addr.proofs.PieceLemmas.{pieces-cut}
use Rattle.np_addr.proofs.pieces.split_first.Goals as goal

pub returns-clause-cut : goal.returns-clause-cut
returns-clause-cut c = pieces-cut c.args.separator c.args.text.now _ c.split_once.ensures.cases c.requires
