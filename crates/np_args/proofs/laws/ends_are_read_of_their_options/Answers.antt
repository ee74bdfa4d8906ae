use Rattle.np_args.proofs.ExplainLemmas.{explained_job}
use Rattle.np_args.proofs.laws.ends_are_read_of_their_options.Goals as goal

pub returns : goal.returns
returns c = explained_job
