use Rattle.std.proofs.Common.{Some}
use Rattle.clap.specs.Matches.{found_of}
use Rattle.clap.specs.Walk.{rows_of}
use Rattle.np_args.proofs.ExplainLemmas.{explain_of-values}
use Rattle.np_args.proofs.explain_words.ExplainWordsCommandWords.job.Goals as goal

pub returns-clause-job : goal.returns-clause-job
returns-clause-job c =
    explain_of-values (rows_of (found_of c.args.matches.now)) (Some c.in_ok-files.files) (Some c.in_ok-from.from) (Some c.in_ok-to.to)
    c.in_ok-files.ensures.files c.in_ok-from.ensures.end c.in_ok-to.ensures.end
