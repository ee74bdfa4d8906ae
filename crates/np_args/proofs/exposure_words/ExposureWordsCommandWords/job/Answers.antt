use Rattle.std.proofs.Common.{◌∙◌, None, Some, codes, refl}
use Rattle.clap.specs.Matches.{found_of}
use Rattle.clap.specs.Walk.{rows_of}
use Rattle.np_args.proofs.AskedLemmas.{value_read}
use Rattle.np_args.proofs.ExposureLemmas.{exposure_of-values}
use Rattle.np_args.specs.Prelude.{format_of}
use Rattle.np_args.proofs.exposure_words.ExposureWordsCommandWords.job.Goals as goal

pub returns-in_err-format-clause-usage : goal.returns-in_err-format-clause-usage
returns-in_err-format-clause-usage c = λ usage.
    let found = found_of c.args.matches.now in
    exposure_of-values (rows_of found) None _ _
    (value_read format_of (codes "format") found c.get_str.result c.and_then.result c.get_str.ensures c.and_then.ensures ∙ c.in_err-format.ensures.ok_part)
    refl refl

pub returns-clause-job : goal.returns-clause-job
returns-clause-job c =
    let found = found_of c.args.matches.now in
    exposure_of-values (rows_of found) (Some c.in_ok-format.format) (Some c.in_ok-files.files) c.in_ok-workload.workload
    (value_read format_of (codes "format") found c.get_str.result c.and_then.result c.get_str.ensures c.and_then.ensures ∙ c.in_ok-format.ensures.ok_part)
    c.in_ok-files.ensures.files c.in_ok-workload.ensures
