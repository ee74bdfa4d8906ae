use Rattle.std.proofs.Common.{◌∙◌, None, Some, codes, refl}
use Rattle.clap.specs.Matches.{found_of}
use Rattle.clap.specs.Walk.{rows_of}
use Rattle.np_args.proofs.AskedLemmas.{value_read}
use Rattle.np_args.proofs.ListLemmas.{list_of-values}
use Rattle.np_args.specs.Prelude.{focus_side_of, format_of, report_of}
use Rattle.np_args.proofs.list_words.ListWordsCommandWords.job.Goals as goal

pub returns-in_err-format-clause-usage : goal.returns-in_err-format-clause-usage
returns-in_err-format-clause-usage c = λ usage.
    let found = found_of c.args.matches.now in
    list_of-values (rows_of found) None _ _ _ _ _
    (value_read format_of (codes "format") found c.get_str.result c.and_then.result c.get_str.ensures c.and_then.ensures ∙ c.in_err-format.ensures.ok_part)
    refl refl refl refl refl

pub returns-in_err-report-clause-usage : goal.returns-in_err-report-clause-usage
returns-in_err-report-clause-usage c = λ usage.
    let found = found_of c.args.matches.now in
    list_of-values (rows_of found) (Some c.in_ok-format.format) None _ _ _ _
    (value_read format_of (codes "format") found c.get_str.result c.and_then.result c.get_str.ensures c.and_then.ensures ∙ c.in_ok-format.ensures.ok_part)
    (value_read report_of (codes "report") found c.get_str-2.result c.and_then-2.result c.get_str-2.ensures c.and_then-2.ensures ∙ c.in_err-report.ensures.ok_part)
    refl refl refl refl

pub returns-in_err-side-clause-usage : goal.returns-in_err-side-clause-usage
returns-in_err-side-clause-usage c = λ usage.
    let found = found_of c.args.matches.now in
    list_of-values (rows_of found) (Some c.in_ok-format.format) (Some c.in_ok-report.report) None _ _ _
    (value_read format_of (codes "format") found c.get_str.result c.and_then.result c.get_str.ensures c.and_then.ensures ∙ c.in_ok-format.ensures.ok_part)
    (value_read report_of (codes "report") found c.get_str-2.result c.and_then-2.result c.get_str-2.ensures c.and_then-2.ensures ∙ c.in_ok-report.ensures.ok_part)
    (value_read focus_side_of (codes "side") found c.get_str-3.result c.and_then-3.result c.get_str-3.ensures c.and_then-3.ensures ∙ c.in_err-side.ensures.ok_part)
    refl refl refl

pub returns-clause-job : goal.returns-clause-job
returns-clause-job c =
    let found = found_of c.args.matches.now in
    list_of-values (rows_of found) (Some c.in_ok-format.format) (Some c.in_ok-report.report) (Some c.in_ok-side.side) (Some c.in_ok-files.files) c.in_ok-controller.controller c.in_ok-focus.focus
    (value_read format_of (codes "format") found c.get_str.result c.and_then.result c.get_str.ensures c.and_then.ensures ∙ c.in_ok-format.ensures.ok_part)
    (value_read report_of (codes "report") found c.get_str-2.result c.and_then-2.result c.get_str-2.ensures c.and_then-2.ensures ∙ c.in_ok-report.ensures.ok_part)
    (value_read focus_side_of (codes "side") found c.get_str-3.result c.and_then-3.result c.get_str-3.ensures c.and_then-3.ensures ∙ c.in_ok-side.ensures.ok_part)
    c.in_ok-files.ensures.files c.in_ok-controller.ensures c.in_ok-focus.ensures
