use Rattle.std.proofs.Common.{◌≡◌, ◌∙◌, [], ap, codes, true}
use Rattle.std.proofs.lemmas.Result.{IfOk-weaker}
use Rattle.clap.specs.Simple.{Shape, app_of, app_of_fields, on_top}
use Rattle.np_args.proofs.AskedLemmas.{added}
use Rattle.np_args.specs.Prelude.{command_of}
use Rattle.np_args.proofs.exposure_words.ExposureWordsCommandWords.line.Goals as goal

pub returns : goal.returns
returns c =
    let bare : app_of c.disable_help_flag.result ≡ command_of (codes "exposure") [] =
    ap app_of_fields c.disable_help_flag.ensures ∙ ap (on_top (λ (shape : Shape). record shape { disable_help_flag = true })) c.new.ensures.app in
    let workload = added _ _ c.option_of.result _ _ c.in_ok-arg.ensures c.option_of.ensures.local bare c.option_of.ensures.rule in
    let format = added _ _ c.option_or.result _ _ c.in_ok-arg-2.ensures c.option_or.ensures.local workload c.option_or.ensures.rule in
    IfOk-weaker c.arg-3.result _ _ (λ command adds. added _ command c.file.result _ _ adds c.file.ensures.local format c.file.ensures.rule) c.arg-3.ensures
