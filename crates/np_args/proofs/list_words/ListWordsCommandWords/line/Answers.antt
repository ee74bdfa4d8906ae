use Rattle.std.proofs.Common.{◌≡◌, ◌∙◌, [], ap, codes, true}
use Rattle.std.proofs.lemmas.Result.{IfOk-weaker}
use Rattle.clap.specs.Simple.{Shape, app_of, app_of_fields, on_top}
use Rattle.np_args.proofs.AskedLemmas.{added}
use Rattle.np_args.specs.Prelude.{command_of}
use Rattle.np_args.proofs.list_words.ListWordsCommandWords.line.Goals as goal

pub returns : goal.returns
returns c =
    let bare : app_of c.disable_help_flag.result ≡ command_of (codes "list") [] =
    ap app_of_fields c.disable_help_flag.ensures ∙ ap (on_top (λ (shape : Shape). record shape { disable_help_flag = true })) c.new.ensures.app in
    let format = added _ _ c.option_or.result _ _ c.in_ok-arg.ensures c.option_or.ensures.local bare c.option_or.ensures.rule in
    let report = added _ _ c.option_or-2.result _ _ c.in_ok-arg-2.ensures c.option_or-2.ensures.local format c.option_or-2.ensures.rule in
    let controller = added _ _ c.option_of.result _ _ c.in_ok-arg-3.ensures c.option_of.ensures.local report c.option_of.ensures.rule in
    let focus = added _ _ c.option_of-2.result _ _ c.in_ok-arg-4.ensures c.option_of-2.ensures.local controller c.option_of-2.ensures.rule in
    let side = added _ _ c.option_or-3.result _ _ c.in_ok-arg-5.ensures c.option_or-3.ensures.local focus c.option_or-3.ensures.rule in
    IfOk-weaker c.arg-6.result _ _ (λ command adds. added _ command c.file.result _ _ adds c.file.ensures.local side c.file.ensures.rule) c.arg-6.ensures
