use Rattle.std.proofs.Common.{◌≡◌, ◌∙◌, [], ap, codes, true}
use Rattle.std.proofs.lemmas.Result.{IfOk-weaker}
use Rattle.clap.specs.Simple.{Shape, app_of, app_of_fields, on_top}
use Rattle.np_args.proofs.AskedLemmas.{added}
use Rattle.np_args.specs.Prelude.{command_of}
use Rattle.np_args.proofs.evaluate_words.EvaluateWordsCommandWords.line.Goals as goal

pub returns : goal.returns
returns c =
    let bare : app_of c.disable_help_flag.result ≡ command_of (codes "evaluate") [] =
    ap app_of_fields c.disable_help_flag.ensures ∙ ap (on_top (λ (shape : Shape). record shape { disable_help_flag = true })) c.new.ensures.app in
    let from = added _ _ c.required_option.result _ _ c.in_ok-arg.ensures c.required_option.ensures.local bare c.required_option.ensures.rule in
    let to = added _ _ c.required_option-2.result _ _ c.in_ok-arg-2.ensures c.required_option-2.ensures.local from c.required_option-2.ensures.rule in
    let proto = added _ _ c.required_option-3.result _ _ c.in_ok-arg-3.ensures c.required_option-3.ensures.local to c.required_option-3.ensures.rule in
    let port = added _ _ c.required_option-4.result _ _ c.in_ok-arg-4.ensures c.required_option-4.ensures.local proto c.required_option-4.ensures.rule in
    IfOk-weaker c.arg-5.result _ _ (λ command adds. added _ command c.file.result _ _ adds c.file.ensures.local port c.file.ensures.rule) c.arg-5.ensures
