use Rattle.std.proofs.Common.{◌∙◌, Option, ap, Bor, option_and_then, option_map}
use Rattle.std.proofs.lemmas.Result.{IfOk-weaker}
use Rattle.clap.specs.Matches.{found_of}
use Rattle.np_args.proofs.AskedLemmas.{value_in-found}
use Rattle.np_args.specs.Prelude.{Word, packet_end_of}
use Rattle.np_args.proofs.found.end_in.Goals as goal

pub returns-in_err-word-clause-usage : goal.returns-in_err-word-clause-usage
returns-in_err-word-clause-usage c = λ usage.
    value_in-found packet_end_of c.args.option.now (found_of c.args.matches.now) c.get_str.result c.get_str.ensures
    ∙ ap (λ (word : Option (Bor Word)). option_and_then packet_end_of (option_map (λ s. s.now) word)) c.in_err-word.ensures.ok_part

pub returns-clause-end : goal.returns-clause-end
returns-clause-end c =
    let reads =
    value_in-found packet_end_of c.args.option.now (found_of c.args.matches.now) c.get_str.result c.get_str.ensures
    ∙ ap (λ (word : Option (Bor Word)). option_and_then packet_end_of (option_map (λ s. s.now) word)) c.in_ok-word.ensures.ok_part in
    IfOk-weaker c.of.result _ _ (λ end is. reads ∙ is) c.of.ensures.end

pub returns-clause-usage : goal.returns-clause-usage
returns-clause-usage c = λ usage.
    value_in-found packet_end_of c.args.option.now (found_of c.args.matches.now) c.get_str.result c.get_str.ensures
    ∙ ap (λ (word : Option (Bor Word)). option_and_then packet_end_of (option_map (λ s. s.now) word)) c.in_ok-word.ensures.ok_part
    ∙ c.of.ensures.usage usage
