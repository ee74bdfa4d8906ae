use Rattle.std.proofs.Common.{◌∙◌, ap, option_map, sym}
use Rattle.np_args.proofs.ValueLemmas.{end_of-address, has_slash}
use Rattle.np_args.specs.Prelude.{At}
use Rattle.np_args.proofs.end_word.EndWord.of.Goals as goal

pub returns-in-Ok-clause-end : goal.returns-in-Ok-clause-end
returns-in-Ok-clause-end c =
    end_of-address c.args.word.now (sym c.if-contains.false ∙ has_slash c.args.word.now c.contains.result c.contains.ensures.cases)
    ∙ ap (option_map At) c.in-Ok.ensures.read

pub returns-in-Err-clause-usage : goal.returns-in-Err-clause-usage
returns-in-Err-clause-usage c = λ usage.
    end_of-address c.args.word.now (sym c.if-contains.false ∙ has_slash c.args.word.now c.contains.result c.contains.ensures.cases)
    ∙ ap (option_map At) c.in-Err.ensures.refused
