use Rattle.std.proofs.Common.{◌∙◌, Bor, Option, ap, codes, option_and_then, option_map, sym}
use Rattle.clap.specs.Matches.{found_of}
use Rattle.np_args.proofs.AskedLemmas.{value_in-found}
use Rattle.np_args.specs.Prelude.{Sample as SampleJob, Word, number_to}
use Rattle.np_args.proofs.sample_words.SampleWordsCommandWords.job.Goals as goal

pub returns-in_err-word-clause-usage : goal.returns-in_err-word-clause-usage
returns-in_err-word-clause-usage c = λ usage.
    ap (option_map SampleJob)
    (value_in-found (number_to 1000) (codes "N") (found_of c.args.matches.now) c.get_str.result c.get_str.ensures
    ∙ ap (λ (word : Option (Bor Word)). option_and_then (number_to 1000) (option_map (λ s. s.now) word)) c.in_err-word.ensures.ok_part)

pub returns-in_err-n-clause-usage : goal.returns-in_err-n-clause-usage
returns-in_err-n-clause-usage c = λ usage.
    ap (option_map SampleJob)
    (value_in-found (number_to 1000) (codes "N") (found_of c.args.matches.now) c.get_str.result c.get_str.ensures
    ∙ ap (λ (word : Option (Bor Word)). option_and_then (number_to 1000) (option_map (λ s. s.now) word)) c.in_ok-word.ensures.ok_part
    ∙ sym c.read_number.ensures.value ∙ c.in_err-n.ensures.ok_part)

pub returns-clause-job : goal.returns-clause-job
returns-clause-job c =
    ap (option_map SampleJob)
    (value_in-found (number_to 1000) (codes "N") (found_of c.args.matches.now) c.get_str.result c.get_str.ensures
    ∙ ap (λ (word : Option (Bor Word)). option_and_then (number_to 1000) (option_map (λ s. s.now) word)) c.in_ok-word.ensures.ok_part
    ∙ sym c.read_number.ensures.value ∙ c.in_ok-n.ensures.ok_part)
