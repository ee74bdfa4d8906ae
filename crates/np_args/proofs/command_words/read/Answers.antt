use Rattle.std.proofs.Common.{◌≡◌, ◌∙◌, map, rules, string_bytes}
use Rattle.std.proofs.lemmas.Result.{IfOk-weaker}
use Rattle.clap.specs.Simple.{app_of}
use Rattle.clap.specs.Values.{kind_of}
use Rattle.np_args.proofs.AskedLemmas.{matched_job, unmatched_job}
use Rattle.np_args.specs.Prelude.{Usage, fault_of_kind}
use Rattle.np_args.proofs.command_words.read.Goals as goal

pub returns-in_err-matches-clause-usage : goal.returns-in_err-matches-clause-usage
returns-in_err-matches-clause-usage g c = λ usage.
    let kind : fault_of_kind (kind_of c.in_err-matches.field-0.0) ≡ Usage = search rules in
    unmatched_job g.C.CommandWords.line g.C.CommandWords.made g.met.C.CommandWords.exact (app_of c.in_ok-line.line) (map string_bytes c.args.words.now) c.in_err-matches.field-0.0
    c.in_ok-line.ensures c.in_err-matches.ensures.kinds kind

pub returns-clause-job : goal.returns-clause-job
returns-clause-job g c =
    let joined = matched_job g.C.CommandWords.line g.C.CommandWords.made g.met.C.CommandWords.exact (app_of c.in_ok-line.line) (map string_bytes c.args.words.now) c.in_ok-matches.matches
    c.in_ok-line.ensures c.in_ok-matches.ensures.kinds c.in_ok-matches.ensures.matches in
    IfOk-weaker c.job.result _ _ (λ job is. joined ∙ is) c.job.ensures.job

pub returns-clause-usage : goal.returns-clause-usage
returns-clause-usage g c = λ usage.
    matched_job g.C.CommandWords.line g.C.CommandWords.made g.met.C.CommandWords.exact (app_of c.in_ok-line.line) (map string_bytes c.args.words.now) c.in_ok-matches.matches
    c.in_ok-line.ensures c.in_ok-matches.ensures.kinds c.in_ok-matches.ensures.matches
    ∙ c.job.ensures.usage usage
