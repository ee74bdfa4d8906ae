use Rattle.std.proofs.Common.{ap, ◌∙◌}
use Rattle.serde_json.specs.Written.{compact_text, has_float}
use Rattle.np_sample.specs.Prelude.{sample_text}
use Rattle.np_sample.proofs.FloatLemmas.{has_float-sample}
use Rattle.np_sample.proofs.cluster.sample.Goals as goal

pub returns : goal.returns
unfolding sample_text
returns c =
    let is = c.in_ok-list.ensures in
    c.in_ok-to_vec.ensures.text (ap has_float is ∙ has_float-sample c.args.n) ∙ ap compact_text is
