use Rattle.std.proofs.Common.{◌∙◌}
use Rattle.np_fold.proofs.LabelLemmas.{is_ascending-from_sorted}
use Rattle.np_fold.proofs.traits.is_listed.Goals as goal
use Rattle.np_labels.proofs.Halves.{is_listed-by_halves}

pub returns : goal.returns
returns c =
    c.is_ok.ensures.value
    ∙ is_listed-by_halves c.args.keys.now (is_ascending-from_sorted c.args.keys.now c.requires) c.args.key.now c.binary_search.result c.binary_search.ensures.bound c.binary_search.ensures.position
