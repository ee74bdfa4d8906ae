use Rattle.std.proofs.Common.{refl, ◌∙◌}
use Rattle.np_fold.proofs.FoldLemmas.{firsts-in}
use Rattle.np_fold.proofs.workloads.Workloads.of_classes.Goals as goal

pub first_pods_by_name-requires-clause-within : goal.first_pods_by_name-requires-clause-within
first_pods_by_name-requires-clause-within c = firsts-in c.args.estate.now c.args.estate.now.pods c.items.result.now refl (c.items.ensures ∙ c.requires.firsts)
