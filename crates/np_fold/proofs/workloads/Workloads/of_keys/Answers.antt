use Rattle.np_fold.specs.Prelude.{keys_of_estate}
use Rattle.np_fold.proofs.PartLemmas.{keys-agree, keys-ascend}
use Rattle.np_fold.proofs.workloads.Workloads.of_keys.Goals as goal

pub classes_of_pods-requires-clause-keys : goal.classes_of_pods-requires-clause-keys
classes_of_pods-requires-clause-keys c = keys-agree c.args.relevant c.items.result.now _ c.items.ensures c.requires.relevant

pub classes_of_pods-requires-clause-ascending : goal.classes_of_pods-requires-clause-ascending
classes_of_pods-requires-clause-ascending c = keys-ascend c.args.relevant c.items.result.now (keys_of_estate c.args.estate.now) c.items.ensures c.requires.relevant
