use Rattle.std.proofs.Common.{◌≡◌, map, ◌∙◌}
use Rattle.np_fold.specs.Prelude.{keys_of_estate, number_among, workload_of_entry}
use Rattle.np_fold.proofs.PartLemmas.{classes-in, folding-is, keys-agree, keys-ascend, kinds-few, names-ascend, names-few, numbers-few, numbers-in, numbers-made, places-in, workloads-few, workloads-made}
use Rattle.np_fold.proofs.workloads.Workloads.of_named.Goals as goal

pub kinds_of_workloads-requires-clause-few : goal.kinds_of_workloads-requires-clause-few
kinds_of_workloads-requires-clause-few c = names-few c.args.estate.now c.requires.few c.args.named.now c.requires.named

pub kinds_of_workloads-requires-clause-keys : goal.kinds_of_workloads-requires-clause-keys
kinds_of_workloads-requires-clause-keys c = keys-agree c.args.relevant c.items.result.now _ c.items.ensures c.requires.relevant

pub kinds_of_workloads-requires-clause-ascending : goal.kinds_of_workloads-requires-clause-ascending
kinds_of_workloads-requires-clause-ascending c = keys-ascend c.args.relevant c.items.result.now (keys_of_estate c.args.estate.now) c.items.ensures c.requires.relevant

pub numbers_by_name-requires-clause-few : goal.numbers_by_name-requires-clause-few
numbers_by_name-requires-clause-few c = names-few c.args.estate.now c.requires.few c.args.named.now c.requires.named

pub numbers_by_name-requires-clause-places : goal.numbers_by_name-requires-clause-places
numbers_by_name-requires-clause-places c = places-in c.args.estate.now c.requires.few c.args.named.now c.requires.named

pub numbers_by_name-requires-clause-classes : goal.numbers_by_name-requires-clause-classes
numbers_by_name-requires-clause-classes c = classes-in c.args.estate.now c.requires.few c.args.named.now c.requires.named c.items-2.result.now (c.items-2.ensures ∙ c.requires.numbers)

pub members_by_name-requires-clause-few : goal.members_by_name-requires-clause-few
members_by_name-requires-clause-few c = names-few c.args.estate.now c.requires.few c.args.named.now c.requires.named

pub members_by_name-requires-clause-pods : goal.members_by_name-requires-clause-pods
members_by_name-requires-clause-pods c =
    let made : c.items-3.result.now ≡ map (number_among c.args.named.now) c.items-2.result.now = c.items-3.ensures ∙ c.in_ok-numbers.ensures in
    numbers-few c.args.estate.now c.requires.few c.args.named.now c.requires.named c.items-2.result.now c.items-3.result.now (c.items-2.ensures ∙ c.requires.numbers) made c.requires.pods

pub members_by_name-requires-clause-within : goal.members_by_name-requires-clause-within
members_by_name-requires-clause-within c =
    let made : c.items-3.result.now ≡ map (number_among c.args.named.now) c.items-2.result.now = c.items-3.ensures ∙ c.in_ok-numbers.ensures in
    numbers-in c.args.estate.now c.requires.few c.args.named.now c.requires.named c.items-2.result.now c.items-3.result.now (c.items-2.ensures ∙ c.requires.numbers) made

pub members_by_name-requires-clause-names : goal.members_by_name-requires-clause-names
members_by_name-requires-clause-names c = names-ascend c.args.estate.now c.requires.few c.args.named.now c.requires.named

pub invariant_of-result : goal.invariant_of-result
invariant_of-result c =
    let made : c.items-3.result.now ≡ map (number_among c.args.named.now) c.items-2.result.now = c.items-3.ensures ∙ c.in_ok-numbers.ensures in
    let workloads = workloads-few c.args.estate.now c.requires.few c.args.named.now c.requires.named c.items-2.result.now c.items-3.result.now (c.items-2.ensures ∙ c.requires.numbers) made
    c.in_ok-by_name.by_name.entries c.in_ok-by_name.ensures in
    (workloads, kinds-few c.args.estate.now c.in_ok-kinds.kinds.firsts c.requires.few c.in_ok-kinds.ensures.firsts)

pub returns-clause-folded : goal.returns-clause-folded
returns-clause-folded c =
    let again : c.items-3.result.now ≡ map (number_among c.args.named.now) c.items-2.result.now = c.items-3.ensures ∙ c.in_ok-numbers.ensures in
    folding-is c.args.estate.now (map workload_of_entry c.in_ok-by_name.by_name.entries) c.in_ok-numbers.numbers c.in_ok-kinds.kinds.numbers c.in_ok-kinds.kinds.firsts c.args.relevant
    (workloads-made c.args.estate.now c.requires.few c.args.named.now c.requires.named c.items-2.result.now c.items-3.result.now (c.items-2.ensures ∙ c.requires.numbers) again
    c.in_ok-by_name.by_name.entries c.in_ok-by_name.ensures)
    (numbers-made c.args.estate.now c.requires.few c.args.named.now c.requires.named c.items-2.result.now c.in_ok-numbers.numbers (c.items-2.ensures ∙ c.requires.numbers) c.in_ok-numbers.ensures)
    c.in_ok-kinds.ensures.numbers
    c.in_ok-kinds.ensures.firsts
    c.requires.relevant
