use Rattle.std.proofs.Common.{◌≡◌, Some, map, ◌∙◌}
use Rattle.std.proofs.lemmas.Result.{IfOk-weaker}
use Rattle.np_fold.specs.Prelude.{first_pods, kind_at, named_first_pods}
use Rattle.np_fold.proofs.FoldLemmas.{firsts-in, kinds-firsts, kinds-numbers, named-in}
use Rattle.np_fold.proofs.kinds.kinds_of_workloads.Goals as goal

pub traits_by_name-requires-clause-firsts : goal.traits_by_name-requires-clause-firsts
traits_by_name-requires-clause-firsts c = firsts-in c.args.estate.now c.pods.result.now c.args.firsts.now c.pods.ensures c.requires.firsts

pub traits_by_name-requires-clause-named : goal.traits_by_name-requires-clause-named
traits_by_name-requires-clause-named c = named-in c.args.estate.now c.args.firsts.now c.args.named.now c.requires.firsts c.requires.named

-- the traits are those of the first pods, in the order of the names
traits-are : (c : goal.After-of) →
    map Some c.into_vec.result.items ≡ map (kind_at c.args.keys.now c.args.cidrs.now c.args.estate.now.pods (first_pods c.args.estate.now)) (named_first_pods c.args.estate.now)
traits-are c = cc (c.into_vec.ensures, c.in_ok-traits.ensures, c.requires.firsts, c.requires.named, c.pods.ensures)

pub returns-clause-firsts : goal.returns-clause-firsts
returns-clause-firsts c = IfOk-weaker c.of.result _ _ (λ made is. is ∙ kinds-firsts c.args.estate.now c.args.keys.now c.requires.keys c.args.cidrs.now c.requires.cidrs c.into_vec.result.items
    (traits-are c)) c.of.ensures.firsts

pub returns-clause-numbers : goal.returns-clause-numbers
returns-clause-numbers c = IfOk-weaker c.of.result _ _ (λ made is. is ∙ kinds-numbers c.args.estate.now c.args.keys.now c.requires.keys c.args.cidrs.now c.requires.cidrs c.into_vec.result.items
    (traits-are c)) c.of.ensures.numbers
