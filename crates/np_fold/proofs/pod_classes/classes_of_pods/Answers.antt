use Rattle.std.proofs.Common.{◌≡◌, map, ◌∙◌}
use Rattle.std.proofs.lemmas.Result.{IfOk-weaker}
use Rattle.np_fold.specs.Prelude.{traits_of}
use Rattle.np_fold.proofs.FoldLemmas.{classes-firsts, classes-numbers}
use Rattle.np_fold.proofs.pod_classes.classes_of_pods.Goals as goal

-- the traits are those of the pods of the estate
traits-are : (c : goal.After-of) → c.into_vec.result.items ≡ map (traits_of c.args.keys.now c.args.cidrs.now) c.args.estate.now.pods
traits-are c = cc (c.into_vec.ensures, c.in_ok-traits.ensures, c.pods.ensures)

pub returns-clause-firsts : goal.returns-clause-firsts
returns-clause-firsts c = IfOk-weaker c.of.result _ _ (λ made is. is ∙ classes-firsts c.args.estate.now c.args.keys.now c.requires.keys c.args.cidrs.now c.requires.cidrs c.into_vec.result.items
    (traits-are c)) c.of.ensures.firsts

pub returns-clause-numbers : goal.returns-clause-numbers
returns-clause-numbers c = IfOk-weaker c.of.result _ _ (λ made is. is ∙ classes-numbers c.args.estate.now c.args.keys.now c.requires.keys c.args.cidrs.now c.requires.cidrs c.into_vec.result.items
    (traits-are c)) c.of.ensures.numbers
