use Rattle.std.proofs.Common.{◌≡◌, ◌<◌, length, arith, sym, ap, ◌∙◌}
use Rattle.np_classes.proofs.Lists.{any_place}
use Rattle.np_fold.specs.Prelude.{Folding}
use Rattle.np_flatten.proofs.DifferLemmas.{none_more}
use Rattle.np_flatten.proofs.differ.differ_at_some.Goals as goal
use Rattle.np_flatten.specs.Prelude.{EstateLists, differ_at}
use Rattle.np_kinds.specs.Prelude.{number_of_workloads}

pub returns-then-branch-clause-answer : goal.returns-then-branch-clause-answer
returns-then-branch-clause-answer c =
    let lists = c.args.passing.now in
    let third = c.loop-third.third in
    let count : c.count-third-end.result ≡ number_of_workloads lists = c.count-third-end.ensures ∙ ap (λ (f : Folding). length f.workloads) c.workloads.ensures.value
    ∙ ap number_of_workloads c.folded.ensures in
    let within : third < number_of_workloads lists = omega (arith, c.loop-third-test.true, count) in
    let told = c.in_ok-differ_at.ensures.answer ∙ ap (λ (l : EstateLists). differ_at l c.args.a c.args.b third) c.loop-third.invariant.same in
    sym (any_place (differ_at lists c.args.a c.args.b) (number_of_workloads lists) third within (sym told ∙ c.if-branch.true))

pub loop-third-preserved : goal.loop-third-preserved
loop-third-preserved c =
    let lists = c.args.passing.now in
    let third = c.loop-third.third in
    let told = c.in_ok-differ_at.ensures.answer ∙ ap (λ (l : EstateLists). differ_at l c.args.a c.args.b third) c.loop-third.invariant.same in
    record {
      same = c.in_ok-differ_at.ensures.same ∙ c.loop-third.invariant.same;
      none = none_more (differ_at lists c.args.a c.args.b) third c.loop-third.invariant.none (sym told ∙ c.if-branch.false);
    }
