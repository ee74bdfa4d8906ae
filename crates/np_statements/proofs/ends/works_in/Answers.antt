use Rattle.std.proofs.Common.{◌≡◌, ℕ, length, ap, sym, ◌∙◌, arith}
use Rattle.std.specs.Prelude.{filter}
use Rattle.std.specs.List.{range_with_len}
use Rattle.np_fold.specs.Prelude.{Folding}
use Rattle.np_statements.proofs.EndLemmas.{one_left, one_taken}
use Rattle.np_statements.specs.Prelude.{is_work_in_namespace}
use Rattle.np_statements.proofs.ends.works_in.Goals as goal
use Rattle.np_statements.proofs.ends.works_in.Goals.{then-is_in_namespace+in_ok-push, else-is_in_namespace}

pub loop-work-preserved : goal.loop-work-preserved
loop-work-preserved c =
    let test = is_work_in_namespace c.args.folded.now c.args.name.now in
    elim c.if-is_in_namespace.branch [
      | then-is_in_namespace+in_ok-push w ↦ w.works-is ∙ w.in_ok-push.ensures.ok ∙ one_taken test c.loop-work.work c.loop-work.works c.loop-work.invariant
          (sym c.is_in_namespace.ensures ∙ w.if-is_in_namespace.true)
      | else-is_in_namespace w ↦ w.works-is ∙ one_left test c.loop-work.work c.loop-work.works c.loop-work.invariant (sym c.is_in_namespace.ensures ∙ w.if-is_in_namespace.false)
    ]

pub returns : goal.returns
returns c =
    let end : c.loop-work.work ≡ c.count-work-end.result = omega arith in
    c.loop-work.invariant ∙ ap (λ (n : ℕ). filter (is_work_in_namespace c.args.folded.now c.args.name.now) (range_with_len 0 n))
    (end ∙ c.count-work-end.ensures ∙ ap (λ (folding : Folding). length folding.workloads) c.workloads.ensures.value)
