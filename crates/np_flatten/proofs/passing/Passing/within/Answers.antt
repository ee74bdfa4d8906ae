use Rattle.std.proofs.Common.{None, Some, ap, ◌∙◌, if◌then◌else◌}
use Rattle.std.proofs.lemmas.Result.{IfOk-weaker}
use Rattle.np_flatten.specs.Prelude.{EstateLists, Family, family_of_list, set_in}
use Rattle.np_fold.specs.Prelude.{folding_of}
use Rattle.np_flatten.proofs.passing.Passing.within.Goals as goal
use Rattle.np_kinds.specs.Prelude.{is_alone}

pub returns : goal.returns
unfolding set_in
returns c =
    let own = λ (l : EstateLists) (f : Family). if is_alone (folding_of l) c.args.workload c.args.workload then None else Some (set_in l f c.args.workload c.args.workload) in
    IfOk-weaker c.pair_set.result _ _ (λ made is.
    is ∙ ap (own c.folded-folded.result.now) c.first_family-family.ensures ∙ ap (λ (l : EstateLists). own l (family_of_list l)) c.folded-folded.ensures) c.pair_set.ensures.set
