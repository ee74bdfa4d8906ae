use Rattle.std.proofs.Common.{◌∙◌, ap, ◌||◌, ◌&&◌, ◌==◌, Bool}
use Rattle.std.proofs.lemmas.Result.{IfOk-weaker}
use Rattle.np_unused.proofs.FlagLemmas.{flag_in-set}
use Rattle.np_unused.proofs.flags.Flags.set.Goals as goal

pub returns : goal.returns
returns c =
    IfOk-weaker c.set_in_row.result _ _
    (λ _ sets p n. flag_in-set c.make_rows.new.rows.items c.args.policy c.args.place c.index_mut.result.now c.set_in_row.new.row c.in_ok-make_rows.ensures.there c.index_mut.ensures.value sets p n
    ∙ ap (λ (b : Bool). b || (p == c.args.policy && n == c.args.place)) (c.in_ok-make_rows.ensures.same p n))
    c.set_in_row.ensures
