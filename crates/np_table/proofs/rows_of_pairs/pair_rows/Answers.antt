use Rattle.std.proofs.Common.{ap, sym, ◌∙◌}
use Rattle.std.proofs.lemmas.Result.{IfOk-weaker}
use Rattle.np_table.specs.Prelude.{EstateLists, Family, RowKey, rows_in}
use Rattle.np_conns.specs.Prelude.{conns_of}
use Rattle.np_model.specs.Prelude.{families_of}
use Rattle.np_fold.specs.Prelude.{folding_of}
use Rattle.np_table.proofs.KindLemmas.{pair_rows-alone}
use Rattle.np_table.proofs.SideLemmas.{ends-are, ends-both, ends-none, ends-rows}
use Rattle.np_table.proofs.rows_of_pairs.pair_rows.Goals as goal
use Rattle.np_kinds.specs.Prelude.{between_pods}

pub rows_between-requires : goal.rows_between-requires
rows_between-requires c =
    let both = ends-are c.args.folded.now c.args.source c.args.destination c.in-Some.ends (sym c.in-Some.is ∙ c.in_ok-ends.ensures.ends) in
    ends-both c.args.folded.now c.args.source c.args.destination c.in-Some.ends both.1

pub returns-in_default : goal.returns-in_default
returns-in_default c =
    c.new.ensures ∙ pair_rows-alone c.args.folded.now (folding_of c.args.folded.now) c.args.source c.args.destination
    (ends-none c.args.folded.now c.args.source c.args.destination (sym c.in_default.is ∙ c.in_ok-ends.ensures.ends))

pub returns : goal.returns
returns c =
    let both = ends-are c.args.folded.now c.args.source c.args.destination c.in-Some.ends (sym c.in-Some.is ∙ c.in_ok-ends.ensures.ends) in
    let families = c.families-families.ensures ∙ ap (λ (lists : EstateLists). families_of lists.pods) c.estate.ensures.value in
    IfOk-weaker c.rows_between.result _ _ (λ made is.
    is
    ∙ ap (λ (key : RowKey). rows_in c.families-families.result.now key
    (λ (family : Family). conns_of (between_pods c.in-Some.ends.sender.lists c.in-Some.ends.sender.pod c.in-Some.ends.receiver.pod family))) c.pair_key-key.ensures
    ∙ ends-rows c.args.folded.now c.args.source c.args.destination c.in-Some.ends c.families-families.result.now families both.0 both.1) c.rows_between.ensures
