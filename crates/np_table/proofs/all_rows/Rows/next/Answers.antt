use Rattle.std.proofs.Common.{◌≡◌, length, reverse, arith, sym, ap, subst, ◌∙◌}
use Rattle.std.proofs.lemmas.Bool.{eqb-true}
use Rattle.np_fold.specs.Prelude.{folding_of}
use Rattle.np_table.proofs.DueLemmas.{due_from-over, over-within}
use Rattle.np_table.proofs.PlaceLemmas.{made-ready, nothing-left, passed-over}
use Rattle.np_table.proofs.SetLemmas.{OnErr-from}
use Rattle.np_table.proofs.all_rows.Rows.next.Goals as goal
use Rattle.np_table.specs.Prelude.{EstateLists, IsOfSameSource, RowsToCome, estate_table, rows_from}
use Rattle.np_kinds.specs.Prelude.{IsKindReach, number_of_workloads}

pub returns-then-self-clause-given : goal.returns-then-self-clause-given
returns-then-self-clause-given g c =
    let empty : length c.loop-folded.self-inside.ready.items ≡ 0 = omega
    (arith, c.loop-folded.self-inside.ready.ok, eqb-true c.loop-folded.self-inside.ready.len 0 (sym c.is_empty.ensures ∙ c.loop-folded-test.true)) in
    nothing-left c.loop-folded.self-inside.sides.lists (folding_of c.loop-folded.self-inside.sides.lists) c.loop-folded.self-inside.ready.items c.args.self.now.rows c.loop-folded.self-inside.place
    c.loop-folded.self-inside.end empty (omega arith) c.loop-folded.invariant.under_way.last c.loop-folded.invariant.to_come

pub loop-folded-init : goal.loop-folded-init
loop-folded-init g c = record {
  to_come = ap (λ (to_come : RowsToCome). to_come.rows) c.self.view_is;
  under_way = c.self.invariant.0;
  lists = c.folded-folded.ensures;
  reach = subst (λ (lists : EstateLists). IsKindReach lists c.ask_reach.new.reach) c.folded-folded.ensures c.ask_reach.ensures;
  known = c.self.invariant.2;
  counted = omega (arith, ap (λ (to_come : RowsToCome). to_come.due) c.self.view_is);
  least = omega arith;
}

pub loop-folded-preserved : goal.loop-folded-preserved
loop-folded-preserved g c =
    let lists = c.loop-folded.self-inside.sides.lists in
    let folding = folding_of lists in
    let empty : length c.loop-folded.self-inside.ready.items ≡ 0 = omega
    (arith, c.loop-folded.self-inside.ready.ok, eqb-true c.loop-folded.self-inside.ready.len 0 (sym c.is_empty.ensures ∙ c.loop-folded-test.true)) in
    let same : IsOfSameSource (number_of_workloads lists) c.loop-folded.self-inside.place c.pass_over-self-inside.result =
    subst (λ (l : EstateLists). IsOfSameSource
    (number_of_workloads l) c.loop-folded.self-inside.place c.pass_over-self-inside.result) c.loop-folded.invariant.lists c.pass_over-self-inside.ensures.source in
    let rows : rows_from (estate_table lists) c.pass_over-self-inside.result ≡ rows_from (estate_table lists) c.loop-folded.self-inside.place =
    subst (λ (l : EstateLists). rows_from (estate_table l) c.pass_over-self-inside.result ≡ rows_from (estate_table l) c.loop-folded.self-inside.place) c.loop-folded.invariant.lists
    c.pass_over-self-inside.ensures.rows in
    let within = over-within (length folding.workloads) c.loop-folded.self-inside.place c.pass_over-self-inside.result same (omega (arith, c.loop-folded.invariant.under_way.last)) in
    record {
      to_come = rw c.in_ok-rows.ensures.lists
          (made-ready lists folding c.loop-folded.self-inside.ready.items c.in_reverse.result.items c.args.self.now.rows c.pass_over-self-inside.result empty within
          (c.in_reverse.ensures ∙ ap reverse c.in_ok-rows.ensures.rows)
          (passed-over lists folding c.loop-folded.self-inside.ready.items c.args.self.now.rows c.loop-folded.self-inside.place c.pass_over-self-inside.result rows c.loop-folded.invariant.to_come));
      under_way = rw c.in_ok-rows.ensures.lists (record {
        last = c.loop-folded.invariant.under_way.last;
        within = omega (arith, within, c.loop-folded.invariant.under_way.last);
        fits = c.loop-folded.invariant.under_way.fits;
        few = c.in_ok-rows.ensures.few;
        keeps = c.in_ok-rows.ensures.kept;
      });
      lists = c.loop-folded.invariant.lists ∙ sym c.in_ok-rows.ensures.lists;
      reach = rw c.in_ok-rows.ensures.lists c.loop-folded.invariant.reach;
      known = c.in_ok-rows.ensures.known ∙ c.loop-folded.invariant.known ∙ sym c.in_ok-rows.ensures.lists;
      counted = rw c.in_ok-rows.ensures.lists (omega (
        arith,
        c.in_ok-rows.ensures.counted,
        c.loop-folded.invariant.counted,
        due_from-over lists folding c.loop-folded.self-inside.place c.pass_over-self-inside.result c.loop-folded.self-inside.cache same,
      ));
      least = omega (arith, c.in_ok-rows.ensures.least, c.loop-folded.invariant.least);
    }

pub returns-in_err-rows-clause-most : goal.returns-in_err-rows-clause-most
returns-in_err-rows-clause-most g c =
    let lists = c.loop-folded.self-inside.sides.lists in
    let same : IsOfSameSource (number_of_workloads lists) c.loop-folded.self-inside.place c.pass_over-self-inside.result =
    subst (λ (l : EstateLists). IsOfSameSource
    (number_of_workloads l) c.loop-folded.self-inside.place c.pass_over-self-inside.result) c.loop-folded.invariant.lists c.pass_over-self-inside.ensures.source in
    let due = due_from-over lists (folding_of lists) c.loop-folded.self-inside.place c.pass_over-self-inside.result c.loop-folded.self-inside.cache same in
    OnErr-from c.from_residual-in_err-rows.result _ (omega (arith, due, c.in_err-rows.ensures.most, c.loop-folded.invariant.counted))
