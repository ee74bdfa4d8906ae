use Rattle.std.proofs.Common.{arith, ap, length}
use Rattle.std.proofs.lemmas.Option.{slice_get_within}
use Rattle.np_unused.proofs.FindLemmas.{finds_all}
use Rattle.np_unused.proofs.StepLemmas.{knows_kind_grows, more_searched, none_searched, nothing_sound}
use Rattle.np_unused.proofs.search.used_rules.Goals as goal
use Rattle.np_unused.specs.Prelude.{KnowsKind, KnowsSides}

pub loop-near-init : goal.loop-near-init
loop-near-init c = none_searched c.args.folded.now c.args.direction (KnowsKind c.args.folded.now c.args.direction c.deref.result.now) c.none-used.result

pub search_near-requires-clause-kinds : goal.search_near-requires-clause-kinds
search_near-requires-clause-kinds c = record {
  lawful = rw c.estate.ensures.value c.estate.ensures.lawful;
  pods = rw (c.estate.ensures.value, c.deref.ensures.value) c.in_ok-pods.ensures;
  reach = rw c.estate.ensures.value c.requires.reach;
}

pub search_near-requires-clause-before : goal.search_near-requires-clause-before
search_near-requires-clause-before c = rw c.estate.ensures.value c.loop-near.invariant.finds

pub loop-near-preserved : goal.loop-near-preserved
loop-near-preserved c =
    let folded = c.args.folded.now in
    let kinds = c.deref.result.now in
    more_searched folded c.args.direction (KnowsKind folded c.args.direction kinds) (knows_kind_grows folded c.args.direction kinds) c.loop-near.near c.none-used.result c.loop-near.used
    c.search_near.new.used c.loop-near.invariant (rw c.estate.ensures.value at c.in_ok-search_near.ensures)

pub returns : goal.returns
unfolding KnowsSides
returns c =
    let folded = c.args.folded.now in
    let kinds = c.deref.result.now in
    let searched = c.loop-near.invariant in
    finds_all folded c.estate.ensures.lawful kinds (rw c.deref.ensures.value c.in_ok-pods.ensures) c.args.direction c.loop-near.used
    (searched.sound (nothing_sound folded c.args.direction c.none-used.result c.none-used.ensures))
    (λ near one at. searched.finds near (omega (arith, slice_get_within kinds near one at, ap length c.deref.ensures.value, c.len-near-end.ensures, c.loop-near-test.false, c.in_ok-pods.pods.ok)) one at)
