use Rattle.std.proofs.Common.{◌≡◌, ◌∙◌, sym, arith}
use Rattle.np_reading.specs.Prelude.{context_at}
use Rattle.np_reading.proofs.CountLemmas.{length-makers, maker_at}
use Rattle.np_reading.proofs.EndLemmas.{length-top_owners, owner_at, context_there, context_none, contexts-more}
use Rattle.np_reading.proofs.context.contexts.Goals as goal
use Rattle.np_reading.proofs.context.contexts.Goals.{then-gives_end+in_ok-context, else-gives_end}

pub bounds-makers-place : goal.bounds-makers-place
bounds-makers-place c =
    let long = length-makers c.args.items.now c.args.makers.now c.requires.makers in
    omega (arith, long, c.loop-place-test.true)

pub bounds-owners-place : goal.bounds-owners-place
bounds-owners-place c =
    let long = length-top_owners c.args.items.now c.args.owners.now c.requires.owners in
    omega (arith, long, c.loop-place-test.true)

pub loop-place-preserved : goal.loop-place-preserved
loop-place-preserved c =
    let items = c.args.items.now in
    let place = c.loop-place.place in
    let one = c.index-items-place.result in
    let within = c.loop-place-test.true in
    let marked = maker_at items c.args.makers.now place _ c.requires.makers within in
    let here : c.if-gives_end.context ≡ context_at items place one =
    elim c.if-gives_end.branch [
      | then-gives_end+in_ok-context w ↦
          let owner = owner_at items c.args.owners.now place w.index-owners-place.result c.requires.owners within in
          w.context-is ∙ context_there items place one _ _ _ (sym c.gives_end.ensures ∙ w.if-gives_end.true) marked (w.index-owners-place.is ∙ owner) w.in_ok-context.ensures.context
      | else-gives_end w ↦ w.context-is ∙ context_none items place one _ (sym c.gives_end.ensures ∙ w.if-gives_end.false) marked
    ] in
    record {
      contexts = contexts-more items place one _ c.loop-place.made.items c.push.new.self.items within c.index-items-place.is here c.in_ok-push.ensures.items c.loop-place.invariant.contexts;
      known = elim c.if-gives_end.branch [ then-gives_end+in_ok-context w ↦ rw w.known-is w.in_ok-context.ensures.known | else-gives_end w ↦ rw w.known-is c.loop-place.invariant.known ];
    }
