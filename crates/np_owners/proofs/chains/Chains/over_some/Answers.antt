use Rattle.std.proofs.Common.{length, arith, sym, ap, ◌∙◌, ◌≡◌}
use Rattle.std.proofs.lemmas.List.{with_items_is}
use Rattle.np_owners.specs.Prelude.{is_over_some}
use Rattle.np_owners.proofs.ChainPlaces.{start_step, over_other, marks_are}
use Rattle.np_owners.proofs.chains.Chains.over_some.Goals as goal
use Rattle.np_owners.proofs.chains.Chains.over_some.Goals.{then-is_start, else-is_start}

pub loop-place-preserved : goal.loop-place-preserved
loop-place-preserved c =
    let ups = c.args.self.now in
    let starts = c.args.starts.now in
    let so_far = c.loop-place.invariant in
    elim c.if-is_start.branch [
      | then-is_start w ↦
          let same = w.deref.ensures.value ∙ c.self.view_is in
          let long = w.mark_chain.auto.marks ∙ ap length w.deref_mut.ensures.value in
          let written : c.if-is_start.marks.items ≡ w.mark_chain.new.marks = rw w.marks-is (with_items_is c.loop-place.marks w.mark_chain.new.marks (long ∙ sym c.loop-place.marks.ok.0)) in
          rw written (
            long ∙ so_far.0,
            start_step ups w.deref.result.now same starts c.loop-place.marks.items w.deref_mut.result.now w.mark_chain.new.marks w.deref_mut.ensures.value c.loop-place.place w.if-is_start.true
                w.mark_chain.ensures so_far.1,
          )
      | else-is_start w ↦ rw w.marks-is (so_far.0, λ above below. so_far.1 above below ∙ sym (over_other ups starts c.loop-place.place above w.if-is_start.false))
    ]

pub returns : goal.returns
returns c =
    let ups = c.args.self.now in
    let so_far = c.loop-place.invariant in
    let ends : c.loop-place.place ≡ length ups = omega (arith, c.requires) in
    marks_are (is_over_some ups c.args.starts.now) ups c.loop-place.marks.items so_far.0 (rw ends at so_far.1)
