use Rattle.std.proofs.Common.{◌≡◌, true, get_or, inl, inr, sym, ◌∙◌, ap}
use Rattle.std.proofs.lemmas.List.{take_all}
use Rattle.std.proofs.lemmas.List.Elements.{All-push}
use Rattle.std.proofs.lemmas.Option.{slice_get-get_or, slice_get_past}
use Rattle.np_unused.proofs.FirstLemmas.{part_passed, part_pushed}
use Rattle.np_unused.specs.Prelude.{RuleId, RuleSpots, first_at}
use Rattle.np_unused.proofs.rule_spots.rules_with_spots.Goals as goal
use Rattle.np_unused.proofs.rule_spots.rules_with_spots.Goals.{then-place-ids+then-not-is_empty+in_ok-push, else-place-ids, else-place-ids-via-then-place-ids+else-not-is_empty, else-place-ids-via-else-place-ids}

pub loop-place-preserved : goal.loop-place-preserved
loop-place-preserved g c = record {
  some = elim c.if-place-ids.branch [
    | then-place-ids+then-not-is_empty+in_ok-push w ↦ rw (w.made-is, w.in_ok-push.ensures.items)
        (All-push (λ (one : RuleSpots g.row.S.Denot). (spot : g.row.S-Spot.Denot) × (g.S.Cells.in_space spot ≡ true) × (g.S.Cells.has one.set.now spot ≡ true)) c.loop-place.made.items
        (record { rule = get_or c.args.ids.now c.loop-place.place (record { policy = 0; place = 0 }); set = c.set-set.result }) c.loop-place.invariant.some
        (let filled = w.if-not-is_empty.ensures.answer in (filled.0, g.met.S.Cells.members_in_space c.set-set.result.now filled.0 w.if-not-is_empty.ensures.well filled.1, filled.1)))
    | else-place-ids w ↦ rw w.made-is c.loop-place.invariant.some
  ];
  first = λ spot.
      let none : RuleId = record { policy = 0; place = 0 } in
      let i = c.loop-place.place in
      let at = λ (set : g.row.S.Denot). g.S.Cells.has set spot in
      let before = c.loop-place.invariant.first spot in
      elim c.if-place-ids.branch [
        | then-place-ids+then-not-is_empty+in_ok-push w ↦ rw w.made-is
            (part_pushed at g.P.HasSet.set_of c.args.parts.now c.args.ids.now i c.index-parts-place.result c.loop-place-test.true c.index-parts-place.is c.loop-place.made.items before
            (record { rule = get_or c.args.ids.now i none; set = c.set-set.result }) w.push.new.self.items
            (slice_get-get_or c.args.ids.now i none w.if-place-ids.true) c.set-set.ensures w.in_ok-push.ensures.items)
        | else-place-ids w ↦ rw w.made-is (part_passed at g.P.HasSet.set_of c.args.parts.now c.args.ids.now i c.index-parts-place.result c.loop-place-test.true c.index-parts-place.is
            c.loop-place.made.items before (elim w.else-place-ids.branch [
              | else-place-ids-via-then-place-ids+else-not-is_empty v ↦ inr
                  (sym (ap at c.set-set.ensures) ∙ v.if-not-is_empty.ensures.answer spot)
              | else-place-ids-via-else-place-ids v ↦ inl (slice_get_past c.args.ids.now i v.if-place-ids.false)
            ]))
      ];
}

pub returns-clause-first : goal.returns-clause-first
returns-clause-first g c = λ spot. c.loop-place.invariant.first spot ∙ ap (λ parts. first_at (λ part. g.S.Cells.has (g.P.HasSet.set_of part) spot) parts c.args.ids.now)
    (take_all c.loop-place.place c.args.parts.now c.loop-place-test.false)
