use Rattle.std.proofs.Common.{ap, ◌∙◌, arith, refl}
use Rattle.std.specs.List.{list_any}
use Rattle.std.proofs.lemmas.Bool.{OnTrue_at}
use Rattle.std.proofs.lemmas.List.{take_all}
use Rattle.np_rules.proofs.PortNameLemmas.{any_kept-next, any_left-next}
use Rattle.np_rules.specs.Prelude.{end_view}
use Rattle.np_rules.proofs.port_sets.entries_toward.Goals as goal
use Rattle.np_rules.proofs.port_sets.entries_toward.Goals.{then-not-names_no_port+in_ok-push, else-not-names_no_port}

pub loop-entry-preserved : goal.loop-entry-preserved
loop-entry-preserved g c = λ spot.
    elim c.if-not-names_no_port.branch [
      | then-not-names_no_port+in_ok-push w ↦ rw w.made-is (any_kept-next (λ entry. g.E.PortEntry.matches entry.now (end_view c.args.destination.now) spot)
          (λ entry. g.E.PortEntry.matches entry (end_view c.args.destination.now) spot) c.loop-entry.made.items _ _ c.args.entries.now c.loop-entry.entry-index c.entry-item.result
          c.loop-entry-test.true c.entry-item.is w.in_ok-push.ensures.items refl (c.loop-entry.invariant spot))
      | else-not-names_no_port w ↦ rw w.made-is (any_left-next (λ entry. g.E.PortEntry.matches entry.now (end_view c.args.destination.now) spot)
          (λ entry. g.E.PortEntry.matches entry (end_view c.args.destination.now) spot) c.loop-entry.made.items c.args.entries.now c.loop-entry.entry-index c.entry-item.result
          c.loop-entry-test.true c.entry-item.is (OnTrue_at w.if-not-names_no_port.false c.names_no_port.ensures spot) (c.loop-entry.invariant spot))
    ]

pub returns : goal.returns
returns g c = λ spot. c.loop-entry.invariant spot
    ∙ ap (list_any (λ entry. g.E.PortEntry.matches entry (end_view c.args.destination.now) spot)) (take_all c.loop-entry.entry-index c.args.entries.now (omega arith))
