use Rattle.std.proofs.Common.{Bool, ap, ◌∙◌}
use Rattle.np_tiers.specs.Prelude.{mark_if, mark_of}
use Rattle.np_tiers.proofs.Exact.{exact_entry}
use Rattle.np_tiers.proofs.carving.carve.Goals as goal

pub returns-clause-exact : goal.returns-clause-exact
returns-clause-exact g c =
    let made = c.in_ok-entries.ensures in
    rw c.from_vec.ensures
    (λ k d below spot.
    let mark = mark_of (λ set. g.S.Cells.has set spot) c.args.layer.now in
    exact_entry (λ set. g.S.Cells.has set spot) c.in_ok-entries.entries.items (g.S.Cells.in_space spot) mark
    (made.marks spot ∙ ap (λ (inside : Bool). mark_if inside mark) (c.in_ok-space.ensures.members spot)) made.entries.distinct k d below)

pub returns-clause-some_spot : goal.returns-clause-some_spot
returns-clause-some_spot g c = rw c.from_vec.ensures c.in_ok-entries.ensures.entries.some_spot
