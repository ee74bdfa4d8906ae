use Rattle.std.proofs.Common.{◌&&◌, sym, ◌∙◌}
use Rattle.std.proofs.lemmas.Result.{IfOk-weaker}
use Rattle.np_unused.proofs.NoteLemmas.{noted_after, tier_known, tier_noted}
use Rattle.np_unused.specs.Prelude.{first_at, hands_down}
use Rattle.np_unused.proofs.first_rules.note_tier.Goals as goal

pub note_head-requires : goal.note_head-requires
note_head-requires g c = rw c.deref.ensures.value c.in_ok-rules.ensures.some

pub returns-then-are_known : goal.returns-then-are_known
returns-then-are_known g c =
    let has = g.S.Cells.has in
    let rules = c.in_ok-rules.rules.items in
    let first = λ (spot : g.row.S-Spot.Denot). first_at (λ part. has (g.P.HasSet.set_of part) spot) c.args.parts.now c.args.ids.now in
    let left = λ (spot : g.row.S-Spot.Denot). g.S.Cells.in_space spot && hands_down (λ set. has set spot) c.args.above in
    noted_after has rules first c.in_ok-rules.ensures.first left c.args.flags.now c.note_head.new.flags c.note_head.new.flags c.in_ok-note_head.ensures.grows
    (rw (c.deref.ensures.value, c.items.ensures) at c.in_ok-note_head.ensures.only)
    (tier_known has rules first c.in_ok-rules.ensures.first left c.note_head.new.flags (rw c.deref-2.ensures.value at (sym c.are_known.ensures ∙ c.if-are_known.true)))

pub returns : goal.returns
returns g c =
    let has = g.S.Cells.has in
    let rules = c.in_ok-rules.rules.items in
    let first = λ (spot : g.row.S-Spot.Denot). first_at (λ part. has (g.P.HasSet.set_of part) spot) c.args.parts.now c.args.ids.now in
    let hands = λ (spot : g.row.S-Spot.Denot). hands_down (λ set. has set spot) c.args.above in
    IfOk-weaker c.note_firsts.result _ _
    (λ _ noted.
    noted_after has rules first c.in_ok-rules.ensures.first (λ spot. g.S.Cells.in_space spot && hands spot) c.args.flags.now c.note_head.new.flags c.note_firsts.new.flags
    c.in_ok-note_head.ensures.grows
    (rw (c.deref.ensures.value, c.items.ensures) at c.in_ok-note_head.ensures.only)
    (tier_noted has rules first c.in_ok-rules.ensures.first g.S.Cells.in_space hands c.in_ok-left.left c.in_ok-left.ensures.members
    (λ spot. g.met.S.Cells.members_in_space c.in_ok-left.left spot c.in_ok-left.ensures.well) c.note_head.new.flags c.note_firsts.new.flags (rw c.deref-3.ensures.value at noted)))
    c.note_firsts.ensures
