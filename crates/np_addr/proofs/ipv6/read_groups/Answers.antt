use Rattle.std.proofs.Common.{sym, ap, ◌∙◌, rules}
use Rattle.np_addr.specs.Prelude.{at_most_eight}
use Rattle.np_addr.proofs.SideLemmas.{next_group, no_group, kept, too_many}
use Rattle.np_addr.proofs.ipv6.read_groups.Goals as goal

pub returns-in_err-read_group : goal.returns-in_err-read_group
returns-in_err-read_group c =
    let none = no_group c.args.dotted _ c.loop-piece.groups c.loop-piece.rest.now c.in-Some.piece.now c.in-Some.after.now c.loop-piece.invariant.2 c.in-Some.ensures.cut
    (sym c.in_err-read_group.ensures) in
    c.from_residual.ensures ∙ sym (ap at_most_eight none)

pub returns-in_err-groups : goal.returns-in_err-groups
returns-in_err-groups c =
    let more = next_group c.args.dotted _ c.loop-piece.groups c.loop-piece.rest.now c.in-Some.piece.now c.in-Some.after.now c.in_ok-read_group.field-0 c.loop-piece.invariant.2 c.in-Some.ensures.cut
    (sym c.in_ok-read_group.ensures) in
    c.from_residual-in_err-groups.ensures ∙ sym (ap at_most_eight more ∙ too_many _ _ (sym c.in_err-groups.ensures))

pub loop-piece-preserved : goal.loop-piece-preserved
loop-piece-preserved c =
    let more = next_group c.args.dotted _ c.loop-piece.groups c.loop-piece.rest.now c.in-Some.piece.now c.in-Some.after.now c.in_ok-read_group.field-0 c.loop-piece.invariant.2 c.in-Some.ensures.cut
    (sym c.in_ok-read_group.ensures) in
    let (same, room) = kept c.in_ok-groups.groups _ (sym c.in_ok-groups.ensures) in
    (search rules, room, rw same at more)
