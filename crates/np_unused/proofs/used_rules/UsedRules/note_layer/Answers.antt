use Rattle.std.proofs.Common.{refl}
use Rattle.std.proofs.lemmas.Result.{IfOk-weaker}
use Rattle.np_unused.proofs.KnownLemmas.{isolated_noted, open_noted}
use Rattle.np_unused.proofs.used_rules.UsedRules.note_layer.Goals as goal
use Rattle.np_unused.specs.Prelude.{UsedRules}

pub returns-then-isolated : goal.returns-then-isolated
returns-then-isolated g c =
    let new : UsedRules = record { admin = c.note_tier.new.flags; net = c.note_tier-then-isolated.new.flags; base = c.args.self.now.base } in
    let admin = rw (c.new-none.ensures, c.items.ensures, c.items-2.ensures) at c.in_ok-note_tier.ensures in
    IfOk-weaker c.note_tier-then-isolated.result _ _
    (λ _ noted. isolated_noted g.S.Cells.has g.S.Cells.in_space c.args.layer c.args.rules.now c.args.self.now new admin c.if-isolated.true
    (rw (c.items-then-isolated.ensures, c.items-then-isolated-2.ensures) at noted) refl)
    c.note_tier-then-isolated.ensures

pub returns : goal.returns
returns g c =
    let new : UsedRules = record { admin = c.note_tier.new.flags; net = c.args.self.now.net; base = c.note_tier-else-isolated.new.flags } in
    let admin = rw (c.new-none.ensures, c.items.ensures, c.items-2.ensures) at c.in_ok-note_tier.ensures in
    IfOk-weaker c.note_tier-else-isolated.result _ _
    (λ _ noted. open_noted g.S.Cells.has g.S.Cells.in_space c.args.layer c.args.rules.now c.args.self.now new admin c.if-isolated.false
    (rw (c.items-else-isolated.ensures, c.items-else-isolated-2.ensures) at noted) refl)
    c.note_tier-else-isolated.ensures
