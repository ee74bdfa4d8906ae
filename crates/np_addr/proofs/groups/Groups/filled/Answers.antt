use Rattle.std.proofs.Common.{◌+◌, ◌-◌, ◌*◌, ◌^◌, ◌<◌, Some, sym, ap, ◌∙◌, arith}
use Rattle.std.proofs.Math.Nat.{mod-eq_of_lt}
use Rattle.np_addr.proofs.GroupLemmas.{filled_of-full, filled_of-room, filled_fits, filled_of-none}
use Rattle.np_addr.proofs.groups.Groups.filled.Goals as goal

pub returns-then-self-tail-ge8 : goal.returns-then-self-tail-ge8
returns-then-self-tail-ge8 c =
    rw (← c.self.view_is, ← c.tail.view_is) (sym (filled_of-full c.self.inside.count c.tail.inside.count c.self.inside.number c.tail.inside.number (omega arith)))

pub returns-then-self-eq0 : goal.returns-then-self-eq0
returns-then-self-eq0 c =
    rw (← c.self.view_is, ← c.tail.view_is) (sym (filled_of-none c.self.inside.count c.tail.inside.count c.self.inside.number c.tail.inside.number
    (omega arith) c.if-self-eq0.true c.self.invariant.1 c.tail.invariant.1))

pub overflow_add-result : goal.overflow_add-result
overflow_add-result c =
    let fits = filled_fits c.self.inside.count c.tail.inside.count c.self.inside.number c.tail.inside.number (omega arith) c.self.invariant.1 c.tail.invariant.1 in
    let whole : c.self.inside.number * 2 ^ (16 * (8 - c.self.inside.count)) < 2 ^ 128 = omega arith in
    omega (arith, fits, mod-eq_of_lt whole)

pub returns : goal.returns
returns c =
    let fits = filled_fits c.self.inside.count c.tail.inside.count c.self.inside.number c.tail.inside.number (omega arith) c.self.invariant.1 c.tail.invariant.1 in
    let whole : c.self.inside.number * 2 ^ (16 * (8 - c.self.inside.count)) < 2 ^ 128 = omega arith in
    rw (← c.self.view_is, ← c.tail.view_is)
    (ap (λ high. Some (high + c.tail.inside.number)) (mod-eq_of_lt whole)
    ∙ sym (filled_of-room c.self.inside.count c.tail.inside.count c.self.inside.number c.tail.inside.number (omega arith) c.self.invariant.1 c.tail.invariant.1))
