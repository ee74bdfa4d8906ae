use Rattle.std.proofs.Common.{sym, arith}
use Rattle.np_addr.proofs.GroupLemmas.{push_fits, push_fits_all, at_most_eight-room}
use Rattle.np_addr.proofs.groups.Groups.push.Goals as goal

pub overflow_mul-result : goal.overflow_mul-result
overflow_mul-result c =
    omega (arith, push_fits_all c.self.inside.count c.self.inside.number 0 (omega arith) c.self.invariant.1 (omega arith))

pub overflow_add-result-2 : goal.overflow_add-result-2
overflow_add-result-2 c =
    omega (arith, push_fits_all c.self.inside.count c.self.inside.number c.from.result (omega arith) c.self.invariant.1 (omega arith))

pub invariant_of-result : goal.invariant_of-result
invariant_of-result c = (omega arith, push_fits c.self.inside.count c.self.inside.number c.from.result c.self.invariant.1 (omega arith))

pub returns : goal.returns
returns c =
    rw (← c.self.view_is, ← c.from.ensures)
    (sym (at_most_eight-room c.self.inside.count c.self.inside.number c.from.result (omega arith) (omega arith)))
