use Rattle.std.proofs.Common.{sym}
use Rattle.np_addr.proofs.GroupLemmas.{whole_of-fewer}
use Rattle.np_addr.proofs.groups.Groups.whole.Goals as goal

pub returns-else-self-eq8 : goal.returns-else-self-eq8
returns-else-self-eq8 c = rw (← c.self.view_is) (sym (whole_of-fewer c.self.inside.count c.self.inside.number c.if-self-eq8.false))
