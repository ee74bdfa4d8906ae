use Rattle.std.proofs.Common.{refl}
use Rattle.np_exposure.proofs.mentions.add_named.Goals as goal

pub returns : goal.returns
returns c = rw (c.in_ok-push.ensures.items, c.in_ok-requirement.ensures, c.in_ok-key.ensures, c.in_ok-of.ensures) refl
