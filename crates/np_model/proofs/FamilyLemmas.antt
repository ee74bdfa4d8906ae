-- Families of addresses. For crates above.
use Rattle.std.proofs.Common.{◌≡◌, true, refl}
use Rattle.np_model.specs.Prelude.{Family, Four, Six, same_family}

pub same_family-itself : (family : Family) → same_family family family ≡ true
same_family-itself Four = refl
same_family-itself Six = refl
