-- Protocols. For `named_at`.
use Rattle.std.proofs.Common.{◌≡◌, ◌&&◌, ◌||◌, Bool, true, false, refl}
use Rattle.np_conns.specs.Prelude.{same_proto}
use Rattle.np_rules.specs.Prelude.{Proto}
use Rattle.np_conns.specs.declared.proto.Proto.TheVariants.{Sctp, Tcp, Udp}

-- each protocol is one of the three
pub of_each : (proto : Proto) (holds : Bool) → (((same_proto proto Tcp && holds) || (same_proto proto Udp && holds)) || (same_proto proto Sctp && holds)) ≡ holds
of_each Tcp true = refl
of_each Tcp false = refl
of_each Udp true = refl
of_each Udp false = refl
of_each Sctp true = refl
of_each Sctp false = refl
