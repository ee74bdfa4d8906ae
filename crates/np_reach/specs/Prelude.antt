-- The definitions and types of this crate that its proofs and the crates above speak of, one import line a file.
pub use Rattle.np_reach.specs.Marks.{AreWithin, IsSpoken, marks_at, speaks_at}
pub use Rattle.np_reach.specs.Namespaces.{AreOfOneNamespace, admin_concerns, admin_peer_concerns, admin_rule_concerns, admin_silent_elsewhere, admin_unpicked_elsewhere, is_of_namespace, net_concerns, net_peer_concerns, net_rule_concerns, net_silent_elsewhere, net_unpicked_elsewhere, selects_namespace, some_admin_peer_concerns, some_net_peer_concerns}
pub use Rattle.np_reach.specs.Reach.{admin_reaches, admin_rule_reaches, has_place, may_at, net_reaches, reach_of}
unfoldable pub use Rattle.np_reach.specs.Reach.{may_reach}
pub use Rattle.np_reach.specs.Stretches.{FollowOneAnother, IsStretch}
pub use Rattle.np_reach.specs.Types.{AdminPolicy, AdminRule, Direction, EstateLists, Family, Four, Marks, NetPolicy, NetRule, Pod, Six}
