-- The definitions and types of this crate that its proofs and the crates above speak of, one import line a file.
pub use Rattle.np_kinds.specs.Between.{IsWorkload, address_numbered, between_pods, destination_pod, is_alone, number_of_workloads, source_pod, with_address}
unfoldable pub use Rattle.np_kinds.specs.Between.{address_allows, pair_allows}
pub use Rattle.np_kinds.specs.Ends.{AreOneKind, ArePodsOfOneKind}
pub use Rattle.np_kinds.specs.Kinds.{AreKnown, IsKindReach, KnownSides, KnowsMore, StayKnown, chosen, first_alike, first_end, first_ends, first_side, kind_side, known_at, known_towards, knows, may_pass, side_allows_pod}
unfoldable pub use Rattle.np_kinds.specs.Kinds.{IsReach}
pub use Rattle.np_kinds.specs.Shared.{Answers, IsAlike, IsSetToward}
pub use Rattle.np_kinds.specs.Types.{Address, AdminPeer, AdminPort, Conns, Direction, Egress, EstateLists, Family, Ingress, KindReach, NetPeer, NetPort, NetRule, Pod, PodQuestion, PortSpot}
