-- The definitions and types of this crate that its proofs and the crates above speak of, one import line a file.
pub use Rattle.np_check.specs.Counterexamples.{addresses_of, allows_between, breaks, complies, counterexample_at, counterexample_in, families_between, number_of_address, places_of}
unfoldable pub use Rattle.np_check.specs.Counterexamples.{counterexample_between, counterexample_from, counterexample_of, family_addresses}
pub use Rattle.np_check.specs.FirstPacket.{IsBroken, IsEndOf, IsFirstBroken}
pub use Rattle.np_check.specs.Firsts.{first_given, first_of_proto}
unfoldable pub use Rattle.np_check.specs.Firsts.{first_of_ports, first_spot}
pub use Rattle.np_check.specs.Holding.{HasAddress, Holds, IsOf, SpeaksOf}
pub use Rattle.np_check.specs.Numbers.{HasNoAddress, IsOneSided, ascends_from, is_ascending}
pub use Rattle.np_check.specs.Order.{address_before, comes_before, family_before, proto_before}
pub use Rattle.np_check.specs.Types.{Address, Allow, At, BreakingAddress, Counterexample, Deny, Egress, Ends, EstateLists, Family, First, Four, Ingress, PlaceEnd, PortSpot, Proto, Question, Range, Sctp, Second, Six, Tcp, Udp, Wanted, Work}
pub use Rattle.np_check.specs.steps.Broken.{broken_at, broken_in, earlier, earlier_of, first_common, first_number, first_within, with_spot}
unfoldable pub use Rattle.np_check.specs.steps.Broken.{first_broken_of}
pub use Rattle.np_check.specs.steps.Pairs.{AreSettled, has_pair, is_deny, kind_of}
