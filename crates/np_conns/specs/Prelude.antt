-- The definitions and types of this crate that its proofs and the crates above speak of, one import line a file.
pub use Rattle.np_conns.specs.Appended.{with_part}
pub use Rattle.np_conns.specs.Conns.{AscendsInPorts, Conns, IsConns, IsRun, has_spot, is_spot, proto_number, ranges_of, same_proto}
pub use Rattle.np_conns.specs.ConnsText.{are_same_conns, conns_of, is_whole, joined, part, part_text, proto_name, proto_named, run_text, spans_of, text_of_runs}
unfoldable pub use Rattle.np_conns.specs.ConnsText.{conns_text}
pub use Rattle.np_conns.specs.Reading.{GivesPorts, GivesSpots, IsPart, IsTextOfPart, Part, in_part, in_parts, in_runs, runs_of_part, text_of_part}
pub use Rattle.np_conns.specs.Runs.{onto_runs, runs}
unfoldable pub use Rattle.np_conns.specs.Runs.{runs_from}
pub use Rattle.np_conns.specs.Spots.{equal_by_ranges, equal_by_spots, has_spot-is_spot, ranges_of-ascend}
pub use Rattle.np_conns.specs.Types.{BadConns, ConnsFault, NoMemory, PortSpot, Proto, Range, Sctp, Tcp, Udp}
