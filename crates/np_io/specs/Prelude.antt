-- The definitions and types of this crate that its proofs and the crates above speak of, one import line a file.
pub use Rattle.np_io.specs.Counts.{NeverFalls, Rose, handed_after, raised}
pub use Rattle.np_io.specs.Memory.{IsBegunAt, IsHeldBegun, IsSound, SinkState, SourceState, begun_name, bytes_at, bytes_left, bytes_of, empty_sink, empty_source, faults_of, is_named, name_at, none_left, place_of}
pub use Rattle.np_io.specs.Source.{BeganNext, IsTold, ReadFailed}
pub use Rattle.np_io.specs.Taken.{TookAllBut, TookFront, TookLess}
