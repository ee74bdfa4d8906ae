-- The definitions and types of this crate that its proofs and the crates above speak of, one import line a file.
pub use Rattle.np_statements.specs.AllPods.{AreSettled, HoldsOfPods, asks_at, asks_pods, is_any_pod, is_same, is_settled, question_of_pods}
pub use Rattle.np_statements.specs.Answers.{GivesEnds, GivesLines, TellsUnknown}
pub use Rattle.np_statements.specs.AskedLines.{IsAsked, IsQuestion, IsWellForm, IsWellLine}
pub use Rattle.np_statements.specs.BrokenLines.{HasPlaces, IsPlace, broken_by, is_allowed_counterexample}
unfoldable pub use Rattle.np_statements.specs.BrokenLines.{broken_among, broken_of, first_broken}
pub use Rattle.np_statements.specs.BrokenText.{family_mark, mark_between, place_text}
unfoldable pub use Rattle.np_statements.specs.BrokenText.{broken_text}
pub use Rattle.np_statements.specs.CountedLines.{IsLineOf, line_feeds}
unfoldable pub use Rattle.np_statements.specs.Cuts.{behind, first_cut, halves, has_mark}
pub use Rattle.np_statements.specs.Ends.{addresses_alone, all_works, block_addresses, every_address, is_work_in_namespace, named_alone, no_address, works_alone}
unfoldable pub use Rattle.np_statements.specs.Ends.{ends_of}
pub use Rattle.np_statements.specs.FirstBrokenLine.{IsFirstBrokenLine}
pub use Rattle.np_statements.specs.FoundEnds.{ends_found}
unfoldable pub use Rattle.np_statements.specs.FoundEnds.{asked_line}
pub use Rattle.np_statements.specs.Holding.{IsAtPort, IsNamedAddress, IsNamedPod, LineHolds, StatementHolds}
pub use Rattle.np_statements.specs.Lines.{at_line, line_read, lines_of, lines_read}
unfoldable pub use Rattle.np_statements.specs.Lines.{statement_of, statements_of}
pub use Rattle.np_statements.specs.NamedEnds.{NamesAddress, NamesPod}
unfoldable pub use Rattle.np_statements.specs.ReadConns.{all_conns, all_runs, choices, conns_read}
pub use Rattle.np_statements.specs.ReadStatement.{all_addresses, all_pods_form, block_form, namespace_form, workload_form}
unfoldable pub use Rattle.np_statements.specs.ReadStatement.{end_read, is_work_text, said, said_between, statement_read}
pub use Rattle.np_statements.specs.Sides.{IsBefore, IsBehindFirst, IsMark, IsSide, IsWithout}
pub use Rattle.np_statements.specs.StatementGrammar.{IsEndText, IsSpelled, IsStatementText, IsWorkText, Lacks, is_address_form, wanted_text}
pub use Rattle.np_statements.specs.StatementTexts.{IsWellEnd, IsWellStatement, end_text, statement_text}
pub use Rattle.np_statements.specs.Steps.{◌>>=◌}
pub use Rattle.np_statements.specs.Types.{Address, Addresses, Allow, AskedLine, At, Block, Broken, CheckedKinds, Cidr, Counterexample, Deny, EndFault, EndForm, Ends, EstateLists, Family, FileFault, Four, Namespace, PlaceEnd, Pod, Pods, PortSpot, Question, Range, Sctp, Six, StatementLine, StatementText, Tcp, Udp, Wanted, Work}
