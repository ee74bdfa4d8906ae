use Rattle.np_statements.proofs.CountedLemmas.{counted_read, counted_refused}
use Rattle.np_statements.proofs.laws.lines_are_counted_by_line_feeds.Goals as goal

pub returns : goal.returns
returns c = record { read = counted_read; refused = counted_refused }
