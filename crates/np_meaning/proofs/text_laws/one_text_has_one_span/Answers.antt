use Rattle.np_meaning.proofs.SpanTexts.{range-by_ends, one-span}
use Rattle.np_meaning.proofs.text_laws.one_text_has_one_span.Goals as goal

pub returns : goal.returns
returns c = record { ends = range-by_ends; spans = one-span }
