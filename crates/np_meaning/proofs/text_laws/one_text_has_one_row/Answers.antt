use Rattle.np_meaning.proofs.RowTexts.{one-row}
use Rattle.np_meaning.proofs.text_laws.one_text_has_one_row.Goals as goal

pub returns : goal.returns
returns c = λ lists report a b lawful is_a is_b same. one-row lists report lawful a b is_a is_b same
