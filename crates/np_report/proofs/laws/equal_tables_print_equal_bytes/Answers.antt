use Rattle.np_report.proofs.TableLemmas.{list_text-same}
use Rattle.np_report.proofs.laws.equal_tables_print_equal_bytes.Goals as goal

pub returns : goal.returns
returns c a b query format report same = list_text-same a b same query format report
