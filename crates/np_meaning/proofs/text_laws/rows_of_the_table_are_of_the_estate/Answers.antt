use Rattle.np_meaning.proofs.TableRows.{all_rows-well, cluster_rows-well}
use Rattle.np_meaning.proofs.text_laws.rows_of_the_table_are_of_the_estate.Goals as goal

pub returns : goal.returns
returns c = record { table = all_rows-well; cluster = cluster_rows-well }
