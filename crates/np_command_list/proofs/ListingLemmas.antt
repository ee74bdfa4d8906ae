-- What a table is asked for.
use Rattle.std.proofs.Common.{◌≡◌, ℕ, Option, false, refl}
use Rattle.np_command_list.specs.Prelude.{EstateLists, Format, Query, Report}
use Rattle.np_fold.specs.Prelude.{folding_of}
use Rattle.np_report.specs.Prelude.{form_of, list_text, names_of, rows_to_come}
use Rattle.np_routes.specs.Prelude.{cluster_rows, cluster_table}
use Rattle.np_table.specs.Prelude.{table_of}

-- the text of the table that is asked for is that of all its rows
pub list_text_is : (lists : EstateLists) (controller : Option ℕ) (query : Query) (format : Format) (report : Report)
    → list_text (cluster_table lists controller) query format report
    ≡ rows_to_come (form_of format) (names_of (folding_of lists)) query report false (cluster_rows (cluster_table lists controller))
unfolding list_text rows_to_come cluster_table table_of
list_text_is lists controller query format report = refl
