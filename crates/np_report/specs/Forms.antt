-- The forms of a report: its bytes, for the texts of its rows.
use Rattle.std.specs.Prelude.{ℕ, List, [], ◌∷◌, ◌++◌, Bool, true, false, codes, if◌then◌else◌}
use Rattle.csv.specs.Writing.{default_writer, row_text as csv_row}
use Rattle.np_report.specs.Types.{Format, RowText}
use Rattle.np_args.specs.declared.format.Format.TheVariants.{Plain, Csv, Json}
use Rattle.serde_json.specs.Data.{Data, string, object, member, no_members}
use Rattle.serde_json.specs.Written.{compact_text}

-- the bytes of a row, and those behind the last one; both know whether a row came before
pub record Form : Type 0 where
  pub row : Bool → RowText → List ℕ
  pub end : Bool → List ℕ

-- ---- a line of text for each row

abbrev pub text_line : RowText → List ℕ
text_line row = row.source ++ codes " => " ++ row.destination ++ codes " : " ++ row.connections ++ codes "\n"

abbrev pub text_form : Form
text_form = record { row = λ has_rows row. text_line row; end = λ has_rows. [] }

-- ---- comma-separated values under a header row, even of no rows, as the default writer of `csv` writes them

abbrev pub csv_header : List ℕ
csv_header = csv_row default_writer (codes "source" ∷ codes "destination" ∷ codes "connections" ∷ [])

abbrev pub csv_line : RowText → List ℕ
csv_line row = csv_row default_writer (row.source ∷ row.destination ∷ row.connections ∷ [])

abbrev pub csv_form : Form
csv_form = record {
  row = λ has_rows row. (if has_rows then [] else csv_header) ++ csv_line row;
  end = λ has_rows. if has_rows then [] else csv_header;
}

-- ---- a JSON list of objects, one in a line, each as the compact text of `serde_json`

abbrev pub json_object : RowText → Data
json_object row =
    object (member (codes "connections") (string row.connections) (member (codes "destination") (string row.destination) (member (codes "source") (string row.source) no_members)))

abbrev pub json_form : Form
json_form = record {
  row = λ has_rows row. (if has_rows then codes ",\n" else codes "[") ++ compact_text (json_object row);
  end = λ has_rows. (if has_rows then [] else codes "[") ++ codes "]\n";
}

-- ---- whole reports

abbrev pub form_of : Format → Form
form_of Plain = text_form
form_of Csv = csv_form
form_of Json = json_form

-- what is still to come of a report: these rows and its end, where one knows whether a row came before
abbrev pub text_to_come : Form → Bool → List RowText → List ℕ
text_to_come form has_rows [] = form.end has_rows
text_to_come form has_rows (row ∷ rows) = form.row has_rows row ++ text_to_come form true rows

-- the bytes of some rows, and no end
abbrev pub lines_of : Form → Bool → List RowText → List ℕ
lines_of form has_rows [] = []
lines_of form has_rows (row ∷ rows) = form.row has_rows row ++ lines_of form true rows

-- the bytes of a whole report
abbrev pub report_text : Format → List RowText → List ℕ
report_text format rows = text_to_come (form_of format) false rows

-- ---- reports under way

-- what is known of one: whether a row came, and whether it is broken, since a call was refused or its end was given
pub record Progress : Type 0 where
  pub has_rows : Bool
  pub broken : Bool

-- no call was made yet
abbrev pub fresh : Progress
fresh = record { has_rows = false; broken = false }

-- a row came, and no call was refused
abbrev pub under_way : Progress
under_way = record { has_rows = true; broken = false }
