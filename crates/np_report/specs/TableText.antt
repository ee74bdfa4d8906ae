-- The text of a table.
use Rattle.std.specs.Prelude.{◌≡◌, ℕ, ◌<◌, ◌^◌, List, [], ◌∷◌, Bool, true, filter, length, map}
use Rattle.np_addr.specs.Prelude.{width_of}
use Rattle.np_report.specs.Types.{Direction, Family, Format, Query, Report, Row, RowText}
use Rattle.np_model.specs.Prelude.{same_family}
use Rattle.np_report.specs.Forms.{Form, report_text, text_to_come}
use Rattle.np_report.specs.Keeps.{keeps}
use Rattle.np_report.specs.RowText.{row_text}
use Rattle.np_routes.specs.Prelude.{ClusterTable, cluster_rows}
use Rattle.np_table.specs.Prelude.{AllowSamePorts, Table}

-- ---- the text

-- the rows that a query asks for among some, in their order
abbrev pub asked_rows : Query → List Row → List Row
asked_rows query rows = filter (λ row. keeps query row.key) rows

-- the rows of a cluster that a query asks for
abbrev pub shown_rows : ClusterTable → Query → List Row
shown_rows cluster query = asked_rows query (cluster_rows cluster)

-- their texts, where the workloads have these names
abbrev pub texts_of : List (List ℕ) → Report → List Row → List RowText
texts_of names report rows = map (row_text names report) rows

-- the rows that a query asks for, in a format: a function of the table of the cluster alone
unfoldable pub list_text : ClusterTable → Query → Format → Report → List ℕ
list_text cluster query format report = report_text format (texts_of cluster.table.names report (shown_rows cluster query))

-- what is still to come of it while these rows are, where one knows whether a row came before
unfoldable pub rows_to_come : Form → List (List ℕ) → Query → Report → Bool → List Row → List ℕ
rows_to_come form names query report has_rows rows = text_to_come form has_rows (texts_of names report (asked_rows query rows))

-- ---- tables that say the same

-- whether rows tell of a family: of that of the list where it has one, and else of both
abbrev pub is_shown : List Family → Family → Bool
is_shown (one ∷ []) family = same_family one family
is_shown families family = true

-- The names and the families are equal, and between the workloads that have names, in the families that rows tell of, and
-- between such workloads and the addresses that there are, the same ports pass.
pub record AreSameTables (a b : Table) : Type 0 where
  pub names : a.names ≡ b.names
  pub families : a.families ≡ b.families
  pub pairs : (source destination : ℕ) (family : Family) → source < length a.names → destination < length a.names → is_shown a.families family ≡ true
      → AllowSamePorts (a.pairs source destination family) (b.pairs source destination family)
  pub addresses : (workload : ℕ) (direction : Direction) (family : Family) (number : ℕ) → workload < length a.names → number < 2 ^ width_of family
      → AllowSamePorts (a.addresses workload direction family number) (b.addresses workload direction family number)

-- And through ingresses the same ports of the workloads that have names are reached.
pub record SayTheSame (a b : ClusterTable) : Type 0 where
  pub tables : AreSameTables a.table b.table
  pub ingresses : (workload : ℕ) → workload < length a.table.names → AllowSamePorts (a.ingresses workload) (b.ingresses workload)
