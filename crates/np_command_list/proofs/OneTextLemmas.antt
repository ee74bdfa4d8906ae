-- Lists of rows that say what passes are told by one text. For `one_text_says_what_passes`.
use Rattle.std.proofs.Common.{◌≡◌, ℕ, List, ◌++◌, Contains, Option, refl, ap, ◌∙◌}
use Rattle.np_command_list.specs.Prelude.{Controller, Egress, EstateLists, Family, Four, Ingress, IsRowOf, Query, Report, Row, RowEnd, RowKey, SayWhatPasses, Six, Span, Work}
use Rattle.np_command_list.proofs.OneListLemmas.{AreAmong, AreToldAlike, told-alike}
use Rattle.np_command_list.proofs.SameRangesLemmas.{range-among}
use Rattle.np_command_list.proofs.SameRowsLemmas.{ingress-among, kept-key, pair-among, row-of}
use Rattle.np_conns.proofs.ConnLemmas.{conns_text-agrees}
use Rattle.np_conns.specs.Prelude.{conns_text, has_spot}
use Rattle.np_report.specs.Prelude.{family_suffix, row_end_text, row_text, texts_of}
use Rattle.np_report.specs.declared.row.RowText.{RowText}
use Rattle.np_routes.specs.Prelude.{ingress_key}
use Rattle.np_table.specs.Prelude.{key_of, pair_key}
use Rattle.np_table.specs.declared.rows.AddressSpan.TheVariants as span

module _ (lists : EstateLists) (sender : Option ℕ) (query : Query) (rows others : List Row) (say : SayWhatPasses lists sender query rows) (say' : SayWhatPasses lists sender query others) where
  -- each row of the one list is told as one of the other
  rows-among : AreAmong rows others
  rows-among row has = by row.key.source row.key.destination refl (row-of lists sender query rows say row row.key has refl)
    where
      by : (source destination : RowEnd) → row.key ≡ record { source = source; destination = destination } → IsRowOf lists source destination row →
          (other : Row) × Contains others other × AreToldAlike row other
      by (Work source) (Work destination) key is =
          pair-among lists sender query source destination (kept-key lists sender query rows say row (pair_key source destination) has key) rows others say say' row has key
      by (Span (span.Four range)) (Work workload) key is =
          range-among lists sender query workload Ingress Four (span.Four range)
          (kept-key lists sender query rows say row (key_of workload Ingress (Span (span.Four range))) has key) rows others say say' row range (has, key)
      by (Span (span.Six range)) (Work workload) key is =
          range-among lists sender query workload Ingress Six (span.Six range)
          (kept-key lists sender query rows say row (key_of workload Ingress (Span (span.Six range))) has key) rows others say say' row range (has, key)
      by (Work workload) (Span (span.Four range)) key is =
          range-among lists sender query workload Egress Four (span.Four range)
          (kept-key lists sender query rows say row (key_of workload Egress (Span (span.Four range))) has key) rows others say say' row range (has, key)
      by (Work workload) (Span (span.Six range)) key is =
          range-among lists sender query workload Egress Six (span.Six range)
          (kept-key lists sender query rows say row (key_of workload Egress (Span (span.Six range))) has key) rows others say say' row range (has, key)
      by Controller (Work workload) key is = ingress-among lists sender query workload (kept-key lists sender query rows say row (ingress_key workload) has key) rows others say say' row has key
      by (Work source) Controller key is = absurd is
      by (Span addresses) (Span far) key is = absurd is
      by (Span addresses) Controller key is = absurd is
      by Controller (Span addresses) key is = absurd is
      by Controller Controller key is = absurd is

-- rows that are told alike have one text
text-alike : (names : List (List ℕ)) (report : Report) (one other : Row) → AreToldAlike one other → row_text names report one ≡ row_text names report other
unfolding row_text
text-alike names report one other alike =
    ap (λ (key : RowKey). text key one.family (conns_text (has_spot one.conns))) alike.key
    ∙ ap (λ (mark : Option Family). text other.key mark (conns_text (has_spot one.conns))) alike.family
    ∙ ap (λ (connections : List ℕ). text other.key other.family connections) (conns_text-agrees (has_spot one.conns) (has_spot other.conns) alike.ports)
  where
    text : RowKey → Option Family → List ℕ → RowText
    text key mark connections = record { source = row_end_text names report key.source; destination = row_end_text names report key.destination ++ family_suffix mark; connections = connections }

-- lists that say what passes are told by one text
pub one-text : (lists : EstateLists) (sender : Option ℕ) (query : Query) (rows others : List Row) (names : List (List ℕ)) (report : Report) → SayWhatPasses lists sender query rows →
    SayWhatPasses lists sender query others → texts_of names report rows ≡ texts_of names report others
one-text lists sender query rows others names report say say' =
    told-alike (row_text names report) (text-alike names report) rows others say.order say'.order (rows-among lists sender query rows others say say')
    (rows-among lists sender query others rows say' say)
