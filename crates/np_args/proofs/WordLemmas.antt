-- The words of formats, reports and sides. For `values_have_one_word`.
use Rattle.std.proofs.Common.{◌≡◌, ◌∙◌, ap, Bool, true, false, Some, None, cond, codes, refl}
use Rattle.std.specs.Cmp.Lexicographic.{bytes_decides}
use Rattle.std.specs.Prelude.{◌↔◌}
use Rattle.std.specs.Str.{bytes_eq}
use Rattle.np_args.specs.Prelude.{Csv, Destination, Either, FocusSide, Format, Json, One, Plain, Report, Source, Two, Word, focus_side_of, format_of, format_word, report_of, report_word, side_word}

-- a word that equals a text is that text
same_word : (word text : Word) → bytes_eq word text ≡ true → word ≡ text
same_word word text is = (bytes_decides word text).0 is

-- ---- formats

pub format_word-read : (format : Format) → format_of (format_word format) ≡ Some format
format_word-read Plain = refl
format_word-read Csv = refl
format_word-read Json = refl

format-word : (word : Word) (format : Format) → format_of word ≡ Some format → word ≡ format_word format
format-word word format is = by (bytes_eq word (codes "text")) refl (bytes_eq word (codes "csv")) refl (bytes_eq word (codes "json")) refl format is
  where
    by : (one : Bool) → bytes_eq word (codes "text") ≡ one → (two : Bool) → bytes_eq word (codes "csv") ≡ two → (three : Bool) → bytes_eq word (codes "json") ≡ three → (format : Format)
        → cond one (Some Plain) (cond two (Some Csv) (cond three (Some Json) None)) ≡ Some format → word ≡ format_word format
    by true here two there three last Plain is = same_word word (codes "text") here
    by true here two there three last Csv is = cc
    by true here two there three last Json is = cc
    by false here true there three last Plain is = cc
    by false here true there three last Csv is = same_word word (codes "csv") there
    by false here true there three last Json is = cc
    by false here false there true last Plain is = cc
    by false here false there true last Csv is = cc
    by false here false there true last Json is = same_word word (codes "json") last
    by false here false there false last format is = cc

pub format-one_word : (word : Word) (format : Format) → (format_of word ≡ Some format) ↔ (word ≡ format_word format)
format-one_word word format = (format-word word format, λ is. ap format_of is ∙ format_word-read format)

-- ---- reports

pub report_word-read : (report : Report) → report_of (report_word report) ≡ Some report
report_word-read One = refl
report_word-read Two = refl

report-word : (word : Word) (report : Report) → report_of word ≡ Some report → word ≡ report_word report
report-word word report is = by (bytes_eq word (codes "1")) refl (bytes_eq word (codes "2")) refl report is
  where
    by : (one : Bool) → bytes_eq word (codes "1") ≡ one → (two : Bool) → bytes_eq word (codes "2") ≡ two → (report : Report)
        → cond one (Some One) (cond two (Some Two) None) ≡ Some report → word ≡ report_word report
    by true here two there One is = same_word word (codes "1") here
    by true here two there Two is = cc
    by false here true there One is = cc
    by false here true there Two is = same_word word (codes "2") there
    by false here false there report is = cc

pub report-one_word : (word : Word) (report : Report) → (report_of word ≡ Some report) ↔ (word ≡ report_word report)
report-one_word word report = (report-word word report, λ is. ap report_of is ∙ report_word-read report)

-- ---- sides

pub side_word-read : (side : FocusSide) → focus_side_of (side_word side) ≡ Some side
side_word-read Either = refl
side_word-read Source = refl
side_word-read Destination = refl

side-word : (word : Word) (side : FocusSide) → focus_side_of word ≡ Some side → word ≡ side_word side
side-word word side is = by (bytes_eq word (codes "either")) refl (bytes_eq word (codes "from")) refl (bytes_eq word (codes "to")) refl side is
  where
    by : (one : Bool) → bytes_eq word (codes "either") ≡ one → (two : Bool) → bytes_eq word (codes "from") ≡ two → (three : Bool) → bytes_eq word (codes "to") ≡ three → (side : FocusSide)
        → cond one (Some Either) (cond two (Some Source) (cond three (Some Destination) None)) ≡ Some side → word ≡ side_word side
    by true here two there three last Either is = same_word word (codes "either") here
    by true here two there three last Source is = cc
    by true here two there three last Destination is = cc
    by false here true there three last Either is = cc
    by false here true there three last Source is = same_word word (codes "from") there
    by false here true there three last Destination is = cc
    by false here false there true last Either is = cc
    by false here false there true last Source is = cc
    by false here false there true last Destination is = same_word word (codes "to") last
    by false here false there false last side is = cc

pub side-one_word : (word : Word) (side : FocusSide) → (focus_side_of word ≡ Some side) ↔ (word ≡ side_word side)
side-one_word word side = (side-word word side, λ is. ap focus_side_of is ∙ side_word-read side)
