-- Rows as the default writer of `csv` writes them. For `CsvFormForm::end`, `CsvFormForm::line` and `put_escaped`.
use Rattle.std.proofs.Common.{◌≡◌, ℕ, List, [], ◌∷◌, ◌++◌, true, false, ◌==◌, codes, refl, sym, ap, ◌∙◌, append_assoc, append-nil, if◌then◌else◌}
use Rattle.std.proofs.lemmas.Bool.{ne_eqb}
use Rattle.csv.specs.Writing.{default_writer, escaped, field_text, fields_text, is_blank}
use Rattle.csv.specs.declared.writer.WriterBuilder.{WriterBuilder}
use Rattle.np_report.specs.Prelude.{RowText, csv_header, csv_line}

-- the header row
pub header_is : codes "source,destination,connections\n" ≡ csv_header
unfolding fields_text is_blank
header_is = refl

-- ---- bytes between quotes

escaped-push : (cfg : WriterBuilder) (bytes : List ℕ) (byte : ℕ) → escaped cfg (bytes ++ byte ∷ []) ≡ escaped cfg bytes ++ escaped cfg (byte ∷ [])
unfolding escaped
escaped-push cfg [] byte = refl
escaped-push cfg (first ∷ bytes) byte =
    elim (first == cfg.quote) as (λ is. (if is then (if cfg.double_quote then cfg.quote else cfg.escape) ∷ first ∷ escaped cfg (bytes ++ byte ∷ []) else first ∷ escaped cfg (bytes ++ byte ∷ [])) ≡
    (if is then (if cfg.double_quote then cfg.quote else cfg.escape) ∷ first ∷ escaped cfg bytes else first ∷ escaped cfg bytes) ++ escaped cfg (byte ∷ [])) [
      | true ↦ ap (λ (rest : List ℕ). (if cfg.double_quote then cfg.quote else cfg.escape) ∷ first ∷ rest) (escaped-push cfg bytes byte)
      | false ↦ ap (λ (rest : List ℕ). first ∷ rest) (escaped-push cfg bytes byte)
    ]

-- no bytes are put for none
pub escaped-none : (line : List ℕ) → line ≡ line ++ escaped default_writer []
unfolding escaped
escaped-none line = sym (append-nil line)

-- a quote is put twice
pub escaped-quote : (start line : List ℕ) (bytes : List ℕ) (byte : ℕ) → line ≡ start ++ escaped default_writer bytes → byte ≡ 34 →
    (line ++ 34 ∷ []) ++ byte ∷ [] ≡ start ++ escaped default_writer (bytes ++ byte ∷ [])
unfolding escaped
escaped-quote start line bytes byte put is = rw (put, is, escaped-push default_writer bytes 34) (simp append_assoc)

-- and another byte once
pub escaped-other : (start line : List ℕ) (bytes : List ℕ) (byte : ℕ) → line ≡ start ++ escaped default_writer bytes → (byte ≡ 34 → ⊥) →
    line ++ byte ∷ [] ≡ start ++ escaped default_writer (bytes ++ byte ∷ [])
unfolding escaped
escaped-other start line bytes byte put other = rw (put, escaped-push default_writer bytes byte, ne_eqb byte 34 other) (simp append_assoc)

-- ---- rows

three : (a b c : List ℕ) → (a ++ 44 ∷ (b ++ 44 ∷ (c ++ []))) ++ 10 ∷ [] ≡ a ++ 44 ∷ (b ++ 44 ∷ (c ++ 10 ∷ []))
three a b c = simp (append-nil, append_assoc)

joined : (before a b c : List ℕ) → (((((before ++ a) ++ 44 ∷ []) ++ b) ++ 44 ∷ []) ++ c) ++ 10 ∷ [] ≡ before ++ (a ++ 44 ∷ (b ++ 44 ∷ (c ++ 10 ∷ [])))
joined before a b c = simp append_assoc

-- a row that is put together of its fields
pub line_is : (before : List ℕ) (row : RowText) →
    (((((before ++ field_text default_writer row.source) ++ 44 ∷ []) ++ field_text default_writer row.destination) ++ 44 ∷ []) ++ field_text default_writer row.connections) ++ 10 ∷ [] ≡ before
    ++ csv_line row
unfolding fields_text is_blank
line_is before row =
    joined before (field_text default_writer row.source) (field_text default_writer row.destination) (field_text default_writer row.connections)
    ∙ ap (λ (text : List ℕ). before ++ text) (sym (three (field_text default_writer row.source) (field_text default_writer row.destination) (field_text default_writer row.connections)))
