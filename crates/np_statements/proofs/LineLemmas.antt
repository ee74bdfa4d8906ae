-- The lines of a file, read one after another. For `nothing_is_broken_where_a_file_holds`, `read_statements` and 3 more.
use Rattle.std.proofs.Common.{◌≡◌, ℕ, ◌+◌, ◌<◌, ◌≤◌, List, [], ◌∷◌, ◌++◌, All, Option, Some, None, Result, Ok, Err, IfOk, map, length, drop, get_or, refl, sym, ap, subst, ◌∙◌, append_assoc}
use Rattle.std.specs.Prelude.{option_to_list}
use Rattle.std.specs.Str.{IsUtf8, is_utf8}
use Rattle.std.proofs.lemmas.Bool.{false_from_ne_true}
use Rattle.std.proofs.lemmas.List.Elements.{All-append, All-cons, All-nil, All-same}
use Rattle.std.proofs.lemmas.List.{append-nil, at_drop_more, drop_all}
use Rattle.std.proofs.lemmas.Str.{IsUtf8-from_is_utf8, is_utf8-from_IsUtf8}
use Rattle.std.specs.Borrow.{Bor}
use Rattle.np_addr.proofs.BlockLemmas.{rest_of_cleared}
use Rattle.np_addr.proofs.GrammarLemmas.{cidr_text_iff}
use Rattle.np_addr.specs.Prelude.{IsCidr, block_of, family_of, width_of}
use Rattle.np_statements.specs.Prelude.{Address, Addresses, Block, EndForm, FileFault, Four, GivesLines, IsEndText, IsStatementText, IsWellForm, IsWellLine, Namespace, Pods, Six, StatementLine, StatementText, Work, at_line, line_read, lines_of, lines_read, statement_of, statement_read, statements_of, ◌>>=◌}
use Rattle.np_statements.proofs.CutLemmas.{if_some}
use Rattle.np_statements.proofs.GrammarLemmas.{read-is, read-text}
use Rattle.np_statements.proofs.StepLemmas.{after, after-none, same_ok, then-ok}
use Rattle.np_statements.specs.declared.file_fault.FileFault.TheVariants.{BadStatement, NoMemory}

-- ---- one line

-- a text in UTF-8 is read by the grammar
pub of-read : {E : Type 0} (line text : List ℕ) (answer : Result StatementText E) → (text ≡ line) × IsUtf8 line → IfOk answer (IsStatementText text) →
    IfOk answer (λ statement. statement_of line ≡ Some statement)
unfolding statement_of
of-read line text (Ok statement) (same, utf8) is = rw (is_utf8-from_IsUtf8 line utf8) (read-text line statement (subst (λ (bytes : List ℕ). IsStatementText bytes statement) same is))
of-read line text (Err fault) told is = tt

pub of-refused : (line text : List ℕ) → (text ≡ line) × IsUtf8 line → ((statement : StatementText) → IsStatementText text statement → ⊥) → statement_of line ≡ None
unfolding statement_of
of-refused line text (same, utf8) never = rw (is_utf8-from_IsUtf8 line utf8) (of (statement_read line) refl)
  where
    of : (found : Option StatementText) → statement_read line ≡ found → found ≡ None
    of None is = refl
    of (Some statement) is = absurd (never statement (subst (λ (bytes : List ℕ). IsStatementText bytes statement) (sym same) (read-is line statement is)))

-- and no other bytes are
pub no_text : (line : List ℕ) → (IsUtf8 line → ⊥) → statement_of line ≡ None
unfolding statement_of
no_text line not_utf8 = rw (false_from_ne_true (is_utf8 line) (λ yes. not_utf8 (IsUtf8-from_is_utf8 line yes))) refl

-- ---- all lines

after-step : (front : List StatementLine) (first : Option StatementLine) (rest : Result (List StatementLine) ℕ) →
    after front (rest >>= (λ others. Ok (option_to_list first ++ others))) ≡ after (front ++ option_to_list first) rest
after-step front first (Ok more) = ap Ok (sym (append_assoc front (option_to_list first) more))
after-step front first (Err line) = refl

-- what is read from a place on, where a line is
line_at : (lines : List (Bor (List ℕ))) (place : ℕ) (d : Bor (List ℕ)) (front : List StatementLine) → place < length lines →
    after front (lines_read (place + 1) (map (λ line. line.now) (drop place lines))) ≡ after front
    (line_read (place + 1) (get_or lines place d).now >>= (λ first. lines_read (place + 1 + 1) (map (λ line. line.now) (drop (place + 1) lines)) >>=
    (λ others. Ok (option_to_list first ++ others))))
line_at lines place d front within = at_drop_more (λ (rest : List (Bor (List ℕ))). after front (lines_read (place + 1) (map (λ line. line.now) rest))) lines place d within

read_by : (lines : List (Bor (List ℕ))) (place : ℕ) (front : List StatementLine) → Result (Option StatementLine) ℕ → Result (List StatementLine) ℕ
read_by lines place front read = after front (read >>= (λ first. lines_read (place + 1 + 1) (map (λ line. line.now) (drop (place + 1) lines)) >>= (λ others. Ok (option_to_list first ++ others))))

-- a line more
pub one_more : (lines : List (Bor (List ℕ))) (place : ℕ) (d : Bor (List ℕ)) (front made : List StatementLine) (first : Option StatementLine) (all : Result (List StatementLine) ℕ) →
    place < length lines → all ≡ after front (lines_read (place + 1) (map (λ line. line.now) (drop place lines))) → line_read (place + 1) (get_or lines place d).now ≡ Ok first →
    made ≡ front ++ option_to_list first → all ≡ after made (lines_read (place + 1 + 1) (map (λ line. line.now) (drop (place + 1) lines)))
unfolding read_by
one_more lines place d front made first all within so_far reads more =
    so_far ∙ line_at lines place d front within ∙ ap (read_by lines place front) reads
    ∙ after-step front first (lines_read (place + 1 + 1) (map (λ line. line.now) (drop (place + 1) lines)))
    ∙ ap (λ (so : List StatementLine). after so (lines_read (place + 1 + 1) (map (λ line. line.now) (drop (place + 1) lines)))) (sym more)

-- the first line that is no statement
pub bad_line : (lines : List (Bor (List ℕ))) (place : ℕ) (d : Bor (List ℕ)) (front : List StatementLine) (fault : FileFault) (all : Result (List StatementLine) ℕ) → place < length lines →
    all ≡ after front (lines_read (place + 1) (map (λ line. line.now) (drop place lines))) → GivesLines {X = Option StatementLine} (Err fault) (line_read (place + 1) (get_or lines place d).now) →
    GivesLines {X = List StatementLine} (Err fault) all
unfolding read_by
bad_line lines place d front (BadStatement number) all within so_far reads = so_far ∙ line_at lines place d front within ∙ ap (read_by lines place front) reads
bad_line lines place d front NoMemory all within so_far reads = tt

-- and where there is none, all are read
pub all_read : (lines : List (Bor (List ℕ))) (place : ℕ) (front : List StatementLine) (all : Result (List StatementLine) ℕ) → length lines ≤ place →
    all ≡ after front (lines_read (place + 1) (map (λ line. line.now) (drop place lines))) → all ≡ Ok front
all_read lines place front all behind so_far =
    so_far ∙ ap (λ (rest : List (Bor (List ℕ))). after front (lines_read (place + 1) (map (λ line. line.now) rest))) (drop_all place lines behind) ∙ ap Ok (append-nil front)

-- before the first
pub none_read : (bytes : List ℕ) (lines : List (Bor (List ℕ))) (front : List StatementLine) → map (λ line. line.now) lines ≡ lines_of bytes → front ≡ [] →
    statements_of bytes ≡ after front (lines_read 1 (map (λ line. line.now) lines))
unfolding statements_of
none_read bytes lines front are none = ap (lines_read 1) (sym are) ∙ after-none (lines_read 1 (map (λ line. line.now) lines)) ∙ ap
    (λ (so : List StatementLine). after so (lines_read 1 (map (λ line. line.now) lines))) (sym none)

-- ---- what is known of a line that is read

block_of-well : (address : Address) (len : ℕ) → len ≤ width_of (family_of address) → IsCidr (block_of address len)
block_of-well (Four n) len within = (within, rest_of_cleared _ n)
block_of-well (Six n) len within = (within, rest_of_cleared _ n)

end-well : (text : List ℕ) (form : EndForm) → IsEndText text form → IsWellForm form
end-well text Pods is = tt
end-well text Addresses is = tt
end-well text (Namespace name) is = tt
end-well text (Work name) is = tt
end-well text (Block cidr) is =
    let spelled = (cidr_text_iff text cidr).0 is in
    subst IsCidr (sym spelled.value) (block_of-well spelled.address spelled.len spelled.length_text.within)

statement-well : (line : List ℕ) (number : ℕ) (statement : StatementText) → statement_of line ≡ Some statement → IsWellLine (record { line = number; statement = statement })
unfolding statement_of
statement-well line number statement reads =
    let is = read-is line statement (if_some (is_utf8 line) (statement_read line) statement reads).1 in
    record { source = end-well is.source statement.source is.source_text; destination = end-well is.destination statement.destination is.destination_text; one_side = is.one_side }

line-well : (number : ℕ) (line : List ℕ) (first : Option StatementLine) → line_read number line ≡ Ok first → All IsWellLine (option_to_list first)
line-well number [] first reads = All-same IsWellLine (option_to_list first) [] (ap option_to_list (sym (same_ok None first reads))) (All-nil IsWellLine)
line-well number (byte ∷ line) first reads = of (statement_of (byte ∷ line)) refl reads
  where
    of : (found : Option StatementText) → statement_of (byte ∷ line) ≡ found → at_line number found ≡ Ok first → All IsWellLine (option_to_list first)
    of None is reads = cc
    of (Some statement) is reads =
        let same : first ≡ Some (record { line = number; statement = statement }) = cc in
        All-same IsWellLine (option_to_list first) _ (ap option_to_list same)
        (All-cons IsWellLine (record { line = number; statement = statement }) [] (statement-well (byte ∷ line) number statement is) (All-nil IsWellLine))

lines-well : (number : ℕ) (lines : List (List ℕ)) (statements : List StatementLine) → lines_read number lines ≡ Ok statements → All IsWellLine statements
lines-well number [] statements reads = All-same IsWellLine statements [] (sym (same_ok [] statements reads)) (All-nil IsWellLine)
lines-well number (line ∷ lines) statements reads =
    let (first, first_reads, next) = then-ok (line_read number line) (λ one. lines_read (number + 1) lines >>= (λ others. Ok (option_to_list one ++ others))) statements reads in
    let (others, others_read, made) = then-ok (lines_read (number + 1) lines) (λ rest. Ok (option_to_list first ++ rest)) statements next in
    All-same IsWellLine statements (option_to_list first ++ others) (sym (same_ok (option_to_list first ++ others) statements made))
    (All-append IsWellLine (option_to_list first) others (line-well number line first first_reads) (lines-well (number + 1) lines others others_read))

pub statements-well : (bytes : List ℕ) (statements : List StatementLine) → statements_of bytes ≡ Ok statements → All IsWellLine statements
unfolding statements_of
statements-well bytes statements reads = lines-well 1 (lines_of bytes) statements reads
