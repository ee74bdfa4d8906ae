-- The statements that are read of a file are those of its lines. For OneListLemmas and PromiseLemmas.
use Rattle.std.proofs.Common.{◌≡◌, ◌≢◌, ◌⊎◌, ℕ, zero, suc, ◌+◌, ◌<◌, ◌≤◌, List, [], ◌∷◌, ◌++◌, Bool, true, false, Option, Some, None, Result, Ok, Err, option_to_list, arith, refl, sym, ap, subst, ◌∙◌, inl, inr}
use Rattle.std.specs.Prelude.{All, AllPairs, Contains}
use Rattle.std.specs.List.{onto_first, slice_get, slice_split}
use Rattle.std.specs.Str.{is_utf8}
use Rattle.std.proofs.lemmas.Bool.{eq-eqb, true≢false}
use Rattle.std.proofs.lemmas.List.Elements.{All-append, All-cons, All-head, All-nil, All-weaker, Contains-append_right}
use Rattle.std.proofs.lemmas.List.Kept.{AllPairs-cons}
use Rattle.std.proofs.lemmas.List.Splits.{slice_split-cons_no, slice_split-cons_yes}
use Rattle.std.proofs.lemmas.Option.{none-some, same_Some}
use Rattle.std.proofs.lemmas.Str.{IsUtf8-from_is_utf8, is_utf8-from_IsUtf8}
use Rattle.np_command_check.specs.Prelude.{AreLinesOf, IsFirstBad, IsTextOf, StandsInFile, StatementLine, StatementText}
use Rattle.np_statements.proofs.CountedLemmas.{counted_read, counted_refused, feeds-end, is_feed}
use Rattle.np_statements.proofs.CutLemmas.{if_some}
use Rattle.np_statements.proofs.GrammarLemmas.{read-is, read-text}
use Rattle.np_statements.proofs.StepLemmas.{same_ok, then-ok}
use Rattle.np_statements.specs.Prelude.{IsLineOf, at_line, line_feeds, line_read, lines_of, lines_read, statement_of, statement_read, statements_of, ◌>>=◌}

-- ---- texts of statements

text-of : (text : List ℕ) (statement : StatementText) → statement_of text ≡ Some statement → IsTextOf text statement
unfolding statement_of
text-of text statement is =
    let parts = if_some (is_utf8 text) (statement_read text) statement is in
    (IsUtf8-from_is_utf8 text parts.0, read-is text statement parts.1)

of-text : (text : List ℕ) (statement : StatementText) → IsTextOf text statement → statement_of text ≡ Some statement
unfolding statement_of
of-text text statement is = rw (is_utf8-from_IsUtf8 text is.0) (read-text text statement is.1)

-- ---- the lines of a file are its parts

onto_first-first : (byte : ℕ) (parts : List (List ℕ)) (line : List ℕ) → slice_get parts 0 ≡ Some line → slice_get (onto_first byte parts) 0 ≡ Some (byte ∷ line)
onto_first-first byte [] line is = absurd (none-some line is)
onto_first-first byte (part ∷ parts) line is = ap (λ (one : List ℕ). Some (byte ∷ one)) (same_Some part line is)

onto_first-later : (byte : ℕ) (parts : List (List ℕ)) (k : ℕ) → slice_get (onto_first byte parts) (suc k) ≡ slice_get parts (suc k)
onto_first-later byte [] k = refl
onto_first-later byte (part ∷ parts) k = refl

abbrev Ends : List ℕ → Type 0
Ends after = (after ≡ []) ⊎ ((rest : List ℕ) × (after ≡ 10 ∷ rest))

abbrev Begins : List ℕ → Type 0
Begins before = (before ≡ []) ⊎ ((front : List ℕ) × (before ≡ front ++ 10 ∷ []))

-- the first part ends at the first line feed
front-part : (line after : List ℕ) → line_feeds line ≡ 0 → Ends after → slice_get (slice_split is_feed (line ++ after)) 0 ≡ Some line
front-part [] after plain (inl none) = ap (λ (bytes : List ℕ). slice_get (slice_split is_feed bytes) 0) none
front-part [] after plain (inr some) =
    ap (λ (bytes : List ℕ). slice_get (slice_split is_feed bytes) 0) some.1
    ∙ ap (λ (parts : List (List ℕ)). slice_get parts 0) (slice_split-cons_yes is_feed 10 some.0 refl)
front-part (byte ∷ line) after plain ends = by (is_feed byte) refl plain (λ rest. front-part line after rest ends)
  where
    by : (feed : Bool) → is_feed byte ≡ feed → line_feeds (byte ∷ line) ≡ 0 → (line_feeds line ≡ 0 → slice_get (slice_split is_feed (line ++ after)) 0 ≡ Some line) →
        slice_get (slice_split is_feed (byte ∷ line ++ after)) 0 ≡ Some (byte ∷ line)
    by true is plain rest = absurd (let more : line_feeds line + 1 ≡ 0 = rw is at plain in omega (arith, more))
    by false is plain rest =
        ap (λ (parts : List (List ℕ)). slice_get parts 0) (slice_split-cons_no is_feed byte (line ++ after) is)
        ∙ onto_first-first byte (slice_split is_feed (line ++ after)) line (rest (rw is at plain))

-- behind the first byte a beginning is none, and the byte was a line feed, or it ends with one
begins-behind : (byte : ℕ) (before : List ℕ) → Begins (byte ∷ before) → ((byte ≡ 10) × (before ≡ [])) ⊎ ((front : List ℕ) × (before ≡ front ++ 10 ∷ []))
begins-behind byte before (inl none) = absurd (cc)
begins-behind byte before (inr some) = by some.0 some.1
  where
    by : (front : List ℕ) → byte ∷ before ≡ front ++ 10 ∷ [] → ((byte ≡ 10) × (before ≡ [])) ⊎ ((front : List ℕ) × (before ≡ front ++ 10 ∷ []))
    by [] is = let one : byte ≡ 10 = cc in let none : before ≡ [] = cc in inl (one, none)
    by (other ∷ front) is = let rest : before ≡ front ++ 10 ∷ [] = cc in inr (front, rest)

part-at : (before line after : List ℕ) → Begins before → Ends after → line_feeds line ≡ 0 → slice_get (slice_split is_feed (before ++ (line ++ after))) (line_feeds before) ≡ Some line
part-at [] line after begins ends plain = front-part line after plain ends
part-at (byte ∷ before) line after begins ends plain = by (is_feed byte) refl (begins-behind byte before begins) (λ here. part-at before line after here ends plain)
  where
    parts : List (List ℕ)
    parts = slice_split is_feed (before ++ (line ++ after))

    behind : (k : ℕ) (all : List (List ℕ)) → slice_split is_feed (byte ∷ before ++ (line ++ after)) ≡ all → line_feeds (byte ∷ before) ≡ suc k → slice_get all (suc k) ≡ Some line →
        slice_get (slice_split is_feed (byte ∷ before ++ (line ++ after))) (line_feeds (byte ∷ before)) ≡ Some line
    behind k all split count there =
        ap (λ (n : ℕ). slice_get (slice_split is_feed (byte ∷ before ++ (line ++ after))) n) count
        ∙ ap (λ (ps : List (List ℕ)). slice_get ps (suc k)) split
        ∙ there

    by : (feed : Bool) → is_feed byte ≡ feed → ((byte ≡ 10) × (before ≡ [])) ⊎ ((front : List ℕ) × (before ≡ front ++ 10 ∷ [])) →
        (Begins before → slice_get (slice_split is_feed (before ++ (line ++ after))) (line_feeds before) ≡ Some line) →
        slice_get (slice_split is_feed (byte ∷ before ++ (line ++ after))) (line_feeds (byte ∷ before)) ≡ Some line
    by true is (inl first) rest = behind (line_feeds before) ([] ∷ parts) (slice_split-cons_yes is_feed byte (before ++ (line ++ after)) is) (rw is (omega arith)) (rest (inl first.1))
    by true is (inr later) rest = behind (line_feeds before) ([] ∷ parts) (slice_split-cons_yes is_feed byte (before ++ (line ++ after)) is) (rw is (omega arith)) (rest (inr later))
    by false is (inl first) rest = absurd (true≢false (sym (eq-eqb byte 10 first.0) ∙ is))
    by false is (inr later) rest =
        let count : line_feeds before ≡ suc (line_feeds later.0) = let some = ap line_feeds later.1 ∙ feeds-end later.0 in omega (arith, some) in
        behind (line_feeds later.0) (onto_first byte parts) (slice_split-cons_no is_feed byte (before ++ (line ++ after)) is) (rw is count)
        (onto_first-later byte parts (line_feeds later.0) ∙ sym (ap (λ (n : ℕ). slice_get parts n) count) ∙ rest (inr later))

-- a line of a file is one of its parts
pub part-of : (bytes : List ℕ) (number : ℕ) (text : List ℕ) → IsLineOf bytes number text → (k : ℕ) × (number ≡ 1 + k) × (slice_get (lines_of bytes) k ≡ Some text)
part-of bytes number text is =
    let counted = is.counted in (
      line_feeds is.before,
      omega (arith, counted),
      ap (λ (all : List ℕ). slice_get (slice_split is_feed all) (line_feeds is.before)) is.spelled ∙ part-at is.before text is.after is.begins is.ends is.plain,
    )

-- ---- what lines give

abbrev IsAtLine : ℕ → StatementLine → Type 0
IsAtLine n line = line.line ≡ n

abbrev IsFrom : ℕ → StatementLine → Type 0
IsFrom n line = n ≤ line.line

abbrev pub IsAbove : StatementLine → StatementLine → Type 0
IsAbove one other = one.line < other.line

-- a line that is not empty gives a statement at its number
record IsGiven (n : ℕ) (text : List ℕ) (given : Option StatementLine) : Type 0 where
  line : StatementLine
  is : given ≡ Some line
  number : line.line ≡ n
  read : statement_of text ≡ Some line.statement

given-by : (n : ℕ) (text : List ℕ) (given : Option StatementLine) → line_read n text ≡ Ok given → text ≢ [] → IsGiven n text given
given-by n [] given reads filled = absurd (filled refl)
given-by n (byte ∷ text) given reads filled = of (statement_of (byte ∷ text)) refl reads
  where
    of : (found : Option StatementText) → statement_of (byte ∷ text) ≡ found → at_line n found ≡ Ok given → IsGiven n (byte ∷ text) given
    of None is reads = absurd (cc)
    of (Some statement) is reads =
        record { line = record { line = n; statement = statement }; is = sym (same_ok (Some (record { line = n; statement = statement })) given reads); number = refl; read = is }

given-at : (n : ℕ) (text : List ℕ) (given : Option StatementLine) → line_read n text ≡ Ok given → All (IsAtLine n) (option_to_list given)
given-at n [] given reads =
    subst (λ (one : Option StatementLine). All (IsAtLine n) (option_to_list one)) (same_ok None given reads) (All-nil (IsAtLine n))
given-at n (byte ∷ text) given reads =
    let one = given-by n (byte ∷ text) given reads (λ never. cc) in
    subst (λ (found : Option StatementLine). All (IsAtLine n) (option_to_list found)) (sym one.is) (All-cons (IsAtLine n) one.line [] one.number (All-nil (IsAtLine n)))

-- what lines give, by the first of them
record AreReadBy (n : ℕ) (text : List ℕ) (texts : List (List ℕ)) (lines : List StatementLine) : Type 0 where
  first : Option StatementLine
  others : List StatementLine
  first_is : line_read n text ≡ Ok first
  others_are : lines_read (n + 1) texts ≡ Ok others
  are : option_to_list first ++ others ≡ lines

read-by : (n : ℕ) (text : List ℕ) (texts : List (List ℕ)) (lines : List StatementLine) → lines_read n (text ∷ texts) ≡ Ok lines → AreReadBy n text texts lines
read-by n text texts lines is =
    let (first, first_is, next) = then-ok (line_read n text) (λ one. lines_read (n + 1) texts >>= (λ others. Ok (option_to_list one ++ others))) lines is in
    let (others, others_are, made) = then-ok (lines_read (n + 1) texts) (λ rest. Ok (option_to_list first ++ rest)) lines next in
    record { first = first; others = others; first_is = first_is; others_are = others_are; are = same_ok (option_to_list first ++ others) lines made }

-- their numbers begin at that of the first
numbers-from : (n : ℕ) (texts : List (List ℕ)) (lines : List StatementLine) → lines_read n texts ≡ Ok lines → All (IsFrom n) lines
numbers-from n [] lines is = subst (All (IsFrom n)) (same_ok [] lines is) (All-nil (IsFrom n))
numbers-from n (text ∷ texts) lines is =
    let by = read-by n text texts lines is in
    let own = All-weaker (IsAtLine n) (IsFrom n) (λ line here. omega (arith, here)) (option_to_list by.first) (given-at n text by.first by.first_is) in
    let later = All-weaker (IsFrom (n + 1)) (IsFrom n) (λ line above. omega (arith, above)) by.others (numbers-from (n + 1) texts by.others by.others_are) in
    subst (All (IsFrom n)) by.are (All-append (IsFrom n) (option_to_list by.first) by.others own later)

-- and ascend
numbers-ascend : (n : ℕ) (texts : List (List ℕ)) (lines : List StatementLine) → lines_read n texts ≡ Ok lines → AllPairs IsAbove lines
numbers-ascend n [] lines is = subst (AllPairs IsAbove) (same_ok [] lines is) (λ i j d before below. absurd (omega (arith, below)))
numbers-ascend n (text ∷ texts) lines is =
    let by = read-by n text texts lines is in
    subst (AllPairs IsAbove) by.are
    (onto by.first by.others (given-at n text by.first by.first_is) (numbers-from (n + 1) texts by.others by.others_are) (numbers-ascend (n + 1) texts by.others by.others_are))
  where
    onto : (first : Option StatementLine) (others : List StatementLine) → All (IsAtLine n) (option_to_list first) → All (IsFrom (n + 1)) others → AllPairs IsAbove others →
        AllPairs IsAbove (option_to_list first ++ others)
    onto None others here later ascend = ascend
    onto (Some line) others here later ascend =
        let own : line.line ≡ n = All-head (IsAtLine n) line [] here in
        AllPairs-cons IsAbove line others (All-weaker (IsFrom (n + 1)) (IsAbove line) (λ other above. omega (arith, own, above)) others later) ascend

abbrev HasLine : List StatementLine → ℕ → Type 0
HasLine lines number = (line : StatementLine) × Contains lines line × (line.line ≡ number)

-- and each line that is not empty gives one
each-given : (n : ℕ) (texts : List (List ℕ)) (lines : List StatementLine) (k : ℕ) (text : List ℕ) → lines_read n texts ≡ Ok lines → slice_get texts k ≡ Some text → text ≢ [] →
    HasLine lines (n + k)
each-given n [] lines k text is at filled = absurd (none-some text at)
each-given n (first ∷ texts) lines zero text is at filled =
    let by = read-by n first texts lines is in
    let same : first ≡ text = same_Some first text at in
    let given = given-by n first by.first by.first_is (λ empty. filled (sym same ∙ empty)) in
    let own : given.line ∷ by.others ≡ lines = ap (λ (one : Option StatementLine). option_to_list one ++ by.others) (sym given.is) ∙ by.are in
    let number = given.number in
    (given.line, subst (λ (all : List StatementLine). Contains all given.line) own (0, omega arith, refl), omega (arith, number))
each-given n (first ∷ texts) lines (suc k) text is at filled =
    let by = read-by n first texts lines is in
    let (line, has, number) = each-given (n + 1) texts by.others k text by.others_are at filled in
    (line, subst (λ (all : List StatementLine). Contains all line) by.are (Contains-append_right (option_to_list by.first) by.others line has), omega (arith, number))

-- before the first line that is no statement, each that is not empty is one
given-before : (n : ℕ) (texts : List (List ℕ)) (number k : ℕ) (text : List ℕ) → lines_read n texts ≡ Err number → slice_get texts k ≡ Some text → text ≢ [] → n + k < number →
    (statement : StatementText) × (statement_of text ≡ Some statement)
given-before n [] number k text is at filled before = absurd (none-some text at)
given-before n (first ∷ texts) number k text is at filled before =
    go (line_read n first) refl (lines_read (n + 1) texts) refl is k at before (λ m. given-before (n + 1) texts number m text)
  where
    bad : (line : List ℕ) → line_read n line ≡ Err number → number ≡ n
    bad [] reads = absurd (cc)
    bad (byte ∷ line) reads = of (statement_of (byte ∷ line)) reads
      where
        of : (found : Option StatementText) → at_line n found ≡ Err number → number ≡ n
        of None reads = cc
        of (Some statement) reads = absurd (cc)

    go : (one : Result (Option StatementLine) ℕ) → line_read n first ≡ one → (rest : Result (List StatementLine) ℕ) → lines_read (n + 1) texts ≡ rest →
        (one >>= (λ f. rest >>= (λ others. Ok (option_to_list f ++ others)))) ≡ Err number → (m : ℕ) → slice_get (first ∷ texts) m ≡ Some text → n + m < number →
        ((l : ℕ) → lines_read (n + 1) texts ≡ Err number → slice_get texts l ≡ Some text → text ≢ [] → n + 1 + l < number → (statement : StatementText) × (statement_of text ≡ Some statement)) →
        (statement : StatementText) × (statement_of text ≡ Some statement)
    go (Err fault) one_is rest rest_is is m at before later =
        let same : fault ≡ number = cc in
        let first_bad = bad first (one_is ∙ ap Err same) in
        absurd (omega (arith, before, first_bad))
    go (Ok given) one_is rest rest_is is zero at before later =
        let same : first ≡ text = same_Some first text at in
        let one = given-by n first given one_is (λ empty. filled (sym same ∙ empty)) in
        (one.line.statement, subst (λ (bytes : List ℕ). statement_of bytes ≡ Some one.line.statement) same one.read)
    go (Ok given) one_is (Err fault) rest_is is (suc m) at before later =
        let same : fault ≡ number = cc in
        later m (rest_is ∙ ap Err same) at filled (omega (arith, before))
    go (Ok given) one_is (Ok others) rest_is is (suc m) at before later = absurd (cc)

-- ---- a file

-- what is read of a file are the statements of its lines
pub lines-of : (bytes : List ℕ) (lines : List StatementLine) → statements_of bytes ≡ Ok lines → AreLinesOf bytes lines
unfolding statements_of
lines-of bytes lines is = record {
  each = All-weaker (λ line. (text : List ℕ) × IsLineOf bytes line.line text × (statement_of text ≡ Some line.statement)) (StandsInFile bytes)
      (λ line there. (there.0, there.1, text-of there.0 line.statement there.2)) lines (counted_read bytes lines is);
  every = λ number text at filled.
      let (k, counted, there) = part-of bytes number text at in
      let (line, has, own) = each-given 1 (lines_of bytes) lines k text is there filled in
      (line, has, own ∙ sym counted);
  order = numbers-ascend 1 (lines_of bytes) lines is;
}

-- and what is refused is the first line that is none
pub first-bad : (bytes : List ℕ) (number : ℕ) → statements_of bytes ≡ Err number → IsFirstBad bytes number
unfolding statements_of
first-bad bytes number is =
    let (text, at, filled, unread) = counted_refused bytes number is in record {
      text = text;
      line = at;
      filled = filled;
      bad = λ statement has. none-some statement (sym unread ∙ of-text text statement has);
      first = λ earlier other there before some.
          let (k, counted, part) = part-of bytes earlier other there in
          let (statement, reads) = given-before 1 (lines_of bytes) number k other is part some (omega (arith, counted, before)) in
          (statement, text-of other statement reads);
    }
