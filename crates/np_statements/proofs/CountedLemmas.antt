-- The lines of a file are counted by its line feeds. For `lines_are_counted_by_line_feeds` and crates above.
use Rattle.std.proofs.Common.{◌≡◌, ◌≢◌, ◌⊎◌, ℕ, zero, suc, ◌+◌, ◌==◌, List, [], ◌∷◌, ◌++◌, Bool, true, false, Option, Some, None, Result, Ok, Err, length, option_to_list, arith, refl, sym, ap, subst, ◌∙◌, inl, inr, if◌then◌else◌}
use Rattle.std.specs.Prelude.{All}
use Rattle.std.specs.List.{onto_first, slice_get, slice_split}
use Rattle.std.proofs.lemmas.Bool.{eqb-true}
use Rattle.std.proofs.lemmas.List.Elements.{All-cons, All-nil, All-weaker}
use Rattle.std.proofs.lemmas.Option.{same_Some}
use Rattle.std.proofs.lemmas.List.Splits.{length-slice_split, slice_split-cons_no, slice_split-cons_yes}
use Rattle.np_statements.specs.Prelude.{IsLineOf, StatementLine, StatementText, at_line, line_feeds, line_read, lines_of, lines_read, statement_of, statements_of, ◌>>=◌}

abbrev pub is_feed : ℕ → Bool
is_feed byte = byte == 10

-- a line feed at the end is one more
pub feeds-end : (front : List ℕ) → line_feeds (front ++ 10 ∷ []) ≡ line_feeds front + 1
feeds-end [] = refl
feeds-end (byte ∷ front) = by (is_feed byte) (feeds-end front)
  where
    by : (feed : Bool) → line_feeds (front ++ 10 ∷ []) ≡ line_feeds front + 1 →
        (if feed then line_feeds (front ++ 10 ∷ []) + 1 else line_feeds (front ++ 10 ∷ [])) ≡ (if feed then line_feeds front + 1 else line_feeds front) + 1
    by true rest = omega (arith, rest)
    by false rest = rest

-- ---- parts

-- a part at a place, with as many line feeds before it
record IsPart (bytes : List ℕ) (k : ℕ) (part : List ℕ) : Type 0 where
  before : List ℕ
  after : List ℕ
  spelled : bytes ≡ before ++ (part ++ after)
  begins : ((k ≡ 0) × (before ≡ [])) ⊎ ((front : List ℕ) × (before ≡ front ++ 10 ∷ []))
  ends : (after ≡ []) ⊎ ((rest : List ℕ) × (after ≡ 10 ∷ rest))
  plain : line_feeds part ≡ 0
  counted : line_feeds before ≡ k

-- the same behind a byte that ends a line
fed : (byte : ℕ) (bytes : List ℕ) (k : ℕ) (part : List ℕ) → is_feed byte ≡ true → IsPart bytes k part → IsPart (byte ∷ bytes) (suc k) part
fed byte bytes k part is at = record {
  before = byte ∷ at.before;
  after = at.after;
  spelled = ap (λ (bs : List ℕ). byte ∷ bs) at.spelled;
  begins = inr (elim at.begins [
    | inl none ↦ ([], ap (λ (bs : List ℕ). byte ∷ bs) none.1 ∙ ap (λ (b : ℕ). b ∷ []) (eqb-true byte 10 is))
    | inr some ↦ (byte ∷ some.0, ap (λ (bs : List ℕ). byte ∷ bs) some.1)
  ]);
  ends = at.ends;
  plain = at.plain;
  counted = rw is (let so_far = at.counted in omega (arith, so_far));
}

-- and behind one that does not: the first part is longer
first_longer : (byte : ℕ) (bytes part : List ℕ) → is_feed byte ≡ false → IsPart bytes 0 part → IsPart (byte ∷ bytes) 0 (byte ∷ part)
first_longer byte bytes part is at =
    let none : at.before ≡ [] = elim at.begins [ inl none ↦ none.1 | inr some ↦ absurd (never at.before some.0 some.1 at.counted) ] in record {
      before = [];
      after = at.after;
      spelled = ap (λ (bs : List ℕ). byte ∷ bs) (at.spelled ∙ ap (λ (bs : List ℕ). bs ++ (part ++ at.after)) none);
      begins = inl (refl, refl);
      ends = at.ends;
      plain = rw is at.plain;
      counted = refl;
    }
  where
    never : (before front : List ℕ) → before ≡ front ++ 10 ∷ [] → line_feeds before ≡ 0 → ⊥
    never before front same zero_is = let more = ap line_feeds same ∙ feeds-end front in omega (arith, more, zero_is)

later_kept : (byte : ℕ) (bytes : List ℕ) (k : ℕ) (part : List ℕ) → is_feed byte ≡ false → IsPart bytes (suc k) part → IsPart (byte ∷ bytes) (suc k) part
later_kept byte bytes k part is at = record {
  before = byte ∷ at.before;
  after = at.after;
  spelled = ap (λ (bs : List ℕ). byte ∷ bs) at.spelled;
  begins = elim at.begins [
    | inl none ↦ absurd (let impossible : suc k ≡ 0 = none.0 in omega (arith, impossible))
    | inr some ↦ inr (byte ∷ some.0, ap (λ (bs : List ℕ). byte ∷ bs) some.1)
  ];
  ends = at.ends;
  plain = at.plain;
  counted = rw is at.counted;
}

part_at : (bytes : List ℕ) (k : ℕ) (part : List ℕ) → slice_get (slice_split is_feed bytes) k ≡ Some part → IsPart bytes k part
part_at [] zero part at =
    subst (IsPart [] 0) (same_Some [] part at) (record { before = []; after = []; spelled = refl; begins = inl (refl, refl); ends = inl refl; plain = refl; counted = refl })
part_at [] (suc k) part at = absurd (cc)
part_at (byte ∷ bytes) k part at = go (is_feed byte) refl k at (part_at bytes)
  where
    parts : List (List ℕ)
    parts = slice_split is_feed bytes

    go : (b : Bool) → is_feed byte ≡ b → (n : ℕ) → slice_get (slice_split is_feed (byte ∷ bytes)) n ≡ Some part → ((m : ℕ) (p : List ℕ) → slice_get parts m ≡ Some p → IsPart bytes m p) →
        IsPart (byte ∷ bytes) n part
    go true is zero found rest =
        subst (IsPart (byte ∷ bytes) 0) (same_Some [] part (sym (ap (λ (ps : List (List ℕ)). slice_get ps 0) (slice_split-cons_yes is_feed byte bytes is)) ∙ found))
        (record { before = []; after = byte ∷ bytes; spelled = refl; begins = inl (refl, refl); ends = inr (bytes, ap (λ (b : ℕ). b ∷ bytes) (eqb-true byte 10 is)); plain = refl; counted = refl })
    go true is (suc n) found rest = fed byte bytes n part is (rest n part (sym (ap (λ (ps : List (List ℕ)). slice_get ps (suc n)) (slice_split-cons_yes is_feed byte bytes is)) ∙ found))
    go false is n found rest = longer parts refl n (sym (ap (λ (ps : List (List ℕ)). slice_get ps n) (slice_split-cons_no is_feed byte bytes is)) ∙ found) rest
      where
        longer : (ps : List (List ℕ)) → parts ≡ ps → (m : ℕ) → slice_get (onto_first byte ps) m ≡ Some part → ((l : ℕ) (p : List ℕ) → slice_get ps l ≡ Some p → IsPart bytes l p) →
            IsPart (byte ∷ bytes) m part
        longer [] same m there each = let some = length-slice_split is_feed bytes in let none = ap length same in absurd (omega (arith, some, none))
        longer (first ∷ others) same zero there each = subst (IsPart (byte ∷ bytes) 0) (same_Some (byte ∷ first) part there) (first_longer byte bytes first is (each 0 first refl))
        longer (first ∷ others) same (suc m) there each = later_kept byte bytes m part is (each (suc m) part there)

-- the part at a place is the line of the number after it
pub line_at : (bytes : List ℕ) (k : ℕ) (part : List ℕ) → slice_get (lines_of bytes) k ≡ Some part → IsLineOf bytes (1 + k) part
line_at bytes k part at =
    let is = part_at bytes k part at in record {
      before = is.before;
      after = is.after;
      spelled = is.spelled;
      begins = elim is.begins [ inl none ↦ inl none.1 | inr some ↦ inr some ];
      ends = is.ends;
      plain = is.plain;
      counted = let count = is.counted in omega (arith, count);
    }

-- ---- what lines give

record IsRead (n : ℕ) (lines : List (List ℕ)) (line : StatementLine) : Type 0 where
  k : ℕ
  text : List ℕ
  at : slice_get lines k ≡ Some text
  number : line.line ≡ n + k
  read : statement_of text ≡ Some line.statement

record IsBad (n : ℕ) (lines : List (List ℕ)) (number : ℕ) : Type 0 where
  k : ℕ
  text : List ℕ
  at : slice_get lines k ≡ Some text
  some : text ≢ []
  is : number ≡ n + k
  unread : statement_of text ≡ None

read_behind : (n : ℕ) (first : List ℕ) (lines : List (List ℕ)) (line : StatementLine) → IsRead (n + 1) lines line → IsRead n (first ∷ lines) line
read_behind n first lines line there = record { k = suc there.k; text = there.text; at = there.at; number = (let is = there.number in omega (arith, is)); read = there.read }

bad_behind : (n : ℕ) (first : List ℕ) (lines : List (List ℕ)) (number : ℕ) → IsBad (n + 1) lines number → IsBad n (first ∷ lines) number
bad_behind n first lines number there = record { k = suc there.k; text = there.text; at = there.at; some = there.some; is = (let is = there.is in omega (arith, is)); unread = there.unread }

-- what a line gives is at its number, and is what it says
line_is : (n : ℕ) (text : List ℕ) (line : StatementLine) → line_read n text ≡ Ok (Some line) → (line.line ≡ n) × (statement_of text ≡ Some line.statement)
line_is n [] line is = absurd (cc)
line_is n (byte ∷ text) line is = go (statement_of (byte ∷ text)) refl is
  where
    go : (found : Option StatementText) → statement_of (byte ∷ text) ≡ found → at_line n found ≡ Ok (Some line) → (line.line ≡ n) × (statement_of (byte ∷ text) ≡ Some line.statement)
    go None at same = absurd (cc)
    go (Some statement) at same =
        let made : StatementLine = record { line = n; statement = statement } in
        let one : made ≡ line = cc in
        (sym (ap (λ (l : StatementLine). l.line) one), at ∙ ap (λ (l : StatementLine). Some l.statement) one)

line_bad : (n : ℕ) (text : List ℕ) (number : ℕ) → line_read n text ≡ Err number → (number ≡ n) × (text ≢ []) × (statement_of text ≡ None)
line_bad n [] number is = absurd (cc)
line_bad n (byte ∷ text) number is = go (statement_of (byte ∷ text)) refl is
  where
    go : (found : Option StatementText) → statement_of (byte ∷ text) ≡ found → at_line n found ≡ Err number → (number ≡ n) × (byte ∷ text ≢ []) × (statement_of (byte ∷ text) ≡ None)
    go None at same = let one : number ≡ n = cc in (one, (λ never. cc), at)
    go (Some statement) at same = absurd (cc)

all_read : (n : ℕ) (texts : List (List ℕ)) (lines : List StatementLine) → lines_read n texts ≡ Ok lines → All (IsRead n texts) lines
all_read n [] lines is = subst (All (IsRead n [])) (let none : [] ≡ lines = cc in none) (All-nil (IsRead n []))
all_read n (text ∷ texts) lines is = go (line_read n text) refl (lines_read (n + 1) texts) refl is (all_read (n + 1) texts)
  where
    go : (first : Result (Option StatementLine) ℕ) → line_read n text ≡ first → (others : Result (List StatementLine) ℕ) → lines_read (n + 1) texts ≡ others →
        (first >>= (λ f. others >>= (λ o. Ok (option_to_list f ++ o)))) ≡ Ok lines → ((rest : List StatementLine) → lines_read (n + 1) texts ≡ Ok rest → All (IsRead (n + 1) texts) rest) →
        All (IsRead n (text ∷ texts)) lines
    go (Err fault) first_is others others_is same each = absurd (cc)
    go (Ok first) first_is (Err fault) others_is same each = absurd (cc)
    go (Ok None) first_is (Ok others) others_is same each =
        let one : others ≡ lines = cc in
        subst (All (IsRead n (text ∷ texts))) one (All-weaker (IsRead (n + 1) texts) (IsRead n (text ∷ texts)) (read_behind n text texts) others (each others others_is))
    go (Ok (Some line)) first_is (Ok others) others_is same each =
        let one : line ∷ others ≡ lines = cc in
        let here = line_is n text line first_is in
        subst (All (IsRead n (text ∷ texts))) one
        (All-cons (IsRead n (text ∷ texts)) line others (record { k = 0; text = text; at = refl; number = (let is_n = here.0 in omega (arith, is_n)); read = here.1 })
        (All-weaker (IsRead (n + 1) texts) (IsRead n (text ∷ texts)) (read_behind n text texts) others (each others others_is)))

first_bad : (n : ℕ) (texts : List (List ℕ)) (number : ℕ) → lines_read n texts ≡ Err number → IsBad n texts number
first_bad n [] number is = absurd (cc)
first_bad n (text ∷ texts) number is = go (line_read n text) refl (lines_read (n + 1) texts) refl is (first_bad (n + 1) texts)
  where
    go : (first : Result (Option StatementLine) ℕ) → line_read n text ≡ first → (others : Result (List StatementLine) ℕ) → lines_read (n + 1) texts ≡ others →
        (first >>= (λ f. others >>= (λ o. Ok (option_to_list f ++ o)))) ≡ Err number → ((m : ℕ) → lines_read (n + 1) texts ≡ Err m → IsBad (n + 1) texts m) → IsBad n (text ∷ texts) number
    go (Err fault) first_is others others_is same bad =
        let one : fault ≡ number = cc in
        let here = line_bad n text number (first_is ∙ ap Err one) in
        record { k = 0; text = text; at = refl; some = here.1; is = (let is_n = here.0 in omega (arith, is_n)); unread = here.2 }
    go (Ok first) first_is (Err fault) others_is same bad =
        let one : fault ≡ number = cc in
        bad_behind n text texts number (bad number (others_is ∙ ap Err one))
    go (Ok first) first_is (Ok others) others_is same bad = absurd (cc)

-- ---- a file

pub counted_read : (bytes : List ℕ) (lines : List StatementLine) → statements_of bytes ≡ Ok lines →
    All (λ line. (text : List ℕ) × IsLineOf bytes line.line text × (statement_of text ≡ Some line.statement)) lines
unfolding statements_of
counted_read bytes lines is =
    All-weaker (IsRead 1 (lines_of bytes)) (λ line. (text : List ℕ) × IsLineOf bytes line.line text × (statement_of text ≡ Some line.statement))
    (λ line there. (there.text, subst (λ (n : ℕ). IsLineOf bytes n there.text) (sym there.number) (line_at bytes there.k there.text there.at), there.read))
    lines (all_read 1 (lines_of bytes) lines is)

pub counted_refused : (bytes : List ℕ) (number : ℕ) → statements_of bytes ≡ Err number → (text : List ℕ) × IsLineOf bytes number text × (text ≢ []) × (statement_of text ≡ None)
unfolding statements_of
counted_refused bytes number is =
    let there = first_bad 1 (lines_of bytes) number is in
    (there.text, subst (λ (n : ℕ). IsLineOf bytes n there.text) (sym there.is) (line_at bytes there.k there.text there.at), there.some, there.unread)
