-- Counts of texts, and the names that follow from them. For `count`, `counts_of` and 3 more.
use Rattle.std.proofs.Common.{◌≡◌, ℕ, zero, suc, ◌+◌, ◌<◌, ◌≤◌, ◌==◌, List, [], ◌∷◌, ◌++◌, Bool, true, false, cond, length, take, drop, get_or, Some, filter, refl, sym, ap, ◌∙◌, arith, add-one, add-zero, eqb, length-append, length-take, drop-cons}
use Rattle.std.specs.Cmp.Lexicographic.{slice_cmp, bytes_decides, nat_list_eq_equiv}
use Rattle.std.specs.List.{position_or_len, range_with_len}
use Rattle.std.specs.Map.{lookup}
use Rattle.std.specs.Option.{unwrap_or}
use Rattle.std.specs.Ordering.{nat_cmp, is_eq}
use Rattle.std.specs.Str.{bytes_eq}
use Rattle.std.proofs.Math.Seq.{take-length}
use Rattle.std.proofs.lemmas.Bool.{eq-eqb, ne_eqb}
use Rattle.std.proofs.lemmas.List.{take_more}
use Rattle.std.proofs.lemmas.List.Elements.{filter-append}
use Rattle.std.proofs.lemmas.List.Sums.{count_by-le-length, length-filter}
use Rattle.std.proofs.lemmas.Map.Text.{is_eq-slice_cmp}
use Rattle.np_names.specs.Counts.{HoldsCounts, noted, times, with_number}
use Rattle.np_names.specs.Names.{name_at, namesakes, suffix, wish_at}

-- ---- counts of texts

-- one more text
times-push : (text : List ℕ) (texts : List (List ℕ)) (one : List ℕ) → times text (texts ++ one ∷ []) ≡ times text texts + cond (bytes_eq one text) 1 0
times-push text texts one =
    let test = λ (other : List ℕ). bytes_eq other text in
    ap length (filter-append test texts (one ∷ [])) ∙ length-append (filter test texts) (filter test (one ∷ [])) ∙ ap (λ n. times text texts + n) (by (bytes_eq one text))
  where
    by : (b : Bool) → length (cond b (one ∷ []) []) ≡ cond b 1 0
    by true = refl
    by false = refl

times-le : (text : List ℕ) (texts : List (List ℕ)) → times text texts ≤ length texts
times-le text texts =
    let test = λ (other : List ℕ). bytes_eq other text in
    omega (arith, length-filter test texts, count_by-le-length test texts)

pub times-take-le : (text : List ℕ) (texts : List (List ℕ)) (i : ℕ) → times text (take i texts) ≤ i
times-take-le text texts i = omega (arith, times-le text (take i texts), length-take i texts)

-- a map in which the count of one more text is one higher
pub HoldsCounts-push : (earlier : List (List ℕ)) (one key : List ℕ) (count : ℕ) (before after : List (List ℕ × ℕ)) → key ≡ one → count ≡ noted before one
    → ((text : List ℕ) → lookup (λ other. is_eq (slice_cmp nat_cmp text other)) after ≡ cond (is_eq (slice_cmp nat_cmp key text)) (Some (count + 1))
    (lookup (λ other. is_eq (slice_cmp nat_cmp text other)) before))
    → HoldsCounts earlier before → HoldsCounts (earlier ++ one ∷ []) after
HoldsCounts-push earlier one key count before after is_key is_count updates counts text =
    ap (λ o. unwrap_or o 0) (updates text)
    ∙ rw (is_key, is_count, is_eq-slice_cmp one text) (by (bytes_eq one text) refl ∙ sym (times-push text earlier one))
  where
    by : (b : Bool) → bytes_eq one text ≡ b → unwrap_or (cond b (Some (noted before one + 1)) (lookup (λ other. is_eq (slice_cmp nat_cmp text other)) before)) 0 ≡ times text earlier + cond b 1 0
    by true same = ap (λ n. n + 1) (ap (noted before) ((bytes_decides one text).0 same) ∙ counts text)
    by false apart = counts text ∙ sym (add-zero (times text earlier))

-- the texts before a place and the one there are those before the next
pub HoldsCounts-more : (texts : List (List ℕ)) (i : ℕ) (one : List ℕ) (entries : List (List ℕ × ℕ)) → i < length texts → one ≡ get_or texts i [] → HoldsCounts (take i texts ++ one ∷ []) entries →
    HoldsCounts (take (i + 1) texts) entries
HoldsCounts-more texts i one entries within is counts text =
    counts text ∙ ap (λ (x : List ℕ). times text (take i texts ++ x ∷ [])) is ∙ sym (ap (times text) (take_more texts i [] within))

-- ---- places among namesakes

-- a place stands among those that pass a test behind those before it that pass
position-among : (p : ℕ → Bool) (place a n k : ℕ) → k < n → a + k ≡ place → p place ≡ true →
    position_or_len (λ other. other == place) (filter p (range_with_len a n)) ≡ length (filter p (range_with_len a k))
position-among p place a zero k within at passes = absurd (omega arith)
position-among p place a (suc n) zero within at passes =
    let here : a ≡ place = omega arith in
    rw (ap p here ∙ passes, eq-eqb a place here) refl
position-among p place a (suc n) (suc k) within at passes =
    by (p a) (ne_eqb a place (λ same. omega arith)) (position-among p place (a + 1) n k (omega arith) (omega arith) passes)
  where
    more : List ℕ
    more = filter p (range_with_len (a + 1) n)

    fewer : List ℕ
    fewer = filter p (range_with_len (a + 1) k)

    by : (b : Bool) → eqb a place ≡ false → position_or_len (λ other. other == place) more ≡ length fewer →
        position_or_len (λ other. other == place) (cond b (a ∷ more) more) ≡ length (cond b (a ∷ fewer) fewer)
    by true apart behind = rw apart (omega (arith, behind))
    by false apart behind = behind

-- and it is one of them
is-among : (p : ℕ → Bool) (place a n k : ℕ) → k < n → a + k ≡ place → p place ≡ true →
    position_or_len (λ other. other == place) (filter p (range_with_len a n)) < length (filter p (range_with_len a n))
is-among p place a zero k within at passes = absurd (omega arith)
is-among p place a (suc n) zero within at passes =
    let here : a ≡ place = omega arith in
    rw (ap p here ∙ passes, eq-eqb a place here) (omega arith)
is-among p place a (suc n) (suc k) within at passes =
    by (p a) (ne_eqb a place (λ same. omega arith)) (is-among p place (a + 1) n k (omega arith) (omega arith) passes)
  where
    more : List ℕ
    more = filter p (range_with_len (a + 1) n)

    by : (b : Bool) → eqb a place ≡ false → position_or_len (λ other. other == place) more < length more →
        position_or_len (λ other. other == place) (cond b (a ∷ more) more) < length (cond b (a ∷ more) more)
    by true apart behind = rw apart (omega (arith, behind))
    by false apart behind = behind

-- as many places pass as texts at them
in-turn : (texts : List (List ℕ)) (f : List ℕ → Bool) (a k : ℕ) → a + k ≤ length texts →
    length (filter (λ place. f (get_or texts place [])) (range_with_len a k)) ≡ length (filter f (take k (drop a texts)))
in-turn texts f a zero within = refl
in-turn texts f a (suc k) within =
    by (f (get_or texts a [])) (in-turn texts f (a + 1) k (omega arith))
    ∙ sym (ap (λ rest. length (filter f (take (suc k) rest))) split)
  where
    short : a < length texts
    short = omega arith

    split : drop a texts ≡ get_or texts a [] ∷ drop (a + 1) texts
    split = drop-cons texts a [] short ∙ rw add-one refl

    by : (b : Bool) → length (filter (λ place. f (get_or texts place [])) (range_with_len (a + 1) k)) ≡ length (filter f (take k (drop (a + 1) texts)))
        → length (cond b (a ∷ filter (λ place. f (get_or texts place [])) (range_with_len (a + 1) k)) (filter (λ place. f (get_or texts place [])) (range_with_len (a + 1) k)))
        ≡ length (cond b (get_or texts a [] ∷ filter f (take k (drop (a + 1) texts))) (filter f (take k (drop (a + 1) texts))))
    by true rest = omega (arith, rest)
    by false rest = rest

-- ---- names

-- as many namesakes as wishes for the same name
count-namesakes : (wishes : List (List ℕ)) (place : ℕ) → length (namesakes wishes place) ≡ times (wish_at wishes place) wishes
count-namesakes wishes place =
    in-turn wishes (λ wish. bytes_eq wish (wish_at wishes place)) 0 (length wishes) (omega arith)
    ∙ ap (times (wish_at wishes place)) (take-length wishes)

abbrev pub number_among : List ℕ → ℕ → ℕ
number_among places place = position_or_len (λ other. other == place) places

wish-itself : (wishes : List (List ℕ)) (place : ℕ) → bytes_eq (wish_at wishes place) (wish_at wishes place) ≡ true
wish-itself wishes place = nat_list_eq_equiv.refl (wish_at wishes place)

-- the namesakes before a place are the wishes before it for the same name
number-before : (wishes : List (List ℕ)) (place : ℕ) → place < length wishes → number_among (namesakes wishes place) place ≡ times (wish_at wishes place) (take place wishes)
number-before wishes place within =
    position-among (λ other. bytes_eq (wish_at wishes other) (wish_at wishes place)) place 0 (length wishes) place within (omega arith) (wish-itself wishes place)
    ∙ in-turn wishes (λ wish. bytes_eq wish (wish_at wishes place)) 0 place (omega arith)

pub number-among-namesakes : (wishes : List (List ℕ)) (place : ℕ) → place < length wishes → number_among (namesakes wishes place) place < length (namesakes wishes place)
number-among-namesakes wishes place within =
    is-among (λ other. bytes_eq (wish_at wishes other) (wish_at wishes place)) place 0 (length wishes) place within (omega arith) (wish-itself wishes place)

pub few-namesakes : (wishes : List (List ℕ)) (place : ℕ) → length (namesakes wishes place) ≤ length wishes
few-namesakes wishes place = omega (arith, count-namesakes wishes place, times-le (wish_at wishes place) wishes)

-- the name at a place follows from how many wish for it, there and before
pub name_at-counted : (wishes : List (List ℕ)) (wish name : List ℕ) (place count before : ℕ) → place < length wishes → wish ≡ wish_at wishes place
    → count ≡ times wish wishes → before ≡ times wish (take place wishes) → name ≡ with_number wish count before
    → name ≡ name_at wishes place
unfolding name_at suffix
name_at-counted wishes wish name place count before within is_wish is_count is_before is_name =
    is_name
    ∙ ap (λ (w : List ℕ). with_number w count before) is_wish
    ∙ ap (λ n. with_number (wish_at wishes place) n before) (is_count ∙ ap (λ (w : List ℕ). times w wishes) is_wish ∙ sym (count-namesakes wishes place))
    ∙ ap (with_number (wish_at wishes place) (length (namesakes wishes place))) (is_before ∙ ap (λ (w : List ℕ). times w (take place wishes)) is_wish ∙ sym (number-before wishes place within))
