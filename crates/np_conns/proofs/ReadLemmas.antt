-- Reading piece by piece what was printed piece by piece. For `add_part`, `read_parts` and `read_runs`.
use Rattle.std.proofs.Common.{◌≡◌, ℕ, zero, suc, ◌+◌, ◌<◌, ◌≤◌, List, [], ◌∷◌, ◌++◌, Bool, true, ◌||◌, eqb, length, get_or, take, drop, map, codes, Option, Some, None, unwrap_or, MatchOption, inl, inr, ◌⊎◌, sym, ◌∙◌, ap, arith}
use Rattle.std.proofs.lemmas.Bool.{false≢true}
use Rattle.std.proofs.lemmas.List.{get_or-map, length-map, take_all, take_more}
use Rattle.std.proofs.lemmas.List.Folds.{list_any_more}
use Rattle.std.specs.Borrow.{Bor}
use Rattle.std.specs.List.{slice_split, join_by, list_any, AllByRecursion}
use Rattle.np_conns.specs.Prelude.{IsPart, IsRun, Part, Proto, Range, Sctp, Tcp, Udp, part_text, run_text, runs_of_part, text_of_part}
use Rattle.np_conns.proofs.OneText.{runs_text-cut, part_text-lacks}
use Rattle.np_conns.proofs.SplitLemmas.{lacks, slice_split-join_by}

-- what holds of each item holds of the item at a place
pub all_at : {X : Type 0} (P : X → Type 0) (xs : List X) (k : ℕ) (d : X) → AllByRecursion P xs → k < length xs → P (get_or xs k d)
all_at P [] k d all within = absurd (omega arith)
all_at P (x ∷ xs) zero d all within = all.0
all_at P (x ∷ xs) (suc k) d all within = all_at P xs k d all.1 (omega arith)

-- the piece at a place is the text of the item there
pub piece_at : {X : Type 0} (f : X → List ℕ) (xs : List X) (pieces : List (List ℕ)) (k : ℕ) (piece : List ℕ) (d : X) → pieces ≡ map f xs → (k < length pieces) × (piece ≡ get_or pieces k piece) →
    (k < length xs) × (piece ≡ f (get_or xs k d))
piece_at f xs pieces k piece d cut turn =
    let as_many : length pieces ≡ length xs = ap length cut ∙ length-map xs f in
    let within : k < length xs = omega arith in
    (within, turn.1 ∙ ap (λ ps. get_or ps k piece) cut ∙ get_or-map f xs k d piece within)

-- a set that takes one more item's members in has those of one more item
pub one_more : {X S : Type 0} (test : S → X → Bool) (xs : List X) (k : ℕ) (d : X) (old new : S → Bool) → k < length xs → ((s : S) → old s ≡ list_any (test s) (take k xs)) →
    ((s : S) → new s ≡ (old s || test s (get_or xs k d))) → (s : S) → new s ≡ list_any (test s) (take (k + 1) xs)
one_more test xs k d old new within so_far grown s =
    grown s ∙ ap (λ b. b || test s (get_or xs k d)) (so_far s) ∙ sym (list_any_more (test s) xs k d within)

-- where a value is found, it is not missing
pub not_both : {X : Type 0} (found : Option X) (x : X) → found ≡ None → found ≡ Some x → ⊥
not_both found x none some = cc

-- the items so far, with the next one put last, are the items up to it
pub one_more_taken : {X : Type 0} (xs : List X) (k : ℕ) (d x : X) (found : Option X) (taken made : List X) → k < length xs → taken ≡ take k xs → found ≡ Some x → found ≡ Some (get_or xs k d) →
    made ≡ taken ++ x ∷ [] → made ≡ take (k + 1) xs
one_more_taken xs k d x found taken made within so_far is_x is_item adds =
    let item : x ≡ get_or xs k d = cc in
    adds ∙ ap (λ front. front ++ x ∷ []) so_far ∙ ap (λ last. take k xs ++ last ∷ []) item ∙ sym (take_more xs k d within)

-- the runs of a printed text, in its pieces
pub run_at : (run : Range ℕ) (others : List (Range ℕ)) (text piece : List ℕ) (k : ℕ) → AllByRecursion IsRun (run ∷ others) → text ≡ join_by run_text (codes ",") (run ∷ others) →
    (k < length (slice_split (λ b. eqb b 44) text)) × (piece ≡ get_or (slice_split (λ b. eqb b 44) text) k piece) → (k < length (run ∷ others)) × (piece ≡ run_text (get_or (run ∷ others) k run))
run_at run others text piece k real printed turn =
    piece_at run_text (run ∷ others) (slice_split (λ b. eqb b 44) text) k piece run (ap (slice_split (λ b. eqb b 44)) printed ∙ runs_text-cut run others real) turn

-- after the last piece, all runs are taken
pub runs_done : (run : Range ℕ) (others : List (Range ℕ)) (text : List ℕ) (k : ℕ) → AllByRecursion IsRun (run ∷ others) → text ≡ join_by run_text (codes ",") (run ∷ others) →
    k ≡ length (slice_split (λ b. eqb b 44) text) → take k (run ∷ others) ≡ run ∷ others
runs_done run others text k real printed end =
    let cut = ap (slice_split (λ b. eqb b 44)) printed ∙ runs_text-cut run others real in
    take_all k (run ∷ others) (omega (arith, end, ap length cut, length-map (run ∷ others) run_text))

-- a part does not begin with a space
part-no_space : (proto : Proto) (runs : List (Range ℕ)) (rest : List ℕ) → part_text proto runs ≡ 32 ∷ rest → ⊥
part-no_space Tcp runs rest same = false≢true (ap (λ text. eqb (get_or text 0 0) 32) same)
part-no_space Udp runs rest same = false≢true (ap (λ text. eqb (get_or text 0 0) 32) same)
part-no_space Sctp runs rest same = false≢true (ap (λ text. eqb (get_or text 0 0) 32) same)

-- a part without the space that may stand before it
pub without_space : (part : Part) (text : Bor (List ℕ)) (stripped : Option (Bor (List ℕ))) → MatchOption stripped ((rest : List ℕ) → text.now ≡ 32 ∷ rest → ⊥) (λ rest. text.now ≡ 32 ∷ rest.now) →
    (text.now ≡ text_of_part part) ⊎ (text.now ≡ 32 ∷ text_of_part part) → (unwrap_or stripped text).now ≡ text_of_part part
without_space part text None none (inl plain) = plain
without_space part text None none (inr spaced) = absurd (none (text_of_part part) spaced)
without_space part text (Some rest) some (inl plain) = absurd (part-no_space part.proto (runs_of_part part) rest.now (sym plain ∙ some))
without_space part text (Some rest) some (inr spaced) = ap (drop 1) (sym some ∙ spaced)

no_semicolon : (parts : List Part) → AllByRecursion IsPart parts → AllByRecursion (λ part. lacks 59 (32 ∷ text_of_part part) ≡ true) parts
no_semicolon [] real = tt
no_semicolon (part ∷ others) real = (part_text-lacks part.proto part.first part.others real.0, no_semicolon others real.1)

-- parts that are joined, cut at the semicolons
parts-cut : (part : Part) (others : List Part) → AllByRecursion IsPart (part ∷ others) →
    slice_split (λ b. eqb b 59) (join_by text_of_part (codes "; ") (part ∷ others)) ≡ text_of_part part ∷ map (λ p. 32 ∷ text_of_part p) others
parts-cut part others real =
    slice_split-join_by 59 (32 ∷ []) text_of_part part others (part_text-lacks part.proto part.first part.others real.0) (no_semicolon others real.1)

-- the piece at a place, of pieces that have a space before all but the first
spaced_piece_at : (part : Part) (others : List Part) (pieces : List (List ℕ)) (k : ℕ) (piece : List ℕ) → pieces ≡ text_of_part part ∷ map (λ p. 32 ∷ text_of_part p) others →
    (k < length pieces) × (piece ≡ get_or pieces k piece) →
    (k < length (part ∷ others)) × ((piece ≡ text_of_part (get_or (part ∷ others) k part)) ⊎ (piece ≡ 32 ∷ text_of_part (get_or (part ∷ others) k part)))
spaced_piece_at part others pieces zero piece cut turn = (omega arith, inl (turn.1 ∙ ap (λ ps. get_or ps 0 piece) cut))
spaced_piece_at part others pieces (suc k) piece cut turn =
    let as_many : length pieces ≡ suc (length others) = ap length cut ∙ ap suc (length-map others (λ p. 32 ∷ text_of_part p)) in
    let within : k < length others = omega arith in
    (omega arith, inr (turn.1 ∙ ap (λ ps. get_or ps (suc k) piece) cut ∙ get_or-map (λ p. 32 ∷ text_of_part p) others k part piece within))

pub part_at : (part : Part) (others : List Part) (text piece : List ℕ) (k : ℕ) → AllByRecursion IsPart (part ∷ others) → text ≡ join_by text_of_part (codes "; ") (part ∷ others) →
    (k < length (slice_split (λ b. eqb b 59) text)) × (piece ≡ get_or (slice_split (λ b. eqb b 59) text) k piece) →
    (k < length (part ∷ others)) × ((piece ≡ text_of_part (get_or (part ∷ others) k part)) ⊎ (piece ≡ 32 ∷ text_of_part (get_or (part ∷ others) k part)))
part_at part others text piece k real printed turn =
    spaced_piece_at part others (slice_split (λ b. eqb b 59) text) k piece (ap (slice_split (λ b. eqb b 59)) printed ∙ parts-cut part others real) turn

-- a text of at most three parts has at most three pieces
pub few_pieces : (part : Part) (others : List Part) (text : List ℕ) (count : ℕ) → length others ≤ 2 → AllByRecursion IsPart (part ∷ others) → text ≡ join_by text_of_part (codes "; ") (part ∷ others) →
    count ≡ length (slice_split (λ b. eqb b 59) text) → count ≤ 3
few_pieces part others text count few real printed is =
    let cut = ap (slice_split (λ b. eqb b 59)) printed ∙ parts-cut part others real in
    omega (arith, is, ap length cut, length-map others (λ p. 32 ∷ text_of_part p))

-- after the last piece, all parts are taken
pub parts_done : (part : Part) (others : List Part) (text : List ℕ) (k : ℕ) → AllByRecursion IsPart (part ∷ others) → text ≡ join_by text_of_part (codes "; ") (part ∷ others) →
    k ≡ length (slice_split (λ b. eqb b 59) text) → take k (part ∷ others) ≡ part ∷ others
parts_done part others text k real printed end =
    let cut = ap (slice_split (λ b. eqb b 59)) printed ∙ parts-cut part others real in
    take_all k (part ∷ others) (omega (arith, end, ap length cut, length-map others (λ p. 32 ∷ text_of_part p)))
