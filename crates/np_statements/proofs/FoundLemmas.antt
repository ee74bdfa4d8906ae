-- Lines with their ends found. For `first_broken`, `unknown_in_line` and 2 more.
use Rattle.std.proofs.Common.{◌≡◌, ℕ, zero, suc, ◌+◌, ◌<◌, ◌≤◌, List, [], ◌∷◌, ◌++◌, Option, Some, None, Result, Ok, Err, is_ok, All, length, drop, get_or, refl, sym, ap, subst, ◌∙◌, inl, inr, append-nil, append_assoc}
use Rattle.std.specs.Borrow.{Bor}
use Rattle.std.specs.Option.{option_or}
use Rattle.std.specs.Prelude.{IsOk}
use Rattle.std.proofs.lemmas.Bool.{and_cases, false≢true}
use Rattle.std.proofs.lemmas.List.{at_drop_more, drop_all}
use Rattle.std.proofs.lemmas.List.Elements.{All-cons, All-get_or, All-head, All-nil, All-same, All-tail}
use Rattle.np_statements.specs.Prelude.{AskedLine, Ends, EstateLists, IsAsked, IsWellLine, StatementLine, TellsUnknown, asked_line, ends_found, ends_of, is_address_form, ◌>>=◌}
use Rattle.np_statements.proofs.EndLemmas.{ends_of-are}
use Rattle.np_statements.proofs.StepLemmas.{after, after-none, same_ok, then-ok}

-- ---- what is asked

-- what a line asks, by the ends of its sides
pub record IsAskedBy (lists : EstateLists) (line : StatementLine) (asked : AskedLine) : Type 0 where
  pub source : Ends
  pub destination : Ends
  pub sources : ends_of lists line.statement.source ≡ Ok source
  pub destinations : ends_of lists line.statement.destination ≡ Ok destination
  pub is : record { line = line.line; question = record { wanted = line.statement.wanted; source = source; destination = destination; conns = line.statement.conns } } ≡ asked

pub asked-by : (lists : EstateLists) (line : StatementLine) (asked : AskedLine) → asked_line lists line ≡ Ok asked → IsAskedBy lists line asked
unfolding asked_line
asked-by lists line asked is =
    let made : Ends → Ends → AskedLine = λ from to. record { line = line.line; question = record { wanted = line.statement.wanted; source = from; destination = to; conns = line.statement.conns } } in
    let (source, sources, next) = then-ok (ends_of lists line.statement.source) (λ from. ends_of lists line.statement.destination >>= (λ to. Ok (made from to))) asked is in
    let (destination, destinations, last) = then-ok (ends_of lists line.statement.destination) (λ to. Ok (made source to)) asked next in
    record { source = source; destination = destination; sources = sources; destinations = destinations; is = same_ok (made source destination) asked last }

-- it is known
pub asked-known : (lists : EstateLists) (line : StatementLine) (asked : AskedLine) → IsWellLine line → IsAskedBy lists line asked → IsAsked lists asked
asked-known lists line asked well by =
    let sources = ends_of-are lists line.statement.source by.source by.sources in
    let destinations = ends_of-are lists line.statement.destination by.destination by.destinations in
    subst (IsAsked lists) by.is (record {
      sources = sources.works;
      destinations = destinations.works;
      sources_ascend = sources.ascend;
      destinations_ascend = destinations.ascend;
      one_side = elim (and_cases (is_address_form line.statement.source) (is_address_form line.statement.destination) well.one_side) [
        | inl none ↦ inl (sources.alone none)
        | inr none ↦ inr (destinations.alone none)
      ];
    })

-- what some lines ask, by the first of them
pub record AreFoundBy (lists : EstateLists) (line : StatementLine) (lines : List StatementLine) (asked : List AskedLine) : Type 0 where
  pub first : AskedLine
  pub others : List AskedLine
  pub first_is : asked_line lists line ≡ Ok first
  pub others_are : ends_found lists lines ≡ Ok others
  pub are : first ∷ others ≡ asked

pub found-by : (lists : EstateLists) (line : StatementLine) (lines : List StatementLine) (asked : List AskedLine) → ends_found lists (line ∷ lines) ≡ Ok asked → AreFoundBy lists line lines asked
found-by lists line lines asked is =
    let (first, first_is, next) = then-ok (asked_line lists line) (λ one. ends_found lists lines >>= (λ others. Ok (one ∷ others))) asked is in
    let (others, others_are, last) = then-ok (ends_found lists lines) (λ rest. Ok (first ∷ rest)) asked next in
    record { first = first; others = others; first_is = first_is; others_are = others_are; are = same_ok (first ∷ others) asked last }

pub all-known : (lists : EstateLists) (lines : List StatementLine) (asked : List AskedLine) → All IsWellLine lines → ends_found lists lines ≡ Ok asked → All (IsAsked lists) asked
all-known lists [] asked well is = All-same (IsAsked lists) asked [] (sym (same_ok [] asked is)) (All-nil (IsAsked lists))
all-known lists (line ∷ lines) asked well is =
    let by = found-by lists line lines asked is in
    subst (All (IsAsked lists)) by.are
    (All-cons (IsAsked lists) by.first by.others (asked-known lists line by.first (All-head IsWellLine line lines well) (asked-by lists line by.first by.first_is))
    (all-known lists lines by.others (All-tail IsWellLine line lines well) by.others_are))

-- ---- in a loop

-- an item of a list at a turn
pub at_turn : {X : Type 0} (P : X → Type 0) (xs : List X) (i : ℕ) (x : X) → (i < length xs) × (x ≡ get_or xs i x) → All P xs → P x
at_turn P xs i x (within, is) all = subst P (sym is) (All-get_or P xs i x within all)

line_at : (lists : EstateLists) (lines : List StatementLine) (i : ℕ) (line : StatementLine) (front : List AskedLine) → (i < length lines) × (line ≡ get_or lines i line) →
    after front (ends_found lists (drop i lines)) ≡ after front (asked_line lists line >>= (λ first. ends_found lists (drop (i + 1) lines) >>= (λ others. Ok (first ∷ others))))
line_at lists lines i line front (within, is) =
    at_drop_more (λ (rest : List StatementLine). after front (ends_found lists rest)) lines i line within
    ∙ ap (λ (one : StatementLine). after front (asked_line lists one >>= (λ first. ends_found lists (drop (i + 1) lines) >>= (λ others. Ok (first ∷ others))))) (sym is)

found_by : (lists : EstateLists) (lines : List StatementLine) (i : ℕ) (front : List AskedLine) → Result AskedLine (List ℕ) → Result (List AskedLine) (List ℕ)
found_by lists lines i front found = after front (found >>= (λ first. ends_found lists (drop (i + 1) lines) >>= (λ others. Ok (first ∷ others))))

after-step : (front : List AskedLine) (first : AskedLine) (rest : Result (List AskedLine) (List ℕ)) → after front (rest >>= (λ others. Ok (first ∷ others))) ≡ after (front ++ first ∷ []) rest
after-step front first (Ok more) = ap Ok (sym (append_assoc front (first ∷ []) more))
after-step front first (Err name) = refl

-- a line more
pub one_found : (lists : EstateLists) (lines : List StatementLine) (i next : ℕ) (line : StatementLine) (front made : List AskedLine) (first : AskedLine) (all : Result (List AskedLine) (List ℕ)) →
    (i < length lines) × (line ≡ get_or lines i line) → all ≡ after front (ends_found lists (drop i lines)) → asked_line lists line ≡ Ok first → made ≡ front ++ first ∷ [] → next ≡ i + 1 →
    all ≡ after made (ends_found lists (drop next lines))
unfolding found_by
one_found lists lines i next line front made first all turn so_far found more later =
    so_far ∙ line_at lists lines i line front turn ∙ ap (found_by lists lines i front) found
    ∙ after-step front first (ends_found lists (drop (i + 1) lines))
    ∙ ap (λ (so : List AskedLine). after so (ends_found lists (drop (i + 1) lines))) (sym more)
    ∙ ap (λ (k : ℕ). after made (ends_found lists (drop k lines))) (sym later)

-- the first name that no workload has
pub not_found : (lists : EstateLists) (lines : List StatementLine) (i : ℕ) (line : StatementLine) (front : List AskedLine) (name : List ℕ) (all : Result (List AskedLine) (List ℕ)) →
    (i < length lines) × (line ≡ get_or lines i line) → all ≡ after front (ends_found lists (drop i lines)) → asked_line lists line ≡ Err name → all ≡ Err name
unfolding found_by
not_found lists lines i line front name all turn so_far found = so_far ∙ line_at lists lines i line front turn ∙ ap (found_by lists lines i front) found

-- and where there is none, all are found
pub all_found : (lists : EstateLists) (lines : List StatementLine) (i : ℕ) (front : List AskedLine) (all : Result (List AskedLine) (List ℕ)) → length lines ≤ i →
    all ≡ after front (ends_found lists (drop i lines)) → all ≡ Ok front
all_found lists lines i front all behind so_far =
    so_far ∙ ap (λ (rest : List StatementLine). after front (ends_found lists rest)) (drop_all i lines behind) ∙ ap Ok (append-nil front)

-- before the first
pub none_found : (lists : EstateLists) (lines : List StatementLine) → ends_found lists lines ≡ after [] (ends_found lists lines)
none_found lists lines = after-none (ends_found lists lines)

-- ---- names that are told

told : {X : Type 0} (found : Result X (List ℕ)) → IsOk found → (x : X) × (found ≡ Ok x)
told (Ok x) is = (x, refl)
told (Err name) is = absurd (false≢true is)

told-by : {X : Type 0} (found : Result X (List ℕ)) (x : X) → found ≡ Ok x → IsOk found
told-by found x is = ap is_ok is

-- what a line asks, by what is found of its ends
abbrev asked_by : StatementLine → Result Ends (List ℕ) → Result Ends (List ℕ) → Result AskedLine (List ℕ)
asked_by line source destination = source >>= (λ from. destination >>=
    (λ to. Ok (record { line = line.line; question = record { wanted = line.statement.wanted; source = from; destination = to; conns = line.statement.conns } })))

-- of a line by those of its ends, its source first
pub told-line : (lists : EstateLists) (line : StatementLine) (source destination : Option (Bor (List ℕ))) → TellsUnknown source (ends_of lists line.statement.source) →
    TellsUnknown destination (ends_of lists line.statement.destination) → TellsUnknown (option_or source destination) (asked_line lists line)
unfolding asked_line
told-line lists line (Some name) destination from to = ap (λ (found : Result Ends (List ℕ)). asked_by line found (ends_of lists line.statement.destination)) from
told-line lists line None (Some name) from to =
    let source = told (ends_of lists line.statement.source) from in
    ap (λ (found : Result Ends (List ℕ)). asked_by line found (ends_of lists line.statement.destination)) source.1
    ∙ ap (asked_by line (Ok source.0)) to
told-line lists line None None from to =
    let source = told (ends_of lists line.statement.source) from in
    let destination = told (ends_of lists line.statement.destination) to in
    told-by (asked_line lists line) _
    (ap (λ (found : Result Ends (List ℕ)). asked_by line found (ends_of lists line.statement.destination)) source.1
    ∙ ap (asked_by line (Ok source.0)) destination.1)

-- the lines so far ask something
abbrev pub AreFoundTo : EstateLists → List StatementLine → ℕ → Type 0
AreFoundTo lists lines i = (front : List AskedLine) × (ends_found lists lines ≡ after front (ends_found lists (drop i lines)))

pub told_more : (lists : EstateLists) (lines : List StatementLine) (i : ℕ) (line : StatementLine) → (i < length lines) × (line ≡ get_or lines i line) → AreFoundTo lists lines i →
    IsOk (asked_line lists line) → AreFoundTo lists lines (i + 1)
told_more lists lines i line turn so_far is =
    let first = told (asked_line lists line) is in
    (so_far.0 ++ first.0 ∷ [], one_found lists lines i (i + 1) line so_far.0 (so_far.0 ++ first.0 ∷ []) first.0 _ turn so_far.1 first.1 refl refl)

pub told_all : (lists : EstateLists) (lines : List StatementLine) (i : ℕ) → length lines ≤ i → AreFoundTo lists lines i → IsOk (ends_found lists lines)
told_all lists lines i behind so_far = told-by _ so_far.0 (all_found lists lines i so_far.0 _ behind so_far.1)

-- what is found of lines is found of those behind some
pub found-behind : (lists : EstateLists) (lines : List StatementLine) (i : ℕ) → IsOk (ends_found lists lines) → (asked : List AskedLine) × (ends_found lists (drop i lines) ≡ Ok asked)
found-behind lists lines zero is = told (ends_found lists lines) is
found-behind lists [] (suc i) is = ([], refl)
found-behind lists (line ∷ lines) (suc i) is =
    let all = told (ends_found lists (line ∷ lines)) is in
    let by = found-by lists line lines all.0 all.1 in
    found-behind lists lines i (told-by (ends_found lists lines) by.others by.others_are)

-- lines ask as much as they are
pub length-found : (lists : EstateLists) (lines : List StatementLine) (asked : List AskedLine) → ends_found lists lines ≡ Ok asked → length asked ≡ length lines
length-found lists [] asked is = ap length (sym (same_ok [] asked is))
length-found lists (line ∷ lines) asked is =
    let by = found-by lists line lines asked is in
    ap length (sym by.are) ∙ ap suc (length-found lists lines by.others by.others_are)
