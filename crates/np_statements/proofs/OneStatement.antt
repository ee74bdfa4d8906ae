-- A line is the text of one statement at most. For `one_statement_of_a_line`, `read_statement` and 2 more.
use Rattle.std.proofs.Common.{◌≡◌, ◌≢◌, ℕ, ◌<◌, ◌==◌, List, [], ◌∷◌, ◌++◌, ◌⊎◌, true, false, Option, Some, None, All, length, drop, codes, slice_index, option_map, refl, sym, ap, subst, ◌∙◌, inl, inr, append_assoc, arith, if◌then◌else◌, lit≤}
use Rattle.std.proofs.lemmas.Bool.{and_from, cases_lt, true≢false}
use Rattle.std.proofs.lemmas.List.{append_cancel_right}
use Rattle.std.proofs.lemmas.List.Elements.{All-head, All-tail}
use Rattle.std.proofs.lemmas.Option.{same_Some}
use Rattle.np_addr.proofs.CanonicalLemmas.{cidr_of-cidr_text}
use Rattle.np_addr.proofs.GrammarLemmas.{cidr_text_iff}
use Rattle.np_addr.proofs.PieceLemmas.{IsOther}
use Rattle.np_addr.specs.Prelude.{cidr_of}
use Rattle.np_statements.specs.Prelude.{Addresses, Block, Cidr, EndForm, IsBefore, IsEndText, IsMark, IsStatementText, IsWellEnd, IsWellStatement, IsWithout, Namespace, Pods, StatementText, Wanted, Work, end_text, is_address_form, statement_text}
use Rattle.np_statements.proofs.SideLemmas.{after_first, first_letter, named_side}
use Rattle.np_statements.proofs.TextLemmas.{IsForeign, arrow_mark, before_arrow, before_colon, cidr_foreign, cidr_some, colon_mark, one_wanted, w_foreign}
use Rattle.np_conns.proofs.OneText.{conns_text-injective}
use Rattle.np_conns.specs.Prelude.{Conns, conns_text, has_spot}

-- ---- ends

-- what a text that begins with `any ` names, by its length
abbrev any_form : List ℕ → EndForm
any_form text = if length text == 6 then Pods else Addresses

-- the ends that a text may name, by its first letters
abbrev form_of : List ℕ → Option EndForm
form_of [] = None
form_of (c ∷ text) =
    if c == 119 then Some (Work (drop 8 text))
    else if c == 110 then Some (Namespace (drop 9 text))
    else if slice_index text 0 == 110 then Some (any_form text)
    else option_map Block (cidr_of (c ∷ text))

n_foreign : IsForeign 110
n_foreign = record { digit = lit≤ tt; dot = refl; colon = refl; slash = refl }

second_other : (c : ℕ) (text : List ℕ) → All (IsOther 110) (c ∷ text) → (slice_index text 0 == 110) ≡ false
second_other c [] others = refl
second_other c (d ∷ text) others = All-head (IsOther 110) d text (All-tail (IsOther 110) c (d ∷ text) others)

form_of-block : (text : List ℕ) (cidr : Cidr) → cidr_of text ≡ Some cidr → 0 < length text → All (IsOther 119) text → All (IsOther 110) text → form_of text ≡ Some (Block cidr)
form_of-block [] cidr reads some no_w no_n = absurd (omega arith)
form_of-block (c ∷ text) cidr reads some no_w no_n =
    rw (All-head (IsOther 119) c text no_w, All-head (IsOther 110) c text no_n, second_other c text no_n) (ap (option_map Block) reads)

form_of-end : (text : List ℕ) (form : EndForm) → IsEndText text form → form_of text ≡ Some form
form_of-end text Pods is = ap form_of is
form_of-end text Addresses is = ap form_of is
form_of-end text (Namespace name) is = ap form_of is.0
form_of-end text (Work name) is = ap form_of is.0
form_of-end text (Block cidr) is =
    let spelled = (cidr_text_iff text cidr).0 is in
    form_of-block text cidr is (cidr_some text cidr spelled) (cidr_foreign 119 text cidr w_foreign spelled) (cidr_foreign 110 text cidr n_foreign spelled)

-- a text names the ends of one form at most
pub one_form : (text : List ℕ) (form other : EndForm) → IsEndText text form → IsEndText text other → form ≡ other
one_form text form other is also = same_Some form other (sym (form_of-end text form is) ∙ form_of-end text other also)

-- ---- the parts of a line

without_word : (mark tail text end rest : List ℕ) → IsBefore mark tail end rest → text ≡ end ++ (mark ++ rest) → (named : List ℕ) × IsWithout (codes "workload ") text named
without_word mark tail text end rest before spelled =
    elim before.side [
      | inl (name, end_is, lacks) ↦ (name ++ (mark ++ rest), inl (spelled ∙ ap (λ xs. xs ++ (mark ++ rest)) end_is ∙ append_assoc (codes "workload ") name (mark ++ rest)))
      | inr (c, others, end_is, other, lacks) ↦
          (text, inr (refl, λ more begins. first_letter c (others ++ (mark ++ rest)) more other (sym (spelled ∙ ap (λ xs. xs ++ (mark ++ rest)) end_is) ∙ begins)))
    ]

no_tail : (tail rest other : List ℕ) → ((more : List ℕ) → rest ≢ tail ++ more) → (rest ≡ other) ⊎ (rest ≡ tail ++ other) → rest ≡ other
no_tail tail rest other apart (inl same) = same
no_tail tail rest other apart (inr longer) = absurd (apart other longer)

-- a text has one end before a mark
pub one_cut : (mark tail text end rest end' rest' : List ℕ) → IsMark mark tail → IsBefore mark tail end rest → IsBefore mark tail end' rest' → text ≡ end ++ (mark ++ rest) →
    text ≡ end' ++ (mark ++ rest') → (end ≡ end') × (rest ≡ rest')
one_cut mark tail text end rest end' rest' marked before before' spelled spelled' =
    let (named, without) = without_word mark tail text end rest before spelled in
    let (x, lacks, side) = named_side mark tail text named end rest without before spelled in
    let (y, lacks', side') = named_side mark tail text named end' rest' without before' spelled' in
    let same : rest ≡ rest' = elim (cases_lt (length y) (length x)) [
      | inl shorter ↦ sym (no_tail tail rest' rest before'.apart (after_first mark tail x rest y rest' marked lacks (omega arith) (sym side ∙ side')))
      | inr longer ↦ no_tail tail rest rest' before.apart (after_first mark tail y rest' x rest marked lacks' longer (sym side' ∙ side))
    ] in
    (append_cancel_right end end' (mark ++ rest) (sym spelled ∙ spelled' ∙ ap (λ behind. end' ++ (mark ++ behind)) (sym same)), same)

equal_statements : (a b : StatementText) → a.wanted ≡ b.wanted → a.source ≡ b.source → a.destination ≡ b.destination → a.conns ≡ b.conns → a ≡ b
equal_statements a b wanted source destination conns =
    let with_wanted : Wanted → StatementText = λ w. record { wanted = w; source = a.source; destination = a.destination; conns = a.conns } in
    let with_source : EndForm → StatementText = λ s. record { wanted = b.wanted; source = s; destination = a.destination; conns = a.conns } in
    let with_destination : EndForm → StatementText = λ d. record { wanted = b.wanted; source = b.source; destination = d; conns = a.conns } in
    let with_conns : Conns → StatementText = λ c. record { wanted = b.wanted; source = b.source; destination = b.destination; conns = c } in
    ap with_wanted wanted ∙ ap with_source source ∙ ap with_destination destination ∙ ap with_conns conns

-- a line is the text of one statement at most
pub one_statement : (line : List ℕ) (a b : StatementText) → IsStatementText line a → IsStatementText line b → a ≡ b
one_statement line a b is also =
    let behind = is.destination ++ (codes " : " ++ is.conns) in
    let behind' = also.destination ++ (codes " : " ++ also.conns) in
    let first = one_wanted a.wanted b.wanted (is.source ++ (codes " => " ++ behind)) (also.source ++ (codes " => " ++ behind')) (sym is.spelled ∙ also.spelled) in
    let second = one_cut (codes " => ") (codes "=> ") (is.source ++ (codes " => " ++ behind)) is.source behind also.source behind' arrow_mark
    (before_arrow is.source is.destination (codes " : " ++ is.conns) a.source a.destination is.source_text is.destination_text)
    (before_arrow also.source also.destination (codes " : " ++ also.conns) b.source b.destination also.source_text also.destination_text) refl first.1 in
    let third = one_cut (codes " : ") (codes ": ") behind is.destination is.conns also.destination also.conns colon_mark
    (before_colon is.destination is.conns a.destination _ is.destination_text is.conns_text)
    (before_colon also.destination also.conns b.destination _ also.destination_text also.conns_text) refl second.1 in
    equal_statements a b first.0
    (one_form also.source a.source b.source (subst (λ (text : List ℕ). IsEndText text a.source) second.0 is.source_text) also.source_text)
    (one_form also.destination a.destination b.destination (subst (λ (text : List ℕ). IsEndText text a.destination) third.0 is.destination_text) also.destination_text)
    (conns_text-injective a.conns b.conns is.well also.well (sym is.conns_text ∙ third.1 ∙ also.conns_text))

-- ---- what is known of the parts of a line

-- the parts of a line that is the text of a statement are the texts of its ends and of its connections
pub record ArePartsOf (statement : StatementText) (source destination conns : List ℕ) : Type 0 where
  pub of_source : IsEndText source statement.source
  pub of_destination : IsEndText destination statement.destination
  pub of_conns : conns ≡ conns_text (has_spot statement.conns)

pub parts_are : (line : List ℕ) (statement : StatementText) (wanted : Wanted) (source destination conns : List ℕ) → (is : IsStatementText line statement) →
    (wanted ≡ statement.wanted) × (source ≡ is.source) × (destination ≡ is.destination) × (conns ≡ is.conns) → ArePartsOf statement source destination conns
parts_are line statement wanted source destination conns is same = record {
  of_source = subst (λ (text : List ℕ). IsEndText text statement.source) (sym same.1) is.source_text;
  of_destination = subst (λ (text : List ℕ). IsEndText text statement.destination) (sym same.2) is.destination_text;
  of_conns = same.3 ∙ is.conns_text;
}

pub arrow_of : (line : List ℕ) (statement : StatementText) (is : IsStatementText line statement) → IsBefore (codes " => ") (codes "=> ") is.source (is.destination ++ (codes " : " ++ is.conns))
arrow_of line statement is = before_arrow is.source is.destination (codes " : " ++ is.conns) statement.source statement.destination is.source_text is.destination_text

pub colon_of : (line : List ℕ) (statement : StatementText) (is : IsStatementText line statement) → IsBefore (codes " : ") (codes ": ") is.destination is.conns
colon_of line statement is = before_colon is.destination is.conns statement.destination (has_spot statement.conns) is.destination_text is.conns_text

-- two address forms are of no statement
pub two_blocks : (line : List ℕ) (statement : StatementText) (source destination : EndForm) → IsStatementText line statement → source ≡ statement.source → destination ≡ statement.destination →
    is_address_form source ≡ true → is_address_form destination ≡ true → ⊥
two_blocks line statement source destination is same same' first_block second_block =
    let first : is_address_form statement.source ≡ true = ap is_address_form (sym same) ∙ first_block in
    let second : is_address_form statement.destination ≡ true = ap is_address_form (sym same') ∙ second_block in
    true≢false (sym (and_from (is_address_form statement.source) (is_address_form statement.destination) first second) ∙ is.one_side)

-- ---- the text of a statement

end_reads : (form : EndForm) → IsWellEnd form → IsEndText (end_text form) form
end_reads Pods well = refl
end_reads Addresses well = refl
end_reads (Namespace name) well = (refl, well)
end_reads (Work name) well = (refl, well)
end_reads (Block cidr) well = cidr_of-cidr_text cidr well.0 well.1

-- it is that of the statement
pub text_reads : (statement : StatementText) → IsWellStatement statement → IsStatementText (statement_text statement) statement
text_reads statement well = record {
  source = end_text statement.source;
  destination = end_text statement.destination;
  conns = conns_text (has_spot statement.conns);
  spelled = refl;
  source_text = end_reads statement.source well.source_well;
  destination_text = end_reads statement.destination well.destination_well;
  one_side = well.one_side;
  conns_text = refl;
  well = well.conns_well;
}
