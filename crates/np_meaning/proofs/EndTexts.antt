-- Ends of rows are told apart by their texts. For `one_text_has_one_end`.
use Rattle.std.proofs.Common.{◌≡◌, ℕ, ◌<◌, ◌==◌, Bool, true, false, cond, List, [], ◌∷◌, ◌++◌, length, All, codes, refl, sym, ap, subst, ◌∙◌, append-nil, append_assoc, eq-eqb, lit≤}
use Rattle.std.specs.List.{join_by, list_any}
use Rattle.std.proofs.lemmas.Bool.{or_parts, true≢false}
use Rattle.std.proofs.lemmas.List.Elements.{All-append, All-cons, All-head, All-nil, All-tail}
use Rattle.np_meaning.specs.Prelude.{AddressSpan, Cidr, Controller, EstateLists, Family, IsEndOf, IsRangeOf, IsSpan, One, Pod, Range, Report, RowEnd, Span, Two, Work}
use Rattle.np_addr.specs.declared.address.Family.TheVariants as family
use Rattle.np_addr.specs.Prelude.{address_text, cidr_text}
use Rattle.np_addr.proofs.PieceLemmas.{IsOther}
use Rattle.np_fold.specs.Prelude.{folding_of, owner_name}
use Rattle.np_report.specs.Prelude.{blocks_of, ends_text, names_of, row_end_text, span_text}
use Rattle.np_kinds.specs.Prelude.{address_numbered}
use Rattle.np_table.specs.declared.rows.AddressSpan.TheVariants as span
use Rattle.np_meaning.proofs.AddressBytes.{IsForeign, address-lacks, block-lacks}
use Rattle.np_meaning.proofs.NameTexts.{name-within, names-all, one-name}
use Rattle.np_meaning.proofs.SpanTexts.{blocks-plain, high-fits, low-fits, one-span}
use Rattle.np_model.specs.Prelude.{IsFew}

-- ---- texts with a byte

abbrev pub Has : ℕ → List ℕ → Type 0
Has byte text = (before after : List ℕ) × (text ≡ before ++ byte ∷ after)

lacks-inside : (byte : ℕ) (before after : List ℕ) → All (IsOther byte) (before ++ byte ∷ after) → ⊥
lacks-inside byte [] after lacks = true≢false (sym (eq-eqb byte byte refl) ∙ All-head (IsOther byte) byte after lacks)
lacks-inside byte (c ∷ before) after lacks = lacks-inside byte before after (All-tail (IsOther byte) c (before ++ byte ∷ after) lacks)

-- a text that has a byte is no text that lacks it
has-lacks : (byte : ℕ) (text other : List ℕ) → Has byte text → All (IsOther byte) other → text ≡ other → ⊥
has-lacks byte text other has lacks same = lacks-inside byte has.0 has.1 (subst (All (IsOther byte)) (sym same ∙ has.2) lacks)

-- a text that a test finds to lack it
pub lacks-from : (byte : ℕ) (text : List ℕ) → list_any (λ c. c == byte) text ≡ false → All (IsOther byte) text
lacks-from byte [] none = All-nil (IsOther byte)
lacks-from byte (c ∷ text) none =
    let parts = or_parts (c == byte) (list_any (λ next. next == byte) text) none in
    All-cons (IsOther byte) c text parts.0 (lacks-from byte text parts.1)

-- ---- texts of ranges

-- no byte of a text of a range of addresses
pub record IsNoSpanByte (byte : ℕ) : Type 0 where
  pub foreign : IsForeign byte
  pub dash : (45 == byte) ≡ false
  pub comma : (44 == byte) ≡ false
  pub slash : (47 == byte) ≡ false

module _ (byte : ℕ) (none : IsNoSpanByte byte) where
  ends-lack : (family : Family) (range : Range ℕ) → IsRangeOf family range → All (IsOther byte) (ends_text family range)
  ends-lack family range of = by (range.lo == range.hi)
    where
      low : List ℕ
      low = address_text (address_numbered family range.lo)

      high : List ℕ
      high = address_text (address_numbered family range.hi)

      in_low : All (IsOther byte) low
      in_low = address-lacks byte none.foreign _ (low-fits family range of)

      in_high : All (IsOther byte) high
      in_high = address-lacks byte none.foreign _ (high-fits family range of)

      by : (one : Bool) → All (IsOther byte) (cond one low (low ++ codes "-" ++ high))
      by true = in_low
      by false = rw (append_assoc low (codes "-") high) (All-append (IsOther byte) low (45 ∷ high) in_low (All-cons (IsOther byte) 45 high none.dash in_high))

  -- the block's text lacks it
  abbrev Lacking : Cidr → Type 0
  Lacking block = All (IsOther byte) (cidr_text block)

  joined-lack : (blocks : List Cidr) → All Lacking blocks → All (IsOther byte) (join_by cidr_text (codes ",") blocks)
  joined-lack [] lack = All-nil (IsOther byte)
  joined-lack (block ∷ []) lack = rw (append-nil (cidr_text block)) (All-head Lacking block [] lack)
  joined-lack (block ∷ next ∷ blocks) lack =
      All-append (IsOther byte) (cidr_text block) (44 ∷ join_by cidr_text (codes ",") (next ∷ blocks))
      (All-head Lacking block (next ∷ blocks) lack)
      (All-cons (IsOther byte) 44 (join_by cidr_text (codes ",") (next ∷ blocks)) none.comma (joined-lack (next ∷ blocks) (All-tail Lacking block (next ∷ blocks) lack)))

  pub span-lacks : (report : Report) (a : AddressSpan) → IsSpan a → All (IsOther byte) (span_text report a)
  span-lacks One (span.Four range) is = ends-lack family.Four range is
  span-lacks One (span.Six range) is = ends-lack family.Six range is
  span-lacks Two a is = joined-lack (blocks_of a) (λ k d within. let plain = blocks-plain a is k d within in block-lacks byte none.foreign none.slash _ plain.0 plain.1)

-- ---- one text, one end

bracket : IsNoSpanByte 91
bracket = record { foreign = record { digit = lit≤ tt; dot = refl; colon = refl }; dash = refl; comma = refl; slash = refl }

brace : IsNoSpanByte 123
brace = record { foreign = record { digit = lit≤ tt; dot = refl; colon = refl }; dash = refl; comma = refl; slash = refl }

controller-has : Has 123 (codes "{ingress-controller}")
controller-has = ([], codes "ingress-controller}", refl)

-- an owner's name has a `[`, and so has what follows it
owner-has : (pod : Pod) → Has 91 (owner_name pod)
owner-has pod = (pod.namespace ++ codes "/" ++ pod.owner.name, pod.owner.kind ++ codes "]", simp append_assoc)

has-more : (wish more : List ℕ) → Has 91 wish → Has 91 (wish ++ more)
has-more wish more has = (has.0, has.1 ++ more, ap (λ (text : List ℕ). text ++ more) has.2 ∙ append_assoc has.0 (91 ∷ has.1) more)

module _ (lists : EstateLists) (report : Report) where
  abbrev text : RowEnd → List ℕ
  text end = row_end_text (names_of (folding_of lists)) report end

  name-has : (number : ℕ) → number < length (folding_of lists).workloads → Has 91 (text (Work number))
  name-has number within =
      names-all lists (Has 91) (Has 91) (λ place pod at. owner-has pod) (λ wish place known has. has-more wish _ has) number [] (name-within lists number within)

  work-span : (number : ℕ) (a : AddressSpan) → number < length (folding_of lists).workloads → IsSpan a → text (Work number) ≡ text (Span a) → ⊥
  work-span number a within is same = has-lacks 91 _ _ (name-has number within) (span-lacks 91 bracket report a is) same

  work-controller : (number : ℕ) → number < length (folding_of lists).workloads → text (Work number) ≡ text Controller → ⊥
  work-controller number within same = has-lacks 91 _ _ (name-has number within) (lacks-from 91 (codes "{ingress-controller}") refl) same

  controller-span : (a : AddressSpan) → IsSpan a → text Controller ≡ text (Span a) → ⊥
  controller-span a is same = has-lacks 123 _ _ controller-has (span-lacks 123 brace report a is) same

  ends-apart : IsFew lists → (a b : RowEnd) → IsEndOf lists a → IsEndOf lists b → text a ≡ text b → a ≡ b
  ends-apart few (Work m) (Work n) is_a is_b same = ap Work (one-name lists few m n is_a is_b same)
  ends-apart few (Work m) (Span b) is_a is_b same = absurd (work-span m b is_a is_b same)
  ends-apart few (Work m) Controller is_a is_b same = absurd (work-controller m is_a same)
  ends-apart few (Span a) (Work n) is_a is_b same = absurd (work-span n a is_b is_a (sym same))
  ends-apart few (Span a) (Span b) is_a is_b same = ap Span (one-span report a b is_a is_b same)
  ends-apart few (Span a) Controller is_a is_b same = absurd (controller-span a is_a (sym same))
  ends-apart few Controller (Work n) is_a is_b same = absurd (work-controller n is_b (sym same))
  ends-apart few Controller (Span b) is_a is_b same = absurd (controller-span b is_b same)
  ends-apart few Controller Controller is_a is_b same = refl

pub one-end : (lists : EstateLists) (report : Report) (a b : RowEnd) → IsFew lists → IsEndOf lists a → IsEndOf lists b
    → row_end_text (names_of (folding_of lists)) report a ≡ row_end_text (names_of (folding_of lists)) report b → a ≡ b
one-end lists report a b few is_a is_b same = ends-apart lists report few a b is_a is_b same
