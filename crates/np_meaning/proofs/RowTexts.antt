-- Rows are told apart by their texts. No end has a space in its text, and marks of families begin with one. For `one_text_has_one_row`.
use Rattle.std.proofs.Common.{◌≡◌, ℕ, ◌+◌, ◌^◌, ◌<◌, ◌≤◌, ◌==◌, Bool, true, false, cond, List, [], ◌∷◌, ◌++◌, length, get_or, slice_get, All, codes, decimal, Option, Some, None, refl, sym, ap, subst, ◌∙◌, append-nil, arith, lit≤}
use Rattle.std.specs.List.{list_all}
use Rattle.std.proofs.lemmas.Bool.{and_parts, eqb-true, false_from_ne_true, true≢false}
use Rattle.std.proofs.lemmas.Fmt.{decimal_is_IsNumeral_wide}
use Rattle.std.proofs.lemmas.List.{length-map}
use Rattle.std.proofs.lemmas.List.Elements.{All-append, All-cons, All-nil}
use Rattle.np_meaning.specs.Prelude.{Controller, EstateLists, Family, IsEndOf, IsRowOf, Pod, Report, Row, RowEnd, Span, Work}
use Rattle.np_addr.specs.declared.address.Family.TheVariants.{Four, Six}
use Rattle.np_addr.specs.Prelude.{pieces}
use Rattle.np_addr.proofs.PieceLemmas.{IsOther, IsOther-from_digits, pieces-first, pieces-one}
use Rattle.np_conns.proofs.OneText.{conns_text-injective}
use Rattle.np_fold.specs.Prelude.{first_pods, folding_of, owner_name, owner_name_at, owner_names}
use Rattle.np_report.specs.Prelude.{family_suffix, names_of, row_end_text, row_text}
use Rattle.np_meaning.proofs.EndTexts.{IsNoSpanByte, lacks-from, one-end, span-lacks}
use Rattle.np_meaning.proofs.NameTexts.{few-workloads, name-within, names-all}
use Rattle.np_model.specs.Prelude.{IsLawful, is_name, is_well_pod, is_word_byte}
use Rattle.np_names.specs.Names.{namesakes, suffix}
use Rattle.np_names.proofs.CountLemmas.{few-namesakes, number_among, number-among-namesakes}
use Rattle.std.proofs.lemmas.List.Sums.{AllPass-from_list_all}
use Rattle.std.proofs.lemmas.Option.{get_or_from_slice_get, slice_get_within}

-- ---- marks of families

-- what a mark has behind its space
abbrev mark_pieces : Option Family → List (List ℕ)
mark_pieces None = []
mark_pieces (Some Four) = codes "(IPv4)" ∷ []
mark_pieces (Some Six) = codes "(IPv6)" ∷ []

marked-cut : (text : List ℕ) (family : Option Family) → All (IsOther 32) text → pieces 32 (text ++ family_suffix family) ≡ text ∷ mark_pieces family
marked-cut text None lacks = rw (append-nil text) (pieces-one 32 text lacks)
marked-cut text (Some Four) lacks = pieces-first 32 text (codes "(IPv4)") lacks
marked-cut text (Some Six) lacks = pieces-first 32 text (codes "(IPv6)") lacks

-- the last digit of the first mark
abbrev mark_digit : List (List ℕ) → ℕ
mark_digit texts = get_or (get_or texts 0 []) 4 0

marks-apart : (f g : Option Family) → mark_pieces f ≡ mark_pieces g → f ≡ g
marks-apart None None same = refl
marks-apart None (Some Four) same = absurd (omega (arith, ap mark_digit same))
marks-apart None (Some Six) same = absurd (omega (arith, ap mark_digit same))
marks-apart (Some Four) None same = absurd (omega (arith, ap mark_digit same))
marks-apart (Some Six) None same = absurd (omega (arith, ap mark_digit same))
marks-apart (Some Four) (Some Four) same = refl
marks-apart (Some Six) (Some Six) same = refl
marks-apart (Some Four) (Some Six) same = absurd (omega (arith, ap mark_digit same))
marks-apart (Some Six) (Some Four) same = absurd (omega (arith, ap mark_digit same))

marked-apart : (text other : List ℕ) (f g : Option Family) → All (IsOther 32) text → All (IsOther 32) other → text ++ family_suffix f ≡ other ++ family_suffix g → (text ≡ other) × (f ≡ g)
marked-apart text other f g lacks other_lacks same =
    let cut : text ∷ mark_pieces f ≡ other ∷ mark_pieces g = sym (marked-cut text f lacks) ∙ ap (pieces 32) same ∙ marked-cut other g other_lacks in
    (cc, marks-apart f g cc)

-- ---- texts without a space

space : IsNoSpanByte 32
space = record { foreign = record { digit = lit≤ tt; dot = refl; colon = refl }; dash = refl; comma = refl; slash = refl }

-- a space is no byte of a word
word-lacks : (text : List ℕ) → list_all is_word_byte text ≡ true → All (IsOther 32) text
word-lacks [] word = All-nil (IsOther 32)
word-lacks (c ∷ text) word =
    let parts = and_parts (is_word_byte c) (list_all is_word_byte text) word in
    All-cons (IsOther 32) c text
    (false_from_ne_true (c == 32) (λ is. true≢false (sym (subst (λ (n : ℕ). is_word_byte n ≡ true) (eqb-true c 32 is) parts.0))))
    (word-lacks text parts.1)

name-lacks : (text : List ℕ) → is_name text ≡ true → All (IsOther 32) text
name-lacks text name = word-lacks text (and_parts _ _ (and_parts _ _ name).0).1

owner-lacks : (pod : Pod) → is_well_pod pod ≡ true → All (IsOther 32) (owner_name pod)
owner-lacks pod well =
    more (pod.namespace ++ codes "/" ++ pod.owner.name ++ codes "[" ++ pod.owner.kind) (codes "]")
    (more (pod.namespace ++ codes "/" ++ pod.owner.name ++ codes "[") pod.owner.kind
    (more (pod.namespace ++ codes "/" ++ pod.owner.name) (codes "[")
    (more (pod.namespace ++ codes "/") pod.owner.name
    (more pod.namespace (codes "/") (name-lacks pod.namespace namespace) (lacks-from 32 (codes "/") refl))
    (name-lacks pod.owner.name (and_parts _ _ well).1))
    (lacks-from 32 (codes "[") refl))
    (name-lacks pod.owner.kind (and_parts _ _ (and_parts _ _ well).0).1))
    (lacks-from 32 (codes "]") refl)
  where
    more : (front back : List ℕ) → All (IsOther 32) front → All (IsOther 32) back → All (IsOther 32) (front ++ back)
    more front back in_front in_back = All-append (IsOther 32) front back in_front in_back

    namespace : is_name pod.namespace ≡ true
    namespace = (and_parts _ _ (and_parts _ _ (and_parts _ _ (and_parts _ _ (and_parts _ _ (and_parts _ _ well).0).0).0).0).0).0

number-lacks : (n : ℕ) → n < 10 ^ 64 → All (IsOther 32) (codes "#" ++ decimal n)
number-lacks n few = All-cons (IsOther 32) 35 (decimal n) refl (IsOther-from_digits 10 32 (decimal n) (lit≤ tt) (decimal_is_IsNumeral_wide n few).0.1)

suffix-lacks : (wishes : List (List ℕ)) (place : ℕ) → length wishes ≤ 20000 → place < length wishes → All (IsOther 32) (suffix wishes place)
unfolding suffix
suffix-lacks wishes place few within = by (length (namesakes wishes place) == 1)
  where
    low : 1 + number_among (namesakes wishes place) place ≤ 20000
    low = let among = number-among-namesakes wishes place within in let fewer = few-namesakes wishes place in omega (arith, among, fewer)

    by : (one : Bool) → All (IsOther 32) (cond one [] (codes "#" ++ decimal (1 + number_among (namesakes wishes place) place)))
    by true = All-nil (IsOther 32)
    by false = number-lacks (1 + number_among (namesakes wishes place) place) (omega (arith, low))

module _ (lists : EstateLists) (report : Report) (lawful : IsLawful lists) where
  well-at : (place : ℕ) (pod : Pod) → slice_get lists.pods place ≡ Some pod → is_well_pod pod ≡ true
  well-at place pod at =
      subst (λ (one : Pod). is_well_pod one ≡ true) (get_or_from_slice_get lists.pods place pod pod at)
      (AllPass-from_list_all is_well_pod lists.pods pods place pod (slice_get_within lists.pods place pod at))
    where
      pods : list_all is_well_pod lists.pods ≡ true
      pods = (and_parts (list_all is_well_pod lists.pods) _ (and_parts _ _ (and_parts _ _ (and_parts _ _ (and_parts _ _ lawful.well).0).0).0).0).0

  end-lacks : (end : RowEnd) → IsEndOf lists end → All (IsOther 32) (row_end_text (names_of (folding_of lists)) report end)
  end-lacks (Work number) within =
      names-all lists (All (IsOther 32)) (All (IsOther 32)) (λ place pod at. owner-lacks pod (well-at place pod at))
      (λ wish place known lacks. All-append (IsOther 32) wish (suffix (owner_names lists) place) lacks (suffix-lacks (owner_names lists) place few known))
      number [] (name-within lists number within)
    where
      few : length (owner_names lists) ≤ 20000
      few = let count = few-workloads lists lawful.few in omega (arith, count, length-map (first_pods lists) (owner_name_at lists))
  end-lacks (Span addresses) is = span-lacks 32 space report addresses is
  end-lacks Controller is = lacks-from 32 (codes "{ingress-controller}") refl

  pub one-row : (a b : Row) → IsRowOf lists a → IsRowOf lists b → row_text (names_of (folding_of lists)) report a ≡ row_text (names_of (folding_of lists)) report b → a ≡ b
  unfolding row_text
  one-row a b is_a is_b same =
      let sources = one-end lists report a.key.source b.key.source lawful.few is_a.source is_b.source (ap (λ texts. texts.source) same) in
      let marked = marked-apart _ _ a.family b.family (end-lacks a.key.destination is_a.destination) (end-lacks b.key.destination is_b.destination) (ap (λ texts. texts.destination) same) in
      let destinations = one-end lists report a.key.destination b.key.destination lawful.few is_a.destination is_b.destination marked.0 in
      let conns = conns_text-injective a.conns b.conns is_a.conns is_b.conns (ap (λ texts. texts.connections) same) in
      rw (sources, destinations, marked.1, conns) refl
