-- What the texts of ends and of connections begin with, and what they lack. For `is_work_text`, `lacks` and `parts_of`.
use Rattle.std.proofs.Common.{◌≡◌, ◌≢◌, ℕ, suc, ◌↔◌, MatchBool, get_or, ◌+◌, ◌<◌, ◌≤◌, ◌==◌, ◌&&◌, not, List, [], ◌∷◌, ◌++◌, Bool, true, false, Some, All, length, codes, refl, sym, ap, subst, ◌∙◌, inl, inr, append_assoc, arith, if◌then◌else◌, lit≤}
use Rattle.std.specs.Char.{digit_value}
use Rattle.std.specs.List.{flat_map, join_by}
use Rattle.std.specs.Str.Iter.{HasSubslice}
use Rattle.std.proofs.lemmas.Bool.{and_parts, cases_Bool, eqb-true, true≢false}
use Rattle.std.proofs.lemmas.List.{append_cancel_left}
use Rattle.std.proofs.lemmas.List.Elements.{All-append, All-cons, All-head, All-nil, All-tail}
use Rattle.np_addr.proofs.DottedLemmas.{dotted_others}
use Rattle.np_addr.proofs.GrammarLemmas.{cidr_text_iff}
use Rattle.np_addr.proofs.PieceLemmas.{IsOther, IsOther-from_digits}
use Rattle.np_addr.specs.Prelude.{AreGroups, IsAddressText, IsCidrText, IsDotted, IsSide as IsGroupSide, cidr_of}
use Rattle.np_statements.specs.Prelude.{Address, Addresses, Allow, Block, Cidr, Deny, EndForm, Four, IsBefore, IsEndText, IsMark, IsSide, Lacks, Namespace, Pods, PortSpot, Range, Sctp, Six, Tcp, Udp, Wanted, Work, wanted_text}
use Rattle.np_statements.proofs.SideLemmas.{same_head}
use Rattle.np_conns.specs.Prelude.{conns_text, is_whole, joined, part, part_text, spans_of, text_of_runs}
use Rattle.np_model.specs.Prelude.{has_slash, is_name, is_word, is_word_byte}

-- ---- the marks

pub arrow_mark : IsMark (codes " => ") (codes "=> ")
arrow_mark = record {
  middle = 61 ∷ 62 ∷ [];
  first = refl;
  last = refl;
  inner = (λ (e : 61 ≡ 32). omega arith, (λ (e : 62 ≡ 32). omega arith, tt));
}

pub colon_mark : IsMark (codes " : ") (codes ": ")
colon_mark = record {
  middle = 58 ∷ [];
  first = refl;
  last = refl;
  inner = (λ (e : 58 ≡ 32). omega arith, tt);
}

-- ---- spaces

-- how many spaces a text has
abbrev spaces : List ℕ → ℕ
spaces [] = 0
spaces (c ∷ cs) = (if c == 32 then 1 else 0) + spaces cs

spaces-append : (xs ys : List ℕ) → spaces (xs ++ ys) ≡ spaces xs + spaces ys
spaces-append [] ys = omega arith
spaces-append (x ∷ xs) ys = omega (arith, spaces-append xs ys)

-- a mark has two
spaces-mark : (mark tail : List ℕ) → IsMark mark tail → 2 ≤ spaces mark
spaces-mark mark tail is =
    let spelled : mark ≡ 32 ∷ (is.middle ++ 32 ∷ []) = is.first ∙ ap (λ xs. 32 ∷ xs) is.last in
    rw spelled (omega (arith, spaces-append is.middle (32 ∷ [])))

-- so a text with one space lacks it
few-lack : (mark tail text : List ℕ) → IsMark mark tail → spaces text ≤ 1 → Lacks text mark
few-lack mark tail text is few before after spelled =
    omega (arith, ap spaces spelled, spaces-append before (mark ++ after), spaces-append mark after, spaces-mark mark tail is)

no_spaces : (text : List ℕ) → All (IsOther 32) text → spaces text ≡ 0
no_spaces [] others = refl
no_spaces (c ∷ text) others = rw (All-head (IsOther 32) c text others) (omega (arith, no_spaces text (All-tail (IsOther 32) c text others)))

space_no_byte : (c : ℕ) → is_word_byte c ≡ true → (c == 32) ≡ false
space_no_byte c is =
    elim (cases_Bool (c == 32)) [
      | inl space ↦ absurd (true≢false (sym is ∙ ap is_word_byte (eqb-true c 32 space)))
      | inr other ↦ other
    ]

no_spaces-word : (text : List ℕ) → is_word text ≡ true → spaces text ≡ 0
no_spaces-word [] is = refl
no_spaces-word (c ∷ text) is =
    let parts = and_parts (is_word_byte c) (is_word text) is in
    rw (space_no_byte c parts.0) (omega (arith, no_spaces-word text parts.1))

no_spaces-name : (text : List ℕ) → is_name text ≡ true → spaces text ≡ 0
no_spaces-name text is =
    no_spaces-word text (and_parts (not (length text == 0)) (is_word text) (and_parts (not (length text == 0) && is_word text) (not (has_slash text)) is).0).1

-- ---- blocks of addresses

-- no byte of an address or a block is another than a hexadecimal digit, a dot, a colon or a `/`
pub record IsForeign (byte : ℕ) : Type 0 where
  pub digit : 16 ≤ digit_value byte
  pub dot : (46 == byte) ≡ false
  pub colon : (58 == byte) ≡ false
  pub slash : (47 == byte) ≡ false

dotted_foreign : (byte : ℕ) (text : List ℕ) (n : ℕ) → IsForeign byte → IsDotted text n → All (IsOther byte) text
dotted_foreign byte text n foreign is = dotted_others byte text n (omega (arith, foreign.digit)) foreign.dot is

groups_foreign : (byte : ℕ) (dotted : Bool) (text groups : List ℕ) → IsForeign byte → AreGroups dotted text groups → All (IsOther byte) text
groups_foreign byte dotted text [] foreign are = absurd are
groups_foreign byte dotted text (group ∷ groups) foreign (inl (is, last)) = IsOther-from_digits 16 byte text foreign.digit is.numeral.1
groups_foreign byte dotted text (group ∷ groups) foreign (inr (inl (first, rest, spelled, is, more))) =
    rw (spelled ∙ append_assoc first (codes ":") rest)
    (All-append (IsOther byte) first (58 ∷ rest) (IsOther-from_digits 16 byte first foreign.digit is.numeral.1)
    (All-cons (IsOther byte) 58 rest foreign.colon (groups_foreign byte dotted rest groups foreign more)))
groups_foreign byte dotted text (group ∷ groups) foreign (inr (inr (n, allowed, is, value))) = dotted_foreign byte text n foreign is

side_foreign : (byte : ℕ) (dotted : Bool) (text groups : List ℕ) → IsForeign byte → IsGroupSide dotted text groups → All (IsOther byte) text
side_foreign byte dotted text [] foreign is = rw is (All-nil (IsOther byte))
side_foreign byte dotted text (group ∷ groups) foreign are = groups_foreign byte dotted text (group ∷ groups) foreign are

address_foreign : (byte : ℕ) (text : List ℕ) (address : Address) → IsForeign byte → IsAddressText text address → All (IsOther byte) text
address_foreign byte text (Four n) foreign is = dotted_foreign byte text n foreign is
address_foreign byte text (Six n) foreign (groups, inl (are, eight), value) = groups_foreign byte true text groups foreign are
address_foreign byte text (Six n) foreign (groups, inr is, value) =
    rw (is.spelled ∙ append_assoc is.before (codes "::") is.after)
    (All-append (IsOther byte) is.before (58 ∷ 58 ∷ is.after) (side_foreign byte false is.before is.head foreign is.head_groups)
    (All-cons (IsOther byte) 58 (58 ∷ is.after) foreign.colon (All-cons (IsOther byte) 58 is.after foreign.colon (side_foreign byte true is.after is.tail foreign is.tail_groups))))

pub cidr_foreign : (byte : ℕ) (text : List ℕ) (cidr : Cidr) → IsForeign byte → IsCidrText text cidr → All (IsOther byte) text
cidr_foreign byte text cidr foreign is =
    rw (is.spelled ∙ append_assoc is.before (codes "/") is.after)
    (All-append (IsOther byte) is.before (47 ∷ is.after) (address_foreign byte is.before is.address foreign is.address_text)
    (All-cons (IsOther byte) 47 is.after foreign.slash (IsOther-from_digits 10 byte is.after (omega (arith, foreign.digit)) is.length_text.writes.numeral.1)))

space_foreign : IsForeign 32
space_foreign = record { digit = lit≤ tt; dot = refl; colon = refl; slash = refl }

equals_foreign : IsForeign 61
equals_foreign = record { digit = lit≤ tt; dot = refl; colon = refl; slash = refl }

pub w_foreign : IsForeign 119
w_foreign = record { digit = lit≤ tt; dot = refl; colon = refl; slash = refl }

-- ---- first bytes

-- the text is not empty, and begins with another byte
abbrev pub BeginsWithout : ℕ → List ℕ → Type 0
BeginsWithout byte text = (c : ℕ) × (others : List ℕ) × (text ≡ c ∷ others) × (c ≢ byte)

begins_other : (byte : ℕ) (text : List ℕ) → 0 < length text → All (IsOther byte) text → BeginsWithout byte text
begins_other byte [] some others = absurd (omega arith)
begins_other byte (c ∷ text) some others = (c, text, refl, λ same. other_byte byte c (All-head (IsOther byte) c text others) same)
  where
    other_byte : (byte c : ℕ) → (c == byte) ≡ false → c ≡ byte → ⊥
    other_byte byte c other same = grind arith

pub cidr_some : (text : List ℕ) (cidr : Cidr) → IsCidrText text cidr → 0 < length text
cidr_some text cidr is = rw (is.spelled) (some is.before is.after)
  where
    some : (before after : List ℕ) → 0 < length (before ++ codes "/" ++ after)
    some [] after = omega arith
    some (c ∷ before) after = omega arith

cidr_begins : (byte : ℕ) (text : List ℕ) (cidr : Cidr) → IsForeign byte → cidr_of text ≡ Some cidr → BeginsWithout byte text
cidr_begins byte text cidr foreign reads =
    let is = (cidr_text_iff text cidr).0 reads in
    begins_other byte text (cidr_some text cidr is) (cidr_foreign byte text cidr foreign is)

-- no end begins with `=`
end_begins : (text : List ℕ) (form : EndForm) → IsEndText text form → BeginsWithout 61 text
end_begins text Pods is = (97, _, is, λ (e : 97 ≡ 61). omega arith)
end_begins text Addresses is = (97, _, is, λ (e : 97 ≡ 61). omega arith)
end_begins text (Namespace name) is = (110, _, is.0, λ (e : 110 ≡ 61). omega arith)
end_begins text (Work name) is = (119, _, is.0, λ (e : 119 ≡ 61). omega arith)
end_begins text (Block cidr) is = cidr_begins 61 text cidr equals_foreign is

-- so what begins with an end does not begin with the tail of the arrow
pub end_apart : (text behind : List ℕ) (form : EndForm) → IsEndText text form → (more : List ℕ) → text ++ behind ≢ codes "=> " ++ more
end_apart text behind form is more same =
    let (c, others, begins, other) = end_begins text form is in
    other (same_head c 61 (others ++ behind) _ (sym (ap (λ xs. xs ++ behind) begins) ∙ same))

-- ---- ends stand before the marks

pub end_side : (mark tail text : List ℕ) (form : EndForm) → IsMark mark tail → ((name : List ℕ) → form ≡ Work name → Lacks name mark) → IsEndText text form → IsSide mark text
end_side mark tail text Pods marked lacks is =
    inr (97, _, is, λ (e : 97 ≡ 119). omega arith, few-lack mark tail text marked (rw is (lit≤ tt)))
end_side mark tail text Addresses marked lacks is =
    inr (97, _, is, λ (e : 97 ≡ 119). omega arith, few-lack mark tail text marked (rw is (lit≤ tt)))
end_side mark tail text (Namespace name) marked lacks is =
    inr (110, _, is.0, λ (e : 110 ≡ 119). omega arith, few-lack mark tail text marked (omega (arith, ap spaces is.0 ∙ spaces-append (codes "namespace ") name, no_spaces-name name is.1)))
end_side mark tail text (Work name) marked lacks is = inl (name, is.0, lacks name refl)
end_side mark tail text (Block cidr) marked lacks is =
    let (c, others, begins, other) = cidr_begins 119 text cidr w_foreign is in
    inr (c, others, begins, other, few-lack mark tail text marked (omega (arith, no_spaces text (cidr_foreign 32 text cidr space_foreign ((cidr_text_iff text cidr).0 is)))))

work_arrow : (text : List ℕ) (form : EndForm) → IsEndText text form → (name : List ℕ) → form ≡ Work name → Lacks name (codes " => ")
work_arrow text form is name same = let of = subst (λ (f : EndForm). IsEndText text f) same is in of.1.no_arrow

work_colon : (text : List ℕ) (form : EndForm) → IsEndText text form → (name : List ℕ) → form ≡ Work name → Lacks name (codes " : ")
work_colon text form is name same = let of = subst (λ (f : EndForm). IsEndText text f) same is in of.1.no_colon

pub before_arrow : (source destination behind : List ℕ) (form other : EndForm) → IsEndText source form → IsEndText destination other →
    IsBefore (codes " => ") (codes "=> ") source (destination ++ behind)
before_arrow source destination behind form other of_source of_destination = record {
  side = end_side (codes " => ") (codes "=> ") source form arrow_mark (work_arrow source form of_source) of_source;
  apart = end_apart destination behind other of_destination;
}

-- ---- connections

begins_join : (text : List ℕ) (others : List (List ℕ)) → BeginsWithout 58 text → BeginsWithout 58 (join_by (λ t. t) (codes "; ") (text ∷ others))
begins_join text others (c, rest, begins, other) = (c, _, ap (λ t. t ++ flat_map (λ y. codes "; " ++ y) others) begins, other)

begins_joined : (tcp udp sctp : List (Range ℕ)) → BeginsWithout 58 (joined (part Tcp tcp ++ part Udp udp ++ part Sctp sctp))
begins_joined [] [] [] = (78, _, refl, λ (e : 78 ≡ 58). omega arith)
begins_joined [] [] (run ∷ runs) = begins_join (part_text Sctp (run ∷ runs)) [] (83, _, refl, λ (e : 83 ≡ 58). omega arith)
begins_joined [] (run ∷ runs) sctp = begins_join (part_text Udp (run ∷ runs)) (part Sctp sctp) (85, _, refl, λ (e : 85 ≡ 58). omega arith)
begins_joined (run ∷ runs) udp sctp = begins_join (part_text Tcp (run ∷ runs)) (part Udp udp ++ part Sctp sctp) (84, _, refl, λ (e : 84 ≡ 58). omega arith)

begins_whole : (whole : Bool) (text : List ℕ) → BeginsWithout 58 text → BeginsWithout 58 (if whole then codes "All Connections" else text)
begins_whole true text begins = (65, _, refl, λ (e : 65 ≡ 58). omega arith)
begins_whole false text begins = begins

begins_runs : (tcp udp sctp : List (Range ℕ)) → BeginsWithout 58 (text_of_runs tcp udp sctp)
begins_runs tcp udp sctp = begins_whole (is_whole tcp && is_whole udp && is_whole sctp) _ (begins_joined tcp udp sctp)

-- the text of connections does not begin with a colon
conns_begin : (passes : PortSpot → Bool) → BeginsWithout 58 (conns_text passes)
unfolding conns_text
conns_begin passes = begins_runs (spans_of passes Tcp) (spans_of passes Udp) (spans_of passes Sctp)

conns_apart : (text : List ℕ) (passes : PortSpot → Bool) → text ≡ conns_text passes → (more : List ℕ) → text ≢ codes ": " ++ more
conns_apart text passes is more same =
    let (c, others, begins, other) = conns_begin passes in
    other (same_head c 58 others _ (sym begins ∙ sym is ∙ same))

pub before_colon : (destination conns : List ℕ) (form : EndForm) (passes : PortSpot → Bool) → IsEndText destination form → conns ≡ conns_text passes →
    IsBefore (codes " : ") (codes ": ") destination conns
before_colon destination conns form passes of_destination of_conns = record {
  side = end_side (codes " : ") (codes ": ") destination form colon_mark (work_colon destination form of_destination) of_destination;
  apart = conns_apart conns passes of_conns;
}

-- ---- the first word of a line

other_word : (xs ys : List ℕ) → codes "allow" ++ xs ≡ codes "deny" ++ ys → ⊥
other_word xs ys same = omega (arith, same_head 97 100 (codes "llow" ++ xs) (codes "eny" ++ ys) same)

-- what a line asks for, and what is behind it, are told by the line
pub one_wanted : (wanted other : Wanted) (xs ys : List ℕ) → wanted_text wanted ++ (codes " " ++ xs) ≡ wanted_text other ++ (codes " " ++ ys) → (wanted ≡ other) × (xs ≡ ys)
one_wanted Allow Allow xs ys same = (refl, append_cancel_left (codes "allow ") xs ys same)
one_wanted Allow Deny xs ys same = absurd (other_word (codes " " ++ xs) (codes " " ++ ys) same)
one_wanted Deny Allow xs ys same = absurd (other_word (codes " " ++ ys) (codes " " ++ xs) (sym same))
one_wanted Deny Deny xs ys same = (refl, append_cancel_left (codes "deny ") xs ys same)

-- ---- names of workloads

-- what `contains` says of a part
pub lacks_by : (has : Bool) (text part : List ℕ) → (has ≡ true) ↔ HasSubslice text part → MatchBool (not has) (Lacks text part) (Lacks text part → ⊥)
lacks_by true text part says = λ lacks. let (before, after, spelled) = says.0 refl in lacks before after spelled
lacks_by false text part says = λ before after spelled. true≢false (sym (says.1 (before, after, spelled)))

-- a text with a `/` has one at a place
pub slash_at : (text : List ℕ) → has_slash text ≡ true → (k : ℕ) × (k < length text) × (get_or text k 0 ≡ 47)
slash_at [] has = absurd (true≢false (sym has))
slash_at (c ∷ text) has =
    elim (cases_Bool (c == 47)) [
      | inl here ↦ (0, omega arith, eqb-true c 47 here)
      | inr other ↦ let (k, within, is) = slash_at text (rw other at has) in (suc k, omega arith, is)
    ]
