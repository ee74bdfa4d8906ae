-- The text of an IPv6 address is read to its groups, and no other text is. For GrammarLemmas.
use Rattle.std.proofs.Common.{◌≡◌, ℕ, ◌-◌, ◌<◌, Bool, true, false, cond, List, [], ◌∷◌, ◌++◌, length, replicate, codes, Option, Some, None, option_map, All, refl, sym, ap, ◌∙◌, inl, inr, append-nil, append_assoc, arith, lit≤}
use Rattle.std.proofs.lemmas.Bool.{eqb-true, eq-eqb, lt-ltb, ltb-true}
use Rattle.std.proofs.lemmas.List.Elements.{All-head}
use Rattle.std.proofs.lemmas.List.Splits.{join_with_byte-slice_split}
use Rattle.std.proofs.lemmas.Option.{none-some, same_Some, cond_some, option_and_then_some}
use Rattle.std.specs.Int.Digits.{number_from_digits}
use Rattle.std.specs.List.{join_with_byte}
use Rattle.std.specs.Option.{option_or}
use Rattle.np_addr.specs.Prelude.{AreGroups, IsColonHex, IsDotted, IsGroup, IsSide, around_gap, filled_of, halves_of, hex_group, ipv4_of, ipv6_of, last_groups, number_of_groups, number_of_sides, pieces, side_groups, ◌>>=◌}
use Rattle.np_addr.specs.Ipv6Grammar.{groups_between}
use Rattle.np_addr.proofs.DottedLemmas.{ipv4_of-dotted, dotted_from_ipv4, dotted_others, pieces-dotted, nested, part_others}
use Rattle.np_addr.proofs.GapLemmas.{around_gap-colon, around_gap-piece, gap_after, around_gap-spelled}
use Rattle.np_addr.proofs.NumeralLemmas.{numeral_of-numeral, Writes-from_numeral}
use Rattle.np_addr.proofs.PieceLemmas.{IsOther, pieces-one, pieces-first, IsOther-from_digits, numeral_of-cut}
use Rattle.np_addr.proofs.SideLemmas.{groups_of-piece}

-- ---- groups that are there are read

group_others : (text : List ℕ) (group : ℕ) → IsGroup text group → All (IsOther 58) text
group_others text group is = IsOther-from_digits 16 58 text (lit≤ tt) is.numeral.1

dotted_no_colon : (text : List ℕ) (n : ℕ) → IsDotted text n → All (IsOther 58) text
dotted_no_colon text n is = dotted_others 58 text n (lit≤ tt) refl is

last_of-group : (dotted : Bool) (text : List ℕ) (group : ℕ) → IsGroup text group → last_groups dotted text ≡ Some (group ∷ [])
unfolding last_groups
last_of-group dotted text group is = rw (numeral_of-numeral 16 4 text group is)

last_of-dotted : (text : List ℕ) (n : ℕ) → IsDotted text n → last_groups true text ≡ Some (halves_of n)
unfolding last_groups
last_of-dotted text n is =
    rw (numeral_of-cut 16 4 46 text is.first is.second (is.third ∷ is.fourth ∷ []) (lit≤ tt) (pieces-dotted text n is), ipv4_of-dotted text n is)

pub groups_of-groups : (dotted : Bool) (text groups : List ℕ) → AreGroups dotted text groups → groups_between dotted (pieces 58 text) ≡ Some groups
groups_of-groups dotted text [] are = absurd are
groups_of-groups dotted text (group ∷ groups) (inl (is, last)) =
    ap (groups_between dotted) (pieces-one 58 text (group_others text group is)) ∙ last_of-group dotted text group is ∙ ap (λ gs. Some (group ∷ gs)) (sym last)
groups_of-groups dotted text (group ∷ groups) (inr (inl (first, rest, spelled, is, more))) =
    let cut = pieces-first 58 first rest (group_others first group is) in
    ap (λ t. groups_between dotted (pieces 58 t)) (spelled ∙ append_assoc first (codes ":") rest) ∙ ap (groups_between dotted) cut ∙ groups_of-piece dotted first rest
    ∙ rw (numeral_of-numeral 16 4 first group is, groups_of-groups dotted rest groups more)
groups_of-groups dotted text (group ∷ groups) (inr (inr (n, allowed, is, value))) =
    ap (groups_between dotted) (pieces-one 58 text (dotted_no_colon text n is)) ∙ ap (λ b. last_groups b text) allowed ∙ last_of-dotted text n is ∙ ap Some (sym value)

-- a text begins as its first piece does
begins : (first behind text : List ℕ) → text ≡ first ++ behind → 0 < length first → All (IsOther 58) first → (c : ℕ) × (rest : List ℕ) × (text ≡ c ∷ rest) × IsOther 58 c
begins [] behind text spelled some others = absurd (omega arith)
begins (c ∷ first) behind text spelled some others = (c, first ++ behind, spelled, All-head (IsOther 58) c first others)

-- groups begin with no colon
starts_other : (dotted : Bool) (text groups : List ℕ) → AreGroups dotted text groups → (c : ℕ) × (rest : List ℕ) × (text ≡ c ∷ rest) × IsOther 58 c
starts_other dotted text [] are = absurd are
starts_other dotted text (group ∷ groups) (inl (is, last)) = begins text [] text (sym (append-nil text)) is.numeral.0 (group_others text group is)
starts_other dotted text (group ∷ groups) (inr (inl (first, rest, spelled, is, more))) = begins first (58 ∷ rest) text (spelled ∙ append_assoc first (codes ":") rest) is.numeral.0
    (group_others first group is)
starts_other dotted text (group ∷ groups) (inr (inr (n, allowed, is, value))) =
    begins is.first _ text (is.spelled ∙ nested is.first is.second is.third is.fourth) is.parts.0.0.numeral.0 (part_others 58 is.first is.a (lit≤ tt) is.parts.0)

-- nor is there a gap among them, or before what has none
no_gap : (dotted : Bool) (text groups rest : List ℕ) → AreGroups dotted text groups → around_gap rest ≡ None → around_gap (text ++ rest) ≡ None
no_gap dotted text [] rest are none = absurd are
no_gap dotted text (group ∷ groups) rest (inl (is, last)) none = around_gap-piece text rest (group_others text group is) none
no_gap dotted text (group ∷ groups) rest (inr (inl (first, others, spelled, is, more))) none =
    let behind = no_gap dotted others groups rest more none in
    let (c, later, begins, other) = starts_other dotted others groups more in
    let joined : others ++ rest ≡ c ∷ (later ++ rest) = ap (λ t. t ++ rest) begins in
    let colon : around_gap (58 ∷ (others ++ rest)) ≡ None = rw joined (around_gap-colon c (later ++ rest) other (rw joined at behind)) in
    let nested : text ++ rest ≡ first ++ 58 ∷ (others ++ rest) = ap (λ t. t ++ rest) spelled ∙ simp append_assoc in
    ap around_gap nested ∙ around_gap-piece first (58 ∷ (others ++ rest)) (group_others first group is) colon
no_gap dotted text (group ∷ groups) rest (inr (inr (n, allowed, is, value))) none = around_gap-piece text rest (dotted_no_colon text n is) none

side_of-side : (dotted : Bool) (text groups : List ℕ) → IsSide dotted text groups → side_groups dotted text ≡ Some groups
side_of-side dotted text [] is = ap (side_groups dotted) is
side_of-side dotted text (group ∷ groups) are =
    let (c, rest, shown, other) = starts_other dotted text (group ∷ groups) are in
    rw shown (rw shown at (groups_of-groups dotted text (group ∷ groups) are))

no_gap_after : (text groups : List ℕ) → IsSide false text groups → around_gap (text ++ 58 ∷ []) ≡ None
no_gap_after text [] is = ap (λ t. around_gap (t ++ 58 ∷ [])) is
no_gap_after text (group ∷ groups) are = no_gap false text (group ∷ groups) (58 ∷ []) are refl

pub ipv6_of-colon_hex : (text groups : List ℕ) → IsColonHex text groups → ipv6_of text ≡ Some (number_from_digits 65536 groups)
unfolding ipv6_of
ipv6_of-colon_hex text groups (inl (are, eight)) =
    let none : around_gap text ≡ None = ap around_gap (sym (append-nil text)) ∙ no_gap true text groups [] are refl in
    rw (none, groups_of-groups true text groups are, eq-eqb (length groups) 8 eight)
ipv6_of-colon_hex text groups (inr is) =
    let sides : around_gap text ≡ Some (is.before, is.after) =
    ap around_gap (is.spelled ∙ append_assoc is.before (codes "::") is.after) ∙ gap_after is.before is.after (no_gap_after is.before is.head is.head_groups) in
    rw (sides, side_of-side false is.before is.head is.head_groups, side_of-side true is.after is.tail is.tail_groups, lt-ltb _ 8 is.room, ← is.filled)

-- ---- groups that are read are there

last_from_ipv4 : (text groups : List ℕ) (o : Option ℕ) → ipv4_of text ≡ o → option_map halves_of o ≡ Some groups → AreGroups true text groups
last_from_ipv4 text groups None is reads = absurd (none-some groups reads)
last_from_ipv4 text groups (Some n) is reads = rw (← same_Some _ groups reads) (inr (inr (n, refl, dotted_from_ipv4 text n is, refl)))

last_from : (dotted : Bool) (text groups : List ℕ) (o : Option ℕ) → hex_group text ≡ o →
    option_or (option_map (λ group. group ∷ []) o) (cond dotted (option_map halves_of (ipv4_of text)) None) ≡ Some groups → AreGroups dotted text groups
last_from dotted text groups (Some group) is reads = rw (← same_Some _ groups reads) (inl (Writes-from_numeral 16 4 text group is, refl))
last_from true text groups None is reads = last_from_ipv4 text groups (ipv4_of text) refl reads
last_from false text groups None is reads = absurd (none-some groups reads)

groups_from_last : (dotted : Bool) (text groups : List ℕ) → last_groups dotted text ≡ Some groups → AreGroups dotted text groups
unfolding last_groups
groups_from_last dotted text groups reads = last_from dotted text groups (hex_group text) refl reads

groups_from : (dotted : Bool) (ps : List (List ℕ)) (groups : List ℕ) → groups_between dotted ps ≡ Some groups → AreGroups dotted (join_with_byte 58 ps) groups
groups_from dotted [] groups reads = absurd (none-some groups reads)
groups_from dotted (piece ∷ []) groups reads = groups_from_last dotted piece groups reads
groups_from dotted (piece ∷ next ∷ ps) groups reads =
    option_and_then_some _ (hex_group piece) groups reads λ group reads_group more.
    option_and_then_some _ (groups_between dotted (next ∷ ps)) groups more λ others reads_others value.
    let rest = join_with_byte 58 (next ∷ ps) in
    let tail = groups_from dotted (next ∷ ps) others reads_others in
    rw (← same_Some _ groups value) (inr (inl (piece, rest, sym (append_assoc piece (codes ":") rest), Writes-from_numeral 16 4 piece group reads_group, tail)))

groups_from_text : (dotted : Bool) (text groups : List ℕ) → groups_between dotted (pieces 58 text) ≡ Some groups → AreGroups dotted text groups
groups_from_text dotted text groups reads = rw (join_with_byte-slice_split 58 text) at (groups_from dotted (pieces 58 text) groups reads)

side_from : (dotted : Bool) (text groups : List ℕ) → side_groups dotted text ≡ Some groups → IsSide dotted text groups
side_from dotted [] [] reads = refl
side_from dotted [] (group ∷ groups) reads = absurd (nil_cons (same_Some [] (group ∷ groups) reads))
  where
    nil_cons : [] ≡ group ∷ groups → ⊥
    nil_cons same = cc
side_from dotted (c ∷ text) [] reads = absurd (groups_from_text dotted (c ∷ text) [] reads)
side_from dotted (c ∷ text) (group ∷ groups) reads = groups_from_text dotted (c ∷ text) (group ∷ groups) reads

whole_from : (text : List ℕ) (n : ℕ) → (groups_between true (pieces 58 text) >>= number_of_groups) ≡ Some n → (groups : List ℕ) × IsColonHex text groups × (n ≡ number_from_digits 65536 groups)
whole_from text n reads =
    option_and_then_some _ (groups_between true (pieces 58 text)) n reads λ groups reads_groups kept.
    let (eight, value) = cond_some _ _ n kept in
    (groups, inl (groups_from_text true text groups reads_groups, eqb-true _ 8 eight), sym value)

gapped_from : (text before after : List ℕ) (n : ℕ) → text ≡ before ++ 58 ∷ 58 ∷ after → (side_groups false before >>= λ head. side_groups true after >>= λ tail. filled_of head tail) ≡ Some n →
    (groups : List ℕ) × IsColonHex text groups × (n ≡ number_from_digits 65536 groups)
gapped_from text before after n spelled reads =
    option_and_then_some _ (side_groups false before) n reads λ head reads_head more.
    option_and_then_some _ (side_groups true after) n more λ tail reads_tail kept.
    let (room, value) = cond_some _ _ n kept in (
      head ++ replicate (8 - length head - length tail) 0 ++ tail,
      inr (record {
        before = before;
        after = after;
        head = head;
        tail = tail;
        spelled = spelled ∙ sym (append_assoc before (codes "::") after);
        head_groups = side_from false before head reads_head;
        tail_groups = side_from true after tail reads_tail;
        room = ltb-true _ 8 room;
        filled = refl;
      }),
      sym value,
    )

colon_hex_from_sides : (text : List ℕ) (n : ℕ) (o : Option (List ℕ × List ℕ)) → around_gap text ≡ o → number_of_sides text o ≡ Some n →
    (groups : List ℕ) × IsColonHex text groups × (n ≡ number_from_digits 65536 groups)
colon_hex_from_sides text n None is reads = whole_from text n reads
colon_hex_from_sides text n (Some sides) is reads = gapped_from text sides.0 sides.1 n (around_gap-spelled text sides.0 sides.1 is) reads

pub colon_hex_from_ipv6 : (text : List ℕ) (n : ℕ) → ipv6_of text ≡ Some n → (groups : List ℕ) × IsColonHex text groups × (n ≡ number_from_digits 65536 groups)
unfolding ipv6_of
colon_hex_from_ipv6 text n reads = colon_hex_from_sides text n (around_gap text) refl reads
