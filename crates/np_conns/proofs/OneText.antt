-- The text of ascending runs tells the runs. For `one_text_has_one_set` and crates above.
use Rattle.std.proofs.Common.{◌≡◌, ℕ, List, [], ◌∷◌, ◌++◌, Bool, true, false, ◌&&◌, eqb, length, get_or, drop, map, codes, decimal, refl, sym, ◌∙◌, ap, arith, inl, inr}
use Rattle.std.proofs.lemmas.Bool.{and_parts, cases_Bool, cond-true, cond-false, eqb-true, false≢true}
use Rattle.std.proofs.lemmas.Fmt.{decimal_injective}
use Rattle.std.proofs.lemmas.List.{drop_at}
use Rattle.std.specs.List.{slice_split, join_by, flat_map, AllByRecursion, filter}
use Rattle.np_conns.specs.Prelude.{AscendsInPorts, Conns, IsConns, IsRun, Proto, Range, Sctp, Tcp, Udp, conns_text, equal_by_ranges, has_spot, is_whole, joined, part, part_text, proto_name, run_text, text_of_runs}
use Rattle.np_base.proofs.Each.{All-append}
use Rattle.np_conns.proofs.ConnLemmas.{conns_text-has_spot}
use Rattle.np_conns.proofs.RunLemmas.{IsRun-from_ascending}
use Rattle.np_conns.proofs.SplitLemmas.{lacks, lacks-append, no_hyphen, slice_split-at, slice_split-whole, slice_split-join_by, run_text-long, run_text-lacks}

-- the texts of a run's ends, by the parts of its text
abbrev end_texts : List (List ℕ) → List ℕ × List ℕ
end_texts [] = ([], [])
end_texts (lo ∷ []) = (lo, lo)
end_texts (lo ∷ hi ∷ others) = (lo, hi)

run_text-cut : (run : Range ℕ) → IsRun run → end_texts (slice_split (λ b. eqb b 45) (run_text run)) ≡ (decimal run.lo, decimal run.hi)
run_text-cut run real =
    let lo_free = no_hyphen run.lo (omega arith) in
    let hi_free = no_hyphen run.hi real.high in
    elim (cases_Bool (eqb run.lo run.hi)) [
      | inl one ↦
          ap (λ text. end_texts (slice_split (λ b. eqb b 45) text)) (cond-true _ _ _ one) ∙ ap end_texts (slice_split-whole 45 (decimal run.lo) lo_free) ∙ ap (λ n. (decimal run.lo, decimal n))
          (eqb-true run.lo run.hi one)
      | inr more ↦
          ap (λ text. end_texts (slice_split (λ b. eqb b 45) text)) (run_text-long run more) ∙ ap end_texts
          (slice_split-at 45 (decimal run.lo) (decimal run.hi) lo_free ∙ ap (λ parts. decimal run.lo ∷ parts) (slice_split-whole 45 (decimal run.hi) hi_free))
    ]

-- runs of equal texts are equal
run_text-injective : (a b : Range ℕ) → IsRun a → IsRun b → run_text a ≡ run_text b → a ≡ b
run_text-injective a b real_a real_b same =
    let ends = sym (run_text-cut a real_a) ∙ ap (λ text. end_texts (slice_split (λ c. eqb c 45) text)) same ∙ run_text-cut b real_b in
    let lo = decimal_injective a.lo b.lo (omega arith) (omega arith) (ap (λ e. e.0) ends) in
    let hi = decimal_injective a.hi b.hi (omega arith) (omega arith) (ap (λ e. e.1) ends) in
    ap (λ n. record { lo = n; hi = a.hi }) lo ∙ ap (λ n. record { lo = b.lo; hi = n }) hi

-- so are lists of them
map-run_text-injective : (as_runs bs_runs : List (Range ℕ)) → AllByRecursion IsRun as_runs → AllByRecursion IsRun bs_runs → map run_text as_runs ≡ map run_text bs_runs → as_runs ≡ bs_runs
map-run_text-injective [] [] real_a real_b same = refl
map-run_text-injective [] (b ∷ bs) real_a real_b same = cc
map-run_text-injective (a ∷ rest) [] real_a real_b same = cc
map-run_text-injective (a ∷ rest) (b ∷ bs) real_a real_b same =
    let head : run_text a ≡ run_text b = cc in
    let tail : map run_text rest ≡ map run_text bs = cc in
    ap (λ r. r ∷ rest) (run_text-injective a b real_a.0 real_b.0 head) ∙ ap (λ rs. b ∷ rs) (map-run_text-injective rest bs real_a.1 real_b.1 tail)

no_comma : (runs : List (Range ℕ)) → AllByRecursion IsRun runs → AllByRecursion (λ run. lacks 44 ([] ++ run_text run) ≡ true) runs
no_comma [] real = tt
no_comma (run ∷ others) real = (run_text-lacks 44 run (λ digit. omega arith) refl real.0, no_comma others real.1)

-- runs that are joined by commas, cut at the commas
pub runs_text-cut : (run : Range ℕ) (others : List (Range ℕ)) → AllByRecursion IsRun (run ∷ others) →
    slice_split (λ b. eqb b 44) (join_by run_text (codes ",") (run ∷ others)) ≡ map run_text (run ∷ others)
runs_text-cut run others real =
    slice_split-join_by 44 [] run_text run others (run_text-lacks 44 run (λ digit. omega arith) refl real.0) (no_comma others real.1)

-- parts of equal texts have equal runs
part-injective : (proto : Proto) (as_runs bs_runs : List (Range ℕ)) → AllByRecursion IsRun as_runs → AllByRecursion IsRun bs_runs → part proto as_runs ≡ part proto bs_runs → as_runs ≡ bs_runs
part-injective proto [] [] real_a real_b same = refl
part-injective proto [] (b ∷ bs) real_a real_b same = cc
part-injective proto (a ∷ rest) [] real_a real_b same = cc
part-injective proto (a ∷ rest) (b ∷ bs) real_a real_b same =
    let texts : part_text proto (a ∷ rest) ≡ part_text proto (b ∷ bs) = cc in
    let front = proto_name proto ++ codes " " in
    let runs_same : join_by run_text (codes ",") (a ∷ rest) ≡ join_by run_text (codes ",") (b ∷ bs) = sym (drop_at front _ _ refl) ∙ ap (drop (length front)) texts ∙ drop_at front _ _ refl in
    map-run_text-injective (a ∷ rest) (b ∷ bs) real_a real_b (sym (runs_text-cut a rest real_a) ∙ ap (slice_split (λ c. eqb c 44)) runs_same ∙ runs_text-cut b bs real_b)

no_semicolon_after_comma : (runs : List (Range ℕ)) → AllByRecursion IsRun runs → lacks 59 (flat_map (λ run. codes "," ++ run_text run) runs) ≡ true
no_semicolon_after_comma [] real = refl
no_semicolon_after_comma (run ∷ others) real =
    lacks-append 59 (codes "," ++ run_text run) _ (run_text-lacks 59 run (λ digit. omega arith) refl real.0) (no_semicolon_after_comma others real.1)

-- no part has a semicolon
pub part_text-lacks : (proto : Proto) (run : Range ℕ) (others : List (Range ℕ)) → AllByRecursion IsRun (run ∷ others) → lacks 59 (part_text proto (run ∷ others)) ≡ true
part_text-lacks proto run others real =
    let runs_free = lacks-append 59 (run_text run) _ (run_text-lacks 59 run (λ digit. omega arith) refl real.0) (no_semicolon_after_comma others real.1) in
    lacks-append 59 (proto_name proto ++ codes " ") _ (elim proto as (λ p. lacks 59 (proto_name p ++ codes " ") ≡ true) [ Tcp ↦ refl | Udp ↦ refl | Sctp ↦ refl ]) runs_free

part-lacks : (proto : Proto) (runs : List (Range ℕ)) → AllByRecursion IsRun runs → AllByRecursion (λ text. lacks 59 text ≡ true) (part proto runs)
part-lacks proto [] real = tt
part-lacks proto (run ∷ others) real = (part_text-lacks proto run others real, tt)

-- the parts that there are
abbrev pub parts : List (Range ℕ) → List (Range ℕ) → List (Range ℕ) → List (List ℕ)
parts tcp udp sctp = part Tcp tcp ++ part Udp udp ++ part Sctp sctp

parts-lack : (tcp udp sctp : List (Range ℕ)) → AllByRecursion IsRun tcp → AllByRecursion IsRun udp → AllByRecursion IsRun sctp → AllByRecursion (λ text. lacks 59 text ≡ true) (parts tcp udp sctp)
parts-lack tcp udp sctp real_tcp real_udp real_sctp =
    let free : List ℕ → Type 0 = λ text. lacks 59 text ≡ true in
    All-append free (part Tcp tcp ++ part Udp udp) _ (All-append free (part Tcp tcp) _ (part-lacks Tcp tcp real_tcp) (part-lacks Udp udp real_udp)) (part-lacks Sctp sctp real_sctp)

spaced : (texts : List (List ℕ)) → AllByRecursion (λ text. lacks 59 text ≡ true) texts → AllByRecursion (λ text. lacks 59 (32 ∷ text) ≡ true) texts
spaced [] free = tt
spaced (text ∷ others) free = (free.0, spaced others free.1)

-- parts that are joined, cut at the semicolons
pub joined-cut : (first : List ℕ) (others : List (List ℕ)) → AllByRecursion (λ text. lacks 59 text ≡ true) (first ∷ others) →
    slice_split (λ b. eqb b 59) (joined (first ∷ others)) ≡ first ∷ map (λ text. 32 ∷ text) others
joined-cut first others free = slice_split-join_by 59 (32 ∷ []) (λ text. text) first others free.0 (spaced others free.1)

-- the pieces without the space before each but the first
abbrev pub unspaced : List (List ℕ) → List (List ℕ)
unspaced [] = []
unspaced (first ∷ others) = first ∷ map (drop 1) others

unspaced-spaced : (texts : List (List ℕ)) → map (drop 1) (map (λ text. 32 ∷ text) texts) ≡ texts
unspaced-spaced [] = refl
unspaced-spaced (text ∷ others) = ap (λ rest. text ∷ rest) (unspaced-spaced others)

-- the pieces of a text that begin with a byte
abbrev pub found : ℕ → List ℕ → List (List ℕ)
found b text = filter (λ piece. eqb (get_or piece 0 0) b) (unspaced (slice_split (λ c. eqb c 59) text))

found-joined : (b : ℕ) (texts : List (List ℕ)) → eqb 78 b ≡ false → AllByRecursion (λ text. lacks 59 text ≡ true) texts → found b (joined texts) ≡ filter (λ piece. eqb (get_or piece 0 0) b) texts
found-joined b [] other free = cond-false _ _ _ other
found-joined b (first ∷ others) other free =
    ap (λ pieces. filter (λ piece. eqb (get_or piece 0 0) b) (unspaced pieces)) (joined-cut first others free)
    ∙ ap (λ rest. filter (λ piece. eqb (get_or piece 0 0) b) (first ∷ rest)) (unspaced-spaced others)

-- a protocol's part is known by the first byte of its name
filtered : (tcp udp sctp : List (Range ℕ)) →
    (filter (λ piece. eqb (get_or piece 0 0) 84) (parts tcp udp sctp) ≡ part Tcp tcp) × (filter (λ piece. eqb (get_or piece 0 0) 85) (parts tcp udp sctp) ≡ part Udp udp) ×
    (filter (λ piece. eqb (get_or piece 0 0) 83) (parts tcp udp sctp) ≡ part Sctp sctp)
filtered [] [] [] = (refl, refl, refl)
filtered [] [] (c ∷ cs) = (refl, refl, refl)
filtered [] (b ∷ bs) [] = (refl, refl, refl)
filtered [] (b ∷ bs) (c ∷ cs) = (refl, refl, refl)
filtered (a ∷ rest) [] [] = (refl, refl, refl)
filtered (a ∷ rest) [] (c ∷ cs) = (refl, refl, refl)
filtered (a ∷ rest) (b ∷ bs) [] = (refl, refl, refl)
filtered (a ∷ rest) (b ∷ bs) (c ∷ cs) = (refl, refl, refl)

-- what the parts of a text are of each protocol
pub record TellsOf (text : List ℕ) (tcp udp sctp : List (Range ℕ)) : Type 0 where
  pub of_tcp : found 84 text ≡ part Tcp tcp
  pub of_udp : found 85 text ≡ part Udp udp
  pub of_sctp : found 83 text ≡ part Sctp sctp

pub joined-tells : (tcp udp sctp : List (Range ℕ)) → AllByRecursion IsRun tcp → AllByRecursion IsRun udp → AllByRecursion IsRun sctp → TellsOf (joined (parts tcp udp sctp)) tcp udp sctp
joined-tells tcp udp sctp real_tcp real_udp real_sctp =
    let free = parts-lack tcp udp sctp real_tcp real_udp real_sctp in
    let kept = filtered tcp udp sctp in
    record {
      of_tcp = found-joined 84 (parts tcp udp sctp) refl free ∙ kept.0;
      of_udp = found-joined 85 (parts tcp udp sctp) refl free ∙ kept.1;
      of_sctp = found-joined 83 (parts tcp udp sctp) refl free ∙ kept.2;
    }

pub none-from_part : (proto : Proto) (runs : List (Range ℕ)) → part proto runs ≡ [] → runs ≡ []
none-from_part proto [] none = refl
none-from_part proto (run ∷ others) none = cc

-- no parts have the text of the whole space
pub joined-not_whole : (tcp udp sctp : List (Range ℕ)) → AllByRecursion IsRun tcp → AllByRecursion IsRun udp → AllByRecursion IsRun sctp → joined (parts tcp udp sctp) ≡ codes "All Connections" → ⊥
joined-not_whole tcp udp sctp real_tcp real_udp real_sctp same =
    let told = joined-tells tcp udp sctp real_tcp real_udp real_sctp in
    let no_tcp = none-from_part Tcp tcp (sym told.of_tcp ∙ ap (found 84) same) in
    let no_udp = none-from_part Udp udp (sym told.of_udp ∙ ap (found 85) same) in
    let no_sctp = none-from_part Sctp sctp (sym told.of_sctp ∙ ap (found 83) same) in
    let none : parts tcp udp sctp ≡ [] = ap (λ t. parts t udp sctp) no_tcp ∙ ap (λ u. parts [] u sctp) no_udp ∙ ap (λ s. parts [] [] s) no_sctp in
    false≢true (ap (λ text. eqb (get_or text 0 0) 65) (sym (ap joined none) ∙ same))

-- the one ascending list that is whole
whole-is : (runs : List (Range ℕ)) → AscendsInPorts runs → is_whole runs ≡ true → runs ≡ record { lo = 1; hi = 65535 } ∷ []
whole-is [] ascends whole = cc
whole-is (run ∷ []) ascends whole =
    let ends = and_parts (eqb run.lo 1) (eqb run.hi 65535) whole in
    ap (λ n. record { lo = n; hi = run.hi } ∷ []) (eqb-true run.lo 1 ends.0) ∙ ap (λ n. record { lo = 1; hi = n } ∷ []) (eqb-true run.hi 65535 ends.1)
whole-is (run ∷ next ∷ others) ascends whole =
    let end = eqb-true run.hi 65535 (and_parts (eqb run.lo 1) (eqb run.hi 65535) whole).1 in
    absurd (omega (arith, ascends.3.0, ascends.3.1, ascends.3.2))

-- whether each protocol has all ports
abbrev pub all_whole : Conns → Bool
all_whole conns = is_whole conns.tcp && is_whole conns.udp && is_whole conns.sctp

pub all_whole-is : (conns : Conns) → IsConns conns → all_whole conns ≡ true →
    conns ≡ record { tcp = record { lo = 1; hi = 65535 } ∷ []; udp = record { lo = 1; hi = 65535 } ∷ []; sctp = record { lo = 1; hi = 65535 } ∷ [] }
all_whole-is conns well whole =
    let front = and_parts (is_whole conns.tcp && is_whole conns.udp) (is_whole conns.sctp) whole in
    let both = and_parts (is_whole conns.tcp) (is_whole conns.udp) front.0 in
    equal_by_ranges conns _ (elim [ Tcp ↦ whole-is conns.tcp well.tcp both.0 | Udp ↦ whole-is conns.udp well.udp both.1 | Sctp ↦ whole-is conns.sctp well.sctp front.1 ])

-- Sets of equal texts are equal.
pub text_of_runs-injective : (a b : Conns) → IsConns a → IsConns b → text_of_runs a.tcp a.udp a.sctp ≡ text_of_runs b.tcp b.udp b.sctp → a ≡ b
text_of_runs-injective a b well_a well_b same =
    let tcp_a = IsRun-from_ascending 1 a.tcp (omega arith) well_a.tcp in
    let udp_a = IsRun-from_ascending 1 a.udp (omega arith) well_a.udp in
    let sctp_a = IsRun-from_ascending 1 a.sctp (omega arith) well_a.sctp in
    let tcp_b = IsRun-from_ascending 1 b.tcp (omega arith) well_b.tcp in
    let udp_b = IsRun-from_ascending 1 b.udp (omega arith) well_b.udp in
    let sctp_b = IsRun-from_ascending 1 b.sctp (omega arith) well_b.sctp in
    elim (cases_Bool (all_whole a)) [
      | inl whole_a ↦ elim (cases_Bool (all_whole b)) [
        | inl whole_b ↦ all_whole-is a well_a whole_a ∙ sym (all_whole-is b well_b whole_b)
        | inr partial_b ↦ absurd (joined-not_whole b.tcp b.udp b.sctp tcp_b udp_b sctp_b (sym (cond-false _ _ _ partial_b) ∙ sym same ∙ cond-true _ _ _ whole_a))
      ]
      | inr partial_a ↦ elim (cases_Bool (all_whole b)) [
        | inl whole_b ↦ absurd (joined-not_whole a.tcp a.udp a.sctp tcp_a udp_a sctp_a (sym (cond-false _ _ _ partial_a) ∙ same ∙ cond-true _ _ _ whole_b))
        | inr partial_b ↦
            let texts : joined (parts a.tcp a.udp a.sctp) ≡ joined (parts b.tcp b.udp b.sctp) = sym (cond-false _ _ _ partial_a) ∙ same ∙ cond-false _ _ _ partial_b in
            let told_a = joined-tells a.tcp a.udp a.sctp tcp_a udp_a sctp_a in
            let told_b = joined-tells b.tcp b.udp b.sctp tcp_b udp_b sctp_b in
            equal_by_ranges a b (elim [
              | Tcp ↦ part-injective Tcp a.tcp b.tcp tcp_a tcp_b (sym told_a.of_tcp ∙ ap (found 84) texts ∙ told_b.of_tcp)
              | Udp ↦ part-injective Udp a.udp b.udp udp_a udp_b (sym told_a.of_udp ∙ ap (found 85) texts ∙ told_b.of_udp)
              | Sctp ↦ part-injective Sctp a.sctp b.sctp sctp_a sctp_b (sym told_a.of_sctp ∙ ap (found 83) texts ∙ told_b.of_sctp)
            ])
      ]
    ]

-- so they are where the spots have equal texts
pub conns_text-injective : (a b : Conns) → IsConns a → IsConns b → conns_text (has_spot a) ≡ conns_text (has_spot b) → a ≡ b
conns_text-injective a b well_a well_b same = text_of_runs-injective a b well_a well_b (sym (conns_text-has_spot a well_a) ∙ same ∙ conns_text-has_spot b well_b)
