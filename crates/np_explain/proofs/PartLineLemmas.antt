-- The line of a part tells the part. For `one_line_has_one_part`.
use Rattle.std.proofs.Common.{◌≡◌, ℕ, List, [], ◌∷◌, ◌++◌, true, not, eqb, codes, refl, sym, ◌∙◌, ap, subst, arith}
use Rattle.std.proofs.lemmas.Bool.{and_parts, cond_both, eqb-false, not-true}
use Rattle.std.specs.List.{AllByRecursion, flat_map}
use Rattle.np_explain.specs.Prelude.{Direction, Part, Proto, Range, Sctp, Tcp, Udp, decider_text, is_well_named, part_line}
use Rattle.np_base.proofs.Each.{All-append}
use Rattle.np_conns.proofs.ConnLemmas.{conns_text-has_spot}
use Rattle.np_conns.proofs.OneText.{all_whole, conns_text-injective, parts}
use Rattle.np_conns.proofs.RunLemmas.{IsRun-from_ascending}
use Rattle.np_conns.proofs.SplitLemmas.{lacks, lacks-append, run_text-lacks}
use Rattle.np_conns.specs.Prelude.{Conns, IsConns, IsRun, conns_text, has_spot, joined, part, proto_name, run_text}
use Rattle.np_explain.proofs.TextLemmas.{decider_text-one}

-- ---- the text of connections has no colon

after_commas : (runs : List (Range ℕ)) → AllByRecursion IsRun runs → lacks 58 (flat_map (λ run. codes "," ++ run_text run) runs) ≡ true
after_commas [] real = refl
after_commas (run ∷ others) real =
    lacks-append 58 (codes "," ++ run_text run) _ (run_text-lacks 58 run (λ digit. omega arith) refl real.0) (after_commas others real.1)

in_part : (proto : Proto) (runs : List (Range ℕ)) → AllByRecursion IsRun runs → AllByRecursion (λ text. lacks 58 text ≡ true) (part proto runs)
in_part proto [] real = tt
in_part proto (run ∷ others) real =
    let behind = lacks-append 58 (run_text run) _ (run_text-lacks 58 run (λ digit. omega arith) refl real.0) (after_commas others real.1) in
    (lacks-append 58 (proto_name proto ++ codes " ") _ (elim proto as (λ p. lacks 58 (proto_name p ++ codes " ") ≡ true) [ Tcp ↦ refl | Udp ↦ refl | Sctp ↦ refl ]) behind, tt)

after_semicolons : (texts : List (List ℕ)) → AllByRecursion (λ text. lacks 58 text ≡ true) texts → lacks 58 (flat_map (λ text. codes "; " ++ text) texts) ≡ true
after_semicolons [] free = refl
after_semicolons (text ∷ others) free = lacks-append 58 (codes "; " ++ text) _ free.0 (after_semicolons others free.1)

in_joined : (texts : List (List ℕ)) → AllByRecursion (λ text. lacks 58 text ≡ true) texts → lacks 58 (joined texts) ≡ true
in_joined [] free = refl
in_joined (text ∷ others) free = lacks-append 58 text _ free.0 (after_semicolons others free.1)

in_runs : (tcp udp sctp : List (Range ℕ)) → AllByRecursion IsRun tcp → AllByRecursion IsRun udp → AllByRecursion IsRun sctp → lacks 58 (joined (parts tcp udp sctp)) ≡ true
in_runs tcp udp sctp real_tcp real_udp real_sctp =
    let free : List ℕ → Type 0 = λ text. lacks 58 text ≡ true in
    in_joined (parts tcp udp sctp)
    (All-append free (part Tcp tcp ++ part Udp udp) _ (All-append free (part Tcp tcp) _ (in_part Tcp tcp real_tcp) (in_part Udp udp real_udp)) (in_part Sctp sctp real_sctp))

conns_text-lacks : (conns : Conns) → IsConns conns → lacks 58 (conns_text (has_spot conns)) ≡ true
conns_text-lacks conns well =
    let tcp = IsRun-from_ascending 1 conns.tcp (omega arith) well.tcp in
    let udp = IsRun-from_ascending 1 conns.udp (omega arith) well.udp in
    let sctp = IsRun-from_ascending 1 conns.sctp (omega arith) well.sctp in
    subst (λ (text : List ℕ). lacks 58 text ≡ true) (sym (conns_text-has_spot conns well))
    (cond_both (all_whole conns) _ _ (λ text. lacks 58 text ≡ true) (λ whole. refl) (λ parted. in_runs conns.tcp conns.udp conns.sctp tcp udp sctp))

-- ---- texts that are cut at a byte

-- at the first one of it
cut-first : (c : ℕ) (xs ys : List ℕ) (behind others : List ℕ) → lacks c xs ≡ true → lacks c ys ≡ true → xs ++ c ∷ behind ≡ ys ++ c ∷ others → (xs ≡ ys) × (behind ≡ others)
cut-first c [] [] behind others free free' same = (refl, cc)
cut-first c [] (y ∷ ys) behind others free free' same = absurd (eqb-false y c (not-true _ (and_parts (not (eqb y c)) (lacks c ys) free').0) cc)
cut-first c (x ∷ xs) [] behind others free free' same = absurd (eqb-false x c (not-true _ (and_parts (not (eqb x c)) (lacks c xs) free).0) cc)
cut-first c (x ∷ xs) (y ∷ ys) behind others free free' same =
    let head : x ≡ y = cc in
    let rest = cut-first c xs ys behind others (and_parts (not (eqb x c)) (lacks c xs) free).1 (and_parts (not (eqb y c)) (lacks c ys) free').1 cc in
    (cc (head, rest.0), rest.1)

-- at the last byte
cut-last : (c : ℕ) (xs ys : List ℕ) → xs ++ c ∷ [] ≡ ys ++ c ∷ [] → xs ≡ ys
cut-last c [] [] same = refl
cut-last c [] (y ∷ []) same = absurd (cc)
cut-last c [] (y ∷ z ∷ ys) same = absurd (cc)
cut-last c (x ∷ []) [] same = absurd (cc)
cut-last c (x ∷ w ∷ xs) [] same = absurd (cc)
cut-last c (x ∷ xs) (y ∷ ys) same =
    let head : x ≡ y = cc in
    let rest = cut-last c xs ys cc in
    cc (head, rest)

-- ---- the line

line-cut : (text behind : List ℕ) → text ++ codes " : " ++ behind ++ codes "\n" ≡ (text ++ codes " ") ++ 58 ∷ 32 ∷ (behind ++ codes "\n")
line-cut [] behind = refl
line-cut (b ∷ text) behind = ap (λ (rest : List ℕ). b ∷ rest) (line-cut text behind)

pub part_line-one : (direction : Direction) (a b : Part) → IsConns a.conns → IsConns b.conns → is_well_named a.decider ≡ true → is_well_named b.decider ≡ true
    → part_line direction a ≡ part_line direction b → (a.conns ≡ b.conns) × (a.decider ≡ b.decider)
part_line-one direction a b well well' named named' same =
    let text : Part → List ℕ = λ part. conns_text (has_spot part.conns) in
    let free : (part : Part) → IsConns part.conns → lacks 58 (text part ++ codes " ") ≡ true = λ part real. lacks-append 58 (text part) (codes " ") (conns_text-lacks part.conns real) refl in
    let cut = cut-first 58 (text a ++ codes " ") (text b ++ codes " ") _ _ (free a well) (free b well')
    (sym (line-cut (text a) (decider_text direction a.decider)) ∙ same ∙ line-cut (text b) (decider_text direction b.decider)) in
    let behind : decider_text direction a.decider ++ codes "\n" ≡ decider_text direction b.decider ++ codes "\n" = cc (cut.1) in (
      conns_text-injective a.conns b.conns well well' (cut-last 32 (text a) (text b) cut.0),
      (decider_text-one direction direction a.decider b.decider named named' (cut-last 10 (decider_text direction a.decider) (decider_text direction b.decider) behind)).0,
    )
