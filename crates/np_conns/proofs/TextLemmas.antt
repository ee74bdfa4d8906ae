-- The text of connections, as it is printed part by part. For `text_of_runs`.
use Rattle.std.proofs.Common.{◌≡◌, ℕ, List, [], ◌∷◌, ◌++◌, false, ◌&&◌, eqb, length, sym, ◌∙◌, append_assoc, append-nil}
use Rattle.std.proofs.lemmas.Bool.{cond-false}
use Rattle.np_conns.specs.Prelude.{Range, Sctp, Tcp, Udp, is_whole, joined, part, text_of_runs, with_part}

-- the parts one after another, from none
abbrev three_parts : List (Range ℕ) → List (Range ℕ) → List (Range ℕ) → List ℕ
three_parts tcp udp sctp = with_part (with_part (with_part [] (part Tcp tcp)) (part Udp udp)) (part Sctp sctp)

-- where there is a part, they are the parts joined
joined-three_parts : (tcp udp sctp : List (Range ℕ)) → eqb (length (three_parts tcp udp sctp)) 0 ≡ false → three_parts tcp udp sctp ≡ joined (part Tcp tcp ++ part Udp udp ++ part Sctp sctp)
joined-three_parts [] [] [] some = absurd (cc some)
joined-three_parts [] [] (c ∷ cs) some = simp (append_assoc, append-nil)
joined-three_parts [] (b ∷ bs) [] some = simp (append_assoc, append-nil)
joined-three_parts [] (b ∷ bs) (c ∷ cs) some = simp (append_assoc, append-nil)
joined-three_parts (a ∷ as_rest) [] [] some = simp (append_assoc, append-nil)
joined-three_parts (a ∷ as_rest) [] (c ∷ cs) some = simp (append_assoc, append-nil)
joined-three_parts (a ∷ as_rest) (b ∷ bs) [] some = simp (append_assoc, append-nil)
joined-three_parts (a ∷ as_rest) (b ∷ bs) (c ∷ cs) some = simp (append_assoc, append-nil)

pub text_of_runs-by_parts : (tcp udp sctp : List (Range ℕ)) → (is_whole tcp && is_whole udp && is_whole sctp) ≡ false → eqb (length (three_parts tcp udp sctp)) 0 ≡ false →
    three_parts tcp udp sctp ≡ text_of_runs tcp udp sctp
text_of_runs-by_parts tcp udp sctp partial some = joined-three_parts tcp udp sctp some ∙ sym (cond-false _ _ _ partial)
