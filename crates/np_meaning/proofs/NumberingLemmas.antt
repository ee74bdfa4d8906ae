-- Namesakes are numbered in the order of their places. For `numbers_follow_places`.
use Rattle.std.proofs.Common.{◌≡◌, ℕ, zero, suc, ◌+◌, ◌<◌, ◌≤◌, List, ◌∷◌, ◌++◌, length, filter, cond, nat_lt, Bool, true, false, refl, sym, ap, subst, ◌∙◌, arith}
use Rattle.std.specs.Prelude.{codes, decimal, ◌==◌}
use Rattle.std.specs.List.{range_with_len}
use Rattle.std.specs.Str.{bytes_eq}
use Rattle.std.specs.Cmp.Lexicographic.{bytes_decides}
use Rattle.std.proofs.lemmas.Bool.{false≢true, eqb-true, eqb-false, ltb-false, ltb-true, ne_eqb}
use Rattle.np_meaning.specs.Prelude.{AreNumbered}
use Rattle.np_names.proofs.CountLemmas.{number_among, number-among-namesakes}
use Rattle.np_names.specs.Names.{name_at, namesakes, suffix, wish_at}

-- of two places that pass, the lower one comes first among those that do
earlier : (p : ℕ → Bool) (a b n s : ℕ) → s ≤ a → a < b → b < s + n → p a ≡ true → p b ≡ true → number_among (filter p (range_with_len s n)) a < number_among (filter p (range_with_len s n)) b
earlier p a b zero s low lt high pa pb = absurd (none low lt high)
  where
    none : s ≤ a → a < b → b < s + 0 → ⊥
    none one two three = omega (arith, one, two, three)
earlier p a b (suc n) s low lt high pa pb = by (λ past. earlier p a b n (s + 1) past lt (omega (arith, high)) pa pb) (p s) refl (s == a) refl
  where
    rest : List ℕ
    rest = filter p (range_with_len (s + 1) n)

    beyond : (s == b) ≡ false
    beyond = ne_eqb s b (λ same. never low lt same)
      where
        never : s ≤ a → a < b → s ≡ b → ⊥
        never one two three = omega (arith, one, two, three)

    past : (s == a) ≡ false → s + 1 ≤ a
    past there = further (eqb-false s a there) (nat_lt s a) refl
      where
        further : (s ≡ a → ⊥) → (c : Bool) → nat_lt s a ≡ c → s + 1 ≤ a
        further apart true is = let less = ltb-true s a is in omega (arith, less)
        further apart false is = let least = ltb-false s a is in absurd (apart (omega (arith, low, least)))

    by : (s + 1 ≤ a → number_among rest a < number_among rest b) → (passes : Bool) → p s ≡ passes → (here : Bool) → (s == a) ≡ here →
        number_among (cond passes (s ∷ rest) rest) a < number_among (cond passes (s ∷ rest) rest) b
    by further true is true here = rw (here, beyond) (omega arith)
    by further true is false there = let less = further (past there) in rw (there, beyond) (omega (arith, less))
    by further false is true here = absurd (false≢true (sym is ∙ ap p (eqb-true s a here) ∙ pa))
    by further false is false there = further (past there)

text-same : (text : List ℕ) → bytes_eq text text ≡ true
text-same text = (bytes_decides text text).1 refl

several : (n first second : ℕ) → first < second → second < n → (n == 1) ≡ false
several n first second order within = ne_eqb n 1 (λ same. never same order within)
  where
    never : n ≡ 1 → first < second → second < n → ⊥
    never one two three = omega (arith, one, two, three)

name-several : (wishes : List (List ℕ)) (place : ℕ) → (length (namesakes wishes place) == 1) ≡ false →
    name_at wishes place ≡ wish_at wishes place ++ (codes "#" ++ decimal (1 + number_among (namesakes wishes place) place))
unfolding name_at suffix
name-several wishes place many = rw many refl

pub numbered : (wishes : List (List ℕ)) (first second : ℕ) → first < second → second < length wishes → wish_at wishes first ≡ wish_at wishes second → AreNumbered wishes first second
numbered wishes first second order within same =
    let wanted : ℕ → Bool = λ other. bytes_eq (wish_at wishes other) (wish_at wishes first) in
    let one : namesakes wishes first ≡ namesakes wishes second = ap (λ (wish : List ℕ). filter (λ other. bytes_eq (wish_at wishes other) wish) (range_with_len 0 (length wishes))) same in
    let before = earlier wanted first second (length wishes) 0 (omega arith) order (omega (arith, within)) (text-same (wish_at wishes first))
    ((bytes_decides (wish_at wishes second) (wish_at wishes first)).1 (sym same)) in
    let less = subst (λ (places : List ℕ). number_among (namesakes wishes first) first < number_among places second) one before in
    let inside = number-among-namesakes wishes second within in
    let many = several (length (namesakes wishes second)) _ _ less inside in
    record {
      lower = 1 + number_among (namesakes wishes first) first;
      higher = 1 + number_among (namesakes wishes second) second;
      order = omega (arith, less);
      first_name = name-several wishes first (ap (λ (places : List ℕ). length places == 1) one ∙ many);
      second_name = name-several wishes second many;
    }
