-- Names that a number follows are apart. For `names_are_apart`.
use Rattle.std.proofs.Common.{◌≡◌, ℕ, ◌+◌, ◌^◌, ◌<◌, ◌==◌, List, [], ◌∷◌, ◌++◌, Bool, true, false, length, get_or, filter, codes, decimal, if◌then◌else◌, refl, sym, ap, subst, ◌∙◌, arith, append_assoc}
use Rattle.std.specs.Prelude.{All}
use Rattle.std.specs.Int.{IsInRange}
use Rattle.std.specs.List.{AllByRecursion, range_with_len}
use Rattle.std.specs.Str.{bytes_eq}
use Rattle.std.specs.Str.Parse.{AllDigits, digits_value}
use Rattle.std.proofs.lemmas.Bool.{eqb-true}
use Rattle.std.proofs.lemmas.Fmt.{decimal_is_IsNumeral_wide}
use Rattle.std.proofs.lemmas.List.Sums.{passes_at_first}
use Rattle.std.proofs.lemmas.Str.Parse.{digit_from_value}
use Rattle.np_names.proofs.CountLemmas.{few-namesakes, number_among, number-among-namesakes}
use Rattle.np_names.specs.Names.{EndsInBracket, name_at, namesakes, suffix, wish_at}

-- ---- texts cut at the last byte of a kind

abbrev Lacks : ℕ → List ℕ → Type 0
Lacks c text = AllByRecursion (λ b. b ≡ c → ⊥) text

lacks-inside : (c : ℕ) (before after : List ℕ) → Lacks c (before ++ c ∷ after) → ⊥
lacks-inside c [] after free = free.0 refl
lacks-inside c (b ∷ before) after free = lacks-inside c before after free.1

-- there is one way to cut
cut-once : (c : ℕ) (x y s t : List ℕ) → Lacks c s → Lacks c t → x ++ c ∷ s ≡ y ++ c ∷ t → (x ≡ y) × (s ≡ t)
cut-once c [] [] s t s_free t_free same = (refl, cc)
cut-once c [] (b ∷ y) s t s_free t_free same =
    let inside : s ≡ y ++ c ∷ t = cc in
    absurd (lacks-inside c y t (subst (Lacks c) inside s_free))
cut-once c (b ∷ x) [] s t s_free t_free same =
    let inside : t ≡ x ++ c ∷ s = cc in
    absurd (lacks-inside c x s (subst (Lacks c) inside t_free))
cut-once c (b ∷ x) (d ∷ y) s t s_free t_free same =
    let first : b ≡ d = cc in
    let others : x ++ c ∷ s ≡ y ++ c ∷ t = cc in
    let rest = cut-once c x y s t s_free t_free others in
    (cc (first, rest.0), rest.1)

-- ---- numbers

-- no byte but a digit stands among digits
lacks-digits : (c : ℕ) (digits : List ℕ) → (IsInRange 48 57 c → ⊥) → AllDigits 10 digits → Lacks c digits
lacks-digits c [] other all = tt
lacks-digits c (d ∷ digits) other all = (λ same. other (subst (IsInRange 48 57) same (digit_from_value d all.0)), lacks-digits c digits other all.1)

-- what stands behind a name of which there are so many, where so many come before
abbrev behind : ℕ → ℕ → List ℕ
behind count before = if count == 1 then [] else codes "#" ++ decimal (1 + before)

lacks-bracket : (count before : ℕ) → 1 + before < 10 ^ 64 → Lacks 93 (behind count before)
lacks-bracket count before few = by (count == 1)
  where
    by : (b : Bool) → Lacks 93 (if b then [] else codes "#" ++ decimal (1 + before))
    by true = tt
    by false = (λ same. omega arith, lacks-digits 93 (decimal (1 + before)) (λ digit. omega arith) (decimal_is_IsNumeral_wide (1 + before) few).0.1)

-- decimal texts tell numbers apart
decimal-apart : (m n : ℕ) → m < 10 ^ 64 → n < 10 ^ 64 → decimal m ≡ decimal n → m ≡ n
decimal-apart m n m_few n_few same = sym (decimal_is_IsNumeral_wide m m_few).1 ∙ ap (digits_value 10) same ∙ (decimal_is_IsNumeral_wide n n_few).1

-- and so does what stands behind names
behind-apart : (count m n : ℕ) → m < count → n < count → count < 10 ^ 64 → behind count m ≡ behind count n → m ≡ n
behind-apart count m n m_in n_in few same = by (count == 1) refl same
  where
    by : (b : Bool) → (count == 1) ≡ b → (if b then [] else codes "#" ++ decimal (1 + m)) ≡ (if b then [] else codes "#" ++ decimal (1 + n)) → m ≡ n
    by true one same_behind =
        let is_one : count ≡ 1 = eqb-true count 1 one in
        omega arith
    by false more same_behind =
        let texts : decimal (1 + m) ≡ decimal (1 + n) = cc in
        let numbers : 1 + m ≡ 1 + n = decimal-apart (1 + m) (1 + n) (omega arith) (omega arith) texts in
        omega arith

-- ---- names

-- the places of the things that wish for a name
abbrev namesakes_of : List (List ℕ) → List ℕ → List ℕ
namesakes_of wishes wish = filter (λ other. bytes_eq (wish_at wishes other) wish) (range_with_len 0 (length wishes))

-- two numbers that stand at one place of a list are one
one-at-place : (places : List ℕ) (a b : ℕ) → number_among places a < length places → number_among places b < length places → number_among places a ≡ number_among places b → a ≡ b
one-at-place places a b a_in b_in same =
    sym (eqb-true (get_or places (number_among places a) 0) a (passes_at_first (λ other. other == a) places 0 a_in))
    ∙ ap (λ i. get_or places i 0) same
    ∙ eqb-true (get_or places (number_among places b) 0) b (passes_at_first (λ other. other == b) places 0 b_in)

pub names-apart : (wishes : List (List ℕ)) (a b : ℕ) → All EndsInBracket wishes → length wishes < 10 ^ 64 → a < length wishes → b < length wishes → name_at wishes a ≡ name_at wishes b → a ≡ b
unfolding name_at suffix
names-apart wishes a b brackets few a_in b_in same =
    one-at-place (namesakes wishes b) a b a_among (number-among-namesakes wishes b b_in)
    (behind-apart (length (namesakes wishes b)) (number_among (namesakes wishes b) a) (number_among (namesakes wishes b) b) a_among (number-among-namesakes wishes b b_in)
    (omega (arith, few-namesakes wishes b)) same_behind)
  where
    a_ends : EndsInBracket (wish_at wishes a)
    a_ends = brackets a [] a_in

    b_ends : EndsInBracket (wish_at wishes b)
    b_ends = brackets b [] b_in

    whole : (wish : List ℕ) (ends : EndsInBracket wish) (more : List ℕ) → wish ++ more ≡ ends.0 ++ 93 ∷ more
    whole wish ends more = ap (λ (w : List ℕ). w ++ more) ends.1 ∙ append_assoc ends.0 (93 ∷ []) more

    free : (place : ℕ) → place < length wishes → Lacks 93 (suffix wishes place)
    free place within = lacks-bracket (length (namesakes wishes place)) (number_among (namesakes wishes place) place)
        (omega (arith, number-among-namesakes wishes place within, few-namesakes wishes place))

    parts : (a_ends.0 ≡ b_ends.0) × (suffix wishes a ≡ suffix wishes b)
    parts = cut-once 93 a_ends.0 b_ends.0 (suffix wishes a) (suffix wishes b) (free a a_in) (free b b_in)
        (sym (whole (wish_at wishes a) a_ends (suffix wishes a)) ∙ same ∙ whole (wish_at wishes b) b_ends (suffix wishes b))

    same_namesakes : namesakes wishes a ≡ namesakes wishes b
    same_namesakes = ap (λ (wish : List ℕ). namesakes_of wishes wish) (a_ends.1 ∙ ap (λ (w : List ℕ). w ++ 93 ∷ []) parts.0 ∙ sym b_ends.1)

    a_among : number_among (namesakes wishes b) a < length (namesakes wishes b)
    a_among = subst (λ (places : List ℕ). number_among places a < length places) same_namesakes (number-among-namesakes wishes a a_in)

    same_behind : behind (length (namesakes wishes b)) (number_among (namesakes wishes b) a) ≡ behind (length (namesakes wishes b)) (number_among (namesakes wishes b) b)
    same_behind = ap (λ (places : List ℕ). behind (length places) (number_among places a)) (sym same_namesakes) ∙ parts.1
