-- Numbers that agree with one number agree with each other, and so the least pair that does not is one of firsts.
-- For FlatFacts and KindGroups.
use Rattle.std.proofs.Common.{◌≡◌, ◌≢◌, ◌⊎◌, ℕ, ◌<◌, ◌≤◌, List, All, Option, Some, None, Bool, true, false, ◌&&◌, ◌==◌, nat_lt, arith, refl, sym, ap, subst, ◌∙◌, inl, inr, eq-eqb}
use Rattle.std.proofs.lemmas.Bool.{and_parts, and_from, cases_eq, false_from_ne_true, lt-ltb, ltb-true, or_right, true≢false}
use Rattle.np_flatten.proofs.FirstPairs.{first_pair-none, first_pair-some}
use Rattle.np_flatten.specs.Prelude.{Agree, IsLeast, IsLike, IsNotBefore, first_pair, stands_before}

module _ {C R : Type 0} (count : ℕ) (defined : ℕ → ℕ → Bool) (set : ℕ → ℕ → C) (own : ℕ → R) where
  abbrev agree : ℕ → ℕ → Type 0
  agree = Agree count defined set own

  pub Agree-sym : (a b : ℕ) → agree a b → agree b a
  Agree-sym a b with_b = record {
    sends = λ c within b' a'. sym (with_b.sends c within a' b');
    receives = λ c within b' a'. sym (with_b.receives c within a' b');
    both_ways = sym with_b.both_ways;
    first = λ is. with_b.second is ∙ with_b.both_ways;
    second = λ is. with_b.first is ∙ with_b.both_ways;
    alone = sym with_b.alone;
  }

  -- what agrees with one agrees with each other
  pub Agree-trans : (x y z : ℕ) → x < count → y < count → z < count → x ≢ y → x ≢ z → y ≢ z → agree x y → agree x z → agree y z
  Agree-trans x y z x_in y_in z_in xy xz yz with_y with_z =
      let yx-yz : set y x ≡ set y z = with_z.receives y y_in (λ same. xy (sym same)) yz in
      let xz-yz : set x z ≡ set y z = with_y.sends z z_in (λ same. xz (sym same)) (λ same. yz (sym same)) in
      let zx-zy : set z x ≡ set z y = with_y.receives z z_in (λ same. xz (sym same)) (λ same. yz (sym same)) in
      let xy-zy : set x y ≡ set z y = with_z.sends y y_in (λ same. xy (sym same)) yz in
      record {
        sends = λ d within dy dz. elim (cases_eq d x) [
          | inl here ↦ ap (set y) here ∙ yx-yz ∙ sym xz-yz ∙ with_z.both_ways ∙ sym (ap (set z) here)
          | inr apart ↦ sym (with_y.sends d within apart dy) ∙ with_z.sends d within apart dz
        ];
        receives = λ d within dy dz. elim (cases_eq d x) [
          | inl here ↦ ap (λ (n : ℕ). set n y) here ∙ xy-zy ∙ sym zx-zy ∙ sym with_z.both_ways ∙ sym (ap (λ (n : ℕ). set n z) here)
          | inr apart ↦ sym (with_y.receives d within apart dy) ∙ with_z.receives d within apart dz
        ];
        both_ways = sym xz-yz ∙ with_z.both_ways ∙ zx-zy;
        first = λ is. with_y.second is ∙ with_y.both_ways ∙ yx-yz;
        second = λ is. with_z.second is ∙ xz-yz;
        alone = sym with_y.alone ∙ with_z.alone;
      }

  -- ---- kinds

  module _ (kind : ℕ → ℕ) (apart_defined : (x y : ℕ) → x ≢ y → defined x y ≡ true)
      (by_kinds : (x x' y y' : ℕ) → x < count → x' < count → y < count → y' < count → kind x ≡ kind x' → kind y ≡ kind y' → defined x y ≡ true → defined x' y' ≡ true → set x y ≡ set x' y')
      (own_by_kinds : (x x' : ℕ) → x < count → x' < count → kind x ≡ kind x' → own x ≡ own x') where
    -- numbers of one kind agree
    pub Agree-kinds : (a b : ℕ) → a < count → b < count → a ≢ b → kind a ≡ kind b → agree a b
    Agree-kinds a b a_in b_in apart same = record {
      sends = λ c within ca cb. by_kinds a b c c a_in b_in within within same refl (apart_defined a c (λ is. ca (sym is))) (apart_defined b c (λ is. cb (sym is)));
      receives = λ c within ca cb. by_kinds c c a b within within a_in b_in refl same (apart_defined c a ca) (apart_defined c b cb);
      both_ways = by_kinds a b b a a_in b_in b_in a_in same (sym same) (apart_defined a b apart) (apart_defined b a (λ is. apart (sym is)));
      first = λ is. by_kinds a a a b a_in a_in a_in b_in refl same is (apart_defined a b apart);
      second = λ is. by_kinds b a b b b_in a_in b_in b_in (sym same) refl is (apart_defined a b apart);
      alone = own_by_kinds a b a_in b_in same;
    }

    -- ---- firsts of groups and of kinds

    module _ (differ : ℕ → ℕ → Bool) (to_agree : (a b : ℕ) → a < count → b < count → a ≢ b → differ a b ≡ false → agree a b)
        (first : ℕ → ℕ) (first_in : (w : ℕ) → w < count → first w < count) (first_low : (w : ℕ) → w < count → first w ≤ w) (first_twice : (w : ℕ) → w < count → first (first w) ≡ first w)
        (kind_first : ℕ → ℕ) (kind_in : (w : ℕ) → w < count → kind_first w < count) (kind_low : (w : ℕ) → w < count → kind_first w ≤ w)
        (kind_same : (w : ℕ) → w < count → kind (kind_first w) ≡ kind w) (kind_group : (w : ℕ) → w < count → first (kind_first w) ≡ first w) where
      -- a number is the first of its group, or agrees with it
      abbrev IsWithFirst : ℕ → Type 0
      IsWithFirst w = (first w ≡ w) ⊎ agree (first w) w

      abbrev like : ℕ → Type 0
      like = IsLike first differ

      -- as the first of its kind does
      with_first : (w : ℕ) → w < count → like (kind_first w) → IsWithFirst w
      with_first w within is_like =
          elim (cases_eq (first w) w) [
            | inl here ↦ inl here
            | inr apart ↦ elim (cases_eq (kind_first w) (first w)) [
              | inl one ↦ inr (Agree-kinds (first w) w (first_in w within) within apart (ap kind (sym one) ∙ kind_same w within))
              | inr other ↦ inr (apart_from w within apart other (of_like is_like))
            ]
          ]
        where
          of_like : like (kind_first w) → (kind_first w ≢ first w) → agree (first w) (kind_first w)
          of_like (inl own_first) other = absurd (other (sym own_first ∙ kind_group w within))
          of_like (inr same) other =
              to_agree (first w) (kind_first w) (first_in w within) (kind_in w within) (λ is. other (sym is))
              (ap (λ (n : ℕ). differ n (kind_first w)) (sym (kind_group w within)) ∙ same)

          apart_from : (w : ℕ) → w < count → (first w ≢ w) → (kind_first w ≢ first w) → ((kind_first w ≢ first w) → agree (first w) (kind_first w)) → agree (first w) w
          apart_from w within apart other with_kind =
              elim (cases_eq (kind_first w) w) [
                | inl own_kind ↦ subst (λ (n : ℕ). agree (first w) n) own_kind (with_kind other)
                | inr behind ↦
                    Agree-trans (kind_first w) (first w) w (kind_in w within) (first_in w within) within other behind apart
                    (Agree-sym (first w) (kind_first w) (with_kind other))
                    (Agree-kinds (kind_first w) w (kind_in w within) within behind (kind_same w within))
              ]

      -- two numbers of one group agree where both agree with its first
      pub Agree-group : (a b : ℕ) → a < count → b < count → a ≢ b → first a ≡ first b → like (kind_first a) → like (kind_first b) → agree a b
      Agree-group a b a_in b_in apart same like_a like_b = by (with_first a a_in like_a) (with_first b b_in like_b)
        where
          both : (first a ≢ a) → (first b ≢ b) → agree (first a) a → agree (first b) b → agree a b
          both not_a not_b with_a with_b =
              Agree-trans (first a) a b (first_in a a_in) a_in b_in not_a (λ is. not_b (sym same ∙ is)) apart with_a
              (subst (λ (n : ℕ). agree n b) (sym same) with_b)

          by : IsWithFirst a → IsWithFirst b → agree a b
          by (inl a_first) (inl b_first) = absurd (apart (sym a_first ∙ same ∙ b_first))
          by (inl a_first) (inr with_b) = subst (λ (n : ℕ). agree n b) (sym same ∙ a_first) with_b
          by (inr with_a) (inl b_first) = Agree-sym b a (subst (λ (n : ℕ). agree n a) (same ∙ b_first) with_a)
          by (inr with_a) (inr with_b) =
              elim (cases_eq (first a) a) [
                | inl a_first ↦ subst (λ (n : ℕ). agree n b) (sym same ∙ a_first) with_b
                | inr not_a ↦ elim (cases_eq (first b) b) [
                  | inl b_first ↦ Agree-sym b a (subst (λ (n : ℕ). agree n a) (same ∙ b_first) with_a)
                  | inr not_b ↦ both not_a not_b with_a with_b
                ]
              ]

      -- ---- the least pair

      module _ (together : ℕ → ℕ → Bool) (from_agree : (a b : ℕ) → a < count → b < count → a ≢ b → agree a b → differ a b ≡ false)
          (to_first : (a b : ℕ) → a < count → b < count → together a b ≡ true → first a ≡ first b)
          (from_first : (a b : ℕ) → a < count → b < count → first a ≡ first b → together a b ≡ true)
          (kinds : List ℕ) (kind_listed : (P : ℕ → Type 0) → All P kinds → (w : ℕ) → w < count → P (kind_first w)) where
        -- two numbers, the lesser first, are of one group and differ
        abbrev unlike : ℕ → ℕ → Bool
        unlike a b = nat_lt a b && together a b && differ a b

        unlike-parts : (a b : ℕ) → unlike a b ≡ true → (a < b) × (together a b ≡ true) × (differ a b ≡ true)
        unlike-parts a b is =
            let outer = and_parts (nat_lt a b && together a b) (differ a b) is in
            let inner = and_parts (nat_lt a b) (together a b) outer.0 in
            (ltb-true a b inner.0, inner.1, outer.1)

        -- it is not so where both agree with the first of their group
        unlike-not : (a b : ℕ) → a < count → b < count → (first a ≡ first b → like (kind_first a) × like (kind_first b)) → unlike a b ≡ false
        unlike-not a b a_in b_in likes =
            false_from_ne_true (unlike a b) (λ is.
            let parts = unlike-parts a b is in
            let apart : a ≢ b = λ same. omega (arith, parts.0, same) in
            let same = to_first a b a_in b_in parts.1 in
            let both = likes same in
            true≢false (sym parts.2 ∙ from_agree a b a_in b_in apart (Agree-group a b a_in b_in apart same both.0 both.1)))

        -- a number whose kind does not stand before a pair, though with a lesser first it would
        like_from : (pair : ℕ × ℕ) (w : ℕ) → w < count → stands_before (first w) (kind_first w) pair ≡ true → IsNotBefore first differ pair (kind_first w) → like (kind_first w)
        like_from pair w within before (inl is) = is
        like_from pair w within before (inr not_before) =
            absurd (true≢false (sym before ∙ ap (λ (n : ℕ). stands_before n (kind_first w) pair) (sym (kind_group w within)) ∙ not_before))

        before_first : (low number : ℕ) (pair : ℕ × ℕ) → low < pair.0 → stands_before low number pair ≡ true
        before_first low number pair below = rw (lt-ltb low pair.0 below) refl

        before_second : (number : ℕ) (pair : ℕ × ℕ) → number < pair.1 → stands_before pair.0 number pair ≡ true
        before_second number pair below = or_right (nat_lt pair.0 pair.0) (pair.0 == pair.0 && nat_lt number pair.1)
            (and_from (pair.0 == pair.0) (nat_lt number pair.1) (eq-eqb pair.0 pair.0 refl) (lt-ltb number pair.1 below))

        -- the first of a group is the first of its kind
        own_like : (w : ℕ) → w < count → first w ≡ w → like (kind_first w)
        own_like w within own_first =
            let low : first (kind_first w) ≤ kind_first w = first_low (kind_first w) (kind_in w within) in
            let is : first (kind_first w) ≡ w = kind_group w within ∙ own_first in
            inl (omega (arith, low, is, kind_low w within))

        pub least-first_pair : (found : Option (ℕ × ℕ)) → IsLeast count first differ kinds found → found ≡ first_pair unlike count
        least-first_pair None all = sym (first_pair-none unlike count (λ a b a_in b_in. unlike-not a b a_in b_in (λ _. (kind_listed like all a a_in, kind_listed like all b b_in))))
        least-first_pair (Some pair) is =
            let there = is.0 in
            let listed = kind_listed (IsNotBefore first differ pair) is.1 in
            let first_below : pair.0 ≤ pair.1 = subst (λ (n : ℕ). n ≤ pair.1) there.of_group (first_low pair.1 there.within) in
            let own_first : first pair.0 ≡ pair.0 = ap first (sym there.of_group) ∙ first_twice pair.1 there.within ∙ there.of_group in
            let less : pair.0 < pair.1 = grind (arith, there.apart) in
            let pair_in : pair.0 < count = omega (arith, less, there.within) in
            let holds : unlike pair.0 pair.1 ≡ true = and_from (nat_lt pair.0 pair.1 && together pair.0 pair.1) (differ pair.0 pair.1)
            (and_from (nat_lt pair.0 pair.1) (together pair.0 pair.1) (lt-ltb pair.0 pair.1 less) (from_first pair.0 pair.1 pair_in there.within (own_first ∙ sym there.of_group)))
            there.differ_so in
            sym (first_pair-some unlike count pair.0 pair.1 pair_in there.within holds
            (λ x y low y_in.
            let x_in : x < count = omega (arith, low, pair_in) in
            unlike-not x y x_in y_in (λ same.
            let low_first : first x < pair.0 = omega (arith, first_low x x_in, low) in (
              like_from pair x x_in (before_first (first x) (kind_first x) pair low_first) (listed x x_in),
              like_from pair y y_in (before_first (first y) (kind_first y) pair (subst (λ (n : ℕ). n < pair.0) same low_first)) (listed y y_in),
            )))
            (λ y low.
            let y_in : y < count = omega (arith, low, there.within) in
            unlike-not pair.0 y pair_in y_in (λ same.
            let first_is : first y ≡ pair.0 = sym same ∙ own_first in
            let kind_below : kind_first y < pair.1 = omega (arith, kind_low y y_in, low) in (
              own_like pair.0 pair_in own_first,
              like_from pair y y_in (subst (λ (n : ℕ). stands_before n (kind_first y) pair ≡ true) (sym first_is) (before_second (kind_first y) pair kind_below)) (listed y y_in),
            ))))
