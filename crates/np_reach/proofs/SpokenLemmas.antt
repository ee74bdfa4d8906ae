-- Marks of pods by their places. For `SpokenSides::push_rows`, `chosen_of` and 3 more.
use Rattle.std.proofs.Common.{◌≡◌, ℕ, zero, suc, ◌+◌, ◌-◌, ◌<◌, ◌≤◌, List, [], ◌∷◌, ◌++◌, Bool, true, false, ◌&&◌, ◌||◌, map, length, replicate, get_or, slice_get, unwrap_or, Option, Some, arith, refl, sym, ap, subst, inl, inr, ◌∙◌, if◌then◌else◌}
use Rattle.std.specs.Prelude.{All}
use Rattle.std.specs.List.{list_any, range_with_len}
use Rattle.std.specs.Option.{option_map}
use Rattle.std.proofs.lemmas.Bool.{cases_lt, le-ltb, lt-ltb}
use Rattle.std.proofs.lemmas.List.{get_or-replicate, length-append, length-map}
use Rattle.std.proofs.lemmas.List.Elements.{All-push}
use Rattle.std.proofs.lemmas.List.Folds.{list_any-append}
use Rattle.std.proofs.lemmas.Option.{slice_get-map, slice_get_past, unwrap_or-slice_get}
use Rattle.std.proofs.Math.Bool.{or-false, or_assoc}
use Rattle.np_reach.specs.Prelude.{AreWithin, IsSpoken, Marks, has_place, marks_at, speaks_at}

-- ---- places of two lists, one behind the other

pub in_front : {X : Type 0} (xs ys : List X) (n : ℕ) → n < length xs → slice_get (xs ++ ys) n ≡ slice_get xs n
in_front [] ys n low = absurd (omega (arith, low))
in_front (x ∷ xs) ys zero low = refl
in_front (x ∷ xs) ys (suc n) low = in_front xs ys n (omega (arith, low))

pub in_back : {X : Type 0} (xs ys : List X) (n k : ℕ) → n ≡ length xs + k → slice_get (xs ++ ys) n ≡ slice_get ys k
in_back [] ys n k is = ap (slice_get ys) (let same : n ≡ k = omega (arith, is) in same)
in_back (x ∷ xs) ys zero k is = absurd (omega (arith, is))
in_back (x ∷ xs) ys (suc n) k is = in_back xs ys n k (omega (arith, is))

beyond : (marks : List Bool) (n : ℕ) → length marks ≤ n → has_place marks n ≡ false
beyond marks n past = ap (λ (found : Option Bool). unwrap_or found false) (slice_get_past marks n past)

-- ---- the marks of a stretch

abbrev pub from_on : ℕ → List Bool → Marks
from_on from marks = record { from = from; pods = marks }

before : (from : ℕ) (marks : List Bool) (place : ℕ) → place < from → marks_at (from_on from marks) place ≡ false
before from marks place low = ap (λ (b : Bool). if b then false else has_place marks (place - from)) (lt-ltb place from low)

behind : (from : ℕ) (marks : List Bool) (place k : ℕ) → place ≡ from + k → marks_at (from_on from marks) place ≡ has_place marks k
behind from marks place k is =
    let up : from ≤ place = omega (arith, is) in
    let same : place - from ≡ k = omega (arith, is) in
    ap (λ (b : Bool). if b then false else has_place marks (place - from)) (le-ltb place from up) ∙ ap (has_place marks) same

past_marks : (marks : Marks) (place : ℕ) → marks.from + length marks.pods ≤ place → marks_at marks place ≡ false
past_marks marks place past =
    let k = place - marks.from in
    let is : place ≡ marks.from + k = omega (arith, past) in
    let over : length marks.pods ≤ k = omega (arith, past) in
    behind marks.from marks.pods place k is ∙ beyond marks.pods k over

-- nothing is said of places behind all pods
past_all : (far : List Marks) (count place : ℕ) → AreWithin count far → count ≤ place → speaks_at far place ≡ false
past_all [] count place within past = refl
past_all (marks ∷ far) count place within past =
    ap (λ (b : Bool). b || speaks_at far place) (past_marks marks place (let over : marks.from + length marks.pods ≤ place = omega (arith, within 0 marks (omega arith), past) in over))
    ∙ past_all far count place (λ k d low. within (suc k) d (omega (arith, low))) past

within_more : (far : List Marks) (count more : ℕ) → count ≤ more → AreWithin count far → AreWithin more far
within_more [] count more up within k d low = absurd (omega (arith, low))
within_more (marks ∷ far) count more up within zero d low = omega (arith, up, within zero d low)
within_more (marks ∷ far) count more up within (suc k) d low = within_more far count more up (λ n e below. within (suc n) e (omega (arith, below))) k d (omega (arith, low))

-- ---- one stretch more

module _ {X : Type 0} (speaks : X → Bool) (front pods : List X) (far : List Marks) (is : IsSpoken speaks front far) where
  -- what is said of a pod in front
  say_front : (place : ℕ) (x : X) → slice_get (front ++ pods) place ≡ Some x → place < length front → speaks_at far place ≡ speaks x
  say_front place x at low = is.say place x (sym (in_front front pods place low) ∙ at)

  -- where they are not spoken of
  pub silent_more : ((k : ℕ) (x : X) → slice_get pods k ≡ Some x → speaks x ≡ false) → IsSpoken speaks (front ++ pods) far
  silent_more silent = record {
    within = within_more far (length front) (length (front ++ pods)) (omega (arith, length-append front pods)) is.within;
    say = λ place x at. elim (cases_lt place (length front)) [
      | inl low ↦ say_front place x at low
      | inr up ↦
          let k = place - length front in
          let place_is : place ≡ length front + k = omega (arith, up) in
          past_all far (length front) place is.within up ∙ sym (silent k x (sym (in_back front pods place k place_is) ∙ at))
    ];
  }

  -- where marks are made of them
  pub marked_more : (from : ℕ) (marks : List Bool) → from ≡ length front → marks ≡ map speaks pods → IsSpoken speaks (front ++ pods) (far ++ from_on from marks ∷ [])
  marked_more from marks from_is made = record {
    within = All-push (λ (m : Marks). m.from + length m.pods ≤ length (front ++ pods)) far (from_on from marks)
        (within_more far (length front) (length (front ++ pods)) (omega (arith, length-append front pods)) is.within)
        (let last : from + length marks ≤ length (front ++ pods) = omega (arith, length-append front pods, from_is, ap length made, length-map pods speaks) in last);
    say = λ place x at.
        list_any-append (λ m. marks_at m place) far (from_on from marks ∷ [])
        ∙ elim (cases_lt place (length front)) [
          | inl low ↦ or_none (speaks_at far place) (marks_at (from_on from marks) place) (speaks x) (say_front place x at low)
              (before from marks place (let less : place < from = omega (arith, low, from_is) in less))
          | inr up ↦
              let k = place - length front in
              let place_is : place ≡ length front + k = omega (arith, up) in
              let mark_is : place ≡ from + k = omega (arith, place_is, from_is) in
              none_or (speaks_at far place) (marks_at (from_on from marks) place) (speaks x) (past_all far (length front) place is.within up)
              (behind from marks place k mark_is ∙ ap (λ (all : List Bool). has_place all k) made ∙ mark_at pods k x (sym (in_back front pods place k place_is) ∙ at))
        ];
  }
    where
      or_none : (a b c : Bool) → a ≡ c → b ≡ false → (a || (b || false)) ≡ c
      or_none a b c is none = rw (is, none) (or-false c)

      none_or : (a b c : Bool) → a ≡ false → b ≡ c → (a || (b || false)) ≡ c
      none_or a b c none is = rw (none, is) (or-false c)

      mark_at : (xs : List X) (k : ℕ) (x : X) → slice_get xs k ≡ Some x → has_place (map speaks xs) k ≡ speaks x
      mark_at xs k x at = ap (λ (found : Option Bool). unwrap_or found false) (slice_get-map speaks xs k ∙ ap (option_map speaks) at)

-- ---- a row in which places are marked

-- a list of flags, by what is seen of its places
pub row_is : (f : ℕ → Bool) (row : List Bool) (count : ℕ) → length row ≡ count → ((place : ℕ) → place < count → has_place row place ≡ f place) → row ≡ map f (range_with_len 0 count)
row_is f row count is seen = from 0 row (λ k low. seen k (omega (arith, low, is)) ∙ ap f (let same : k ≡ 0 + k = omega arith in same)) ∙ ap (λ (n : ℕ). map f (range_with_len 0 n)) is
  where
    from : (n : ℕ) (flags : List Bool) → ((k : ℕ) → k < length flags → has_place flags k ≡ f (n + k)) → flags ≡ map f (range_with_len n (length flags))
    from n [] seen = refl
    from n (flag ∷ flags) seen =
        ap (λ (b : Bool). b ∷ flags) (seen zero (omega arith) ∙ ap f (let same : n + zero ≡ n = omega arith in same))
        ∙ ap (λ (rest : List Bool). f n ∷ rest) (from (n + 1) flags (λ k low. seen (suc k) (omega (arith, low)) ∙ ap f (let same : n + suc k ≡ n + 1 + k = omega arith in same)))

-- what is marked in a row that was filled, by the ones and then by the others
pub twice_marked : (filled first second : List Bool) (start : Bool) (count place : ℕ) (by_net by_admin : Bool) → filled ≡ replicate count start → place < count →
    has_place first place ≡ (has_place filled place || by_net) → has_place second place ≡ (has_place first place || by_admin) → has_place second place ≡ (start || (by_net || by_admin))
twice_marked filled first second start count place by_net by_admin is low one other =
    other ∙ ap (λ (b : Bool). b || by_admin) (one ∙ ap (λ (b : Bool). b || by_net)
    (ap (λ (all : List Bool). has_place all place) is ∙ unwrap_or-slice_get (replicate count start) place false ∙ get_or-replicate count place start false low))
    ∙ or_assoc start by_net by_admin

-- where it is picked, what it speaks of stands last
pub last_chosen : {C : Type 0} (says : C → Bool) (chosen new : List C) (far : C) (picked : Bool) → new ≡ chosen ++ far ∷ [] → picked ≡ true →
    list_any says new ≡ (list_any says chosen || (picked && says far))
last_chosen says chosen new far picked pushed is =
    ap (list_any says) pushed ∙ list_any-append says chosen (far ∷ []) ∙ ap (λ (b : Bool). list_any says chosen || b) (or-false (says far) ∙ ap (λ (b : Bool). b && says far) (sym is))

pub none_chosen : (so_far picked speaks : Bool) → picked ≡ false → so_far ≡ (so_far || (picked && speaks))
none_chosen so_far picked speaks is = rw is (sym (or-false so_far))

-- what policies speak of is of so many pods
pub all_within : {X O : Type 0} (far_of : O → List Marks) (speaks : O → X → Bool) (xs ys : List X) (made : List O) → xs ≡ ys → All (λ one. IsSpoken (speaks one) xs (far_of one)) made →
    All (λ one. AreWithin (length ys) (far_of one)) made
all_within far_of speaks xs ys made same all k d low = subst (λ (n : ℕ). AreWithin n (far_of (get_or made k d))) (ap length same) ((all k d low).within)
