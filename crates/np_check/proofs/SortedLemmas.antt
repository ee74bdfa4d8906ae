-- The orders of ends, families and protocols, and lists that stand in one. For LeastLemmas, MergeLemmas and 2 more.
use Rattle.std.proofs.Common.{◌≡◌, ℕ, ◌+◌, ◌<◌, nat_le, nat_lt, List, [], ◌∷◌, ◌++◌, Bool, true, false, map, refl, sym, arith}
use Rattle.std.specs.List.{AllByRecursion}
use Rattle.std.proofs.lemmas.Bool.{and_parts, le-ltb, leb-true, lt-ltb, ltb-true, true≢false}
use Rattle.np_check.specs.Prelude.{Address, At, Family, Four, PlaceEnd, Proto, Sctp, Six, Tcp, Udp, Work, address_before, ascends_from, comes_before, family_before, proto_before}
use Rattle.np_addr.specs.declared.address.Family.TheVariants as family
use Rattle.np_base.proofs.Each.{All-append, All-weaker}

-- ---- lists

-- each item comes before those behind it
abbrev pub SortedBy : {X : Type 0} → (X → X → Bool) → List X → Type 0
SortedBy before [] = Unit {0}
SortedBy before (x ∷ xs) = AllByRecursion (λ y. before x y ≡ true) xs × SortedBy before xs

pub sorted_append : {X : Type 0} (before : X → X → Bool) (xs ys : List X) → SortedBy before xs → SortedBy before ys → AllByRecursion (λ x. AllByRecursion (λ y. before x y ≡ true) ys) xs →
    SortedBy before (xs ++ ys)
sorted_append before [] ys in_xs in_ys across = in_ys
sorted_append before (x ∷ xs) ys in_xs in_ys across =
    (All-append (λ y. before x y ≡ true) xs ys in_xs.0 across.0, sorted_append before xs ys in_xs.1 in_ys across.1)

pub each_map : {X Y : Type 0} (P : Y → Type 0) (to : X → Y) (xs : List X) → AllByRecursion (λ x. P (to x)) xs → AllByRecursion P (map to xs)
each_map P to [] all = tt
each_map P to (x ∷ xs) all = (all.0, each_map P to xs all.1)

pub sorted_map : {X Y : Type 0} (before : X → X → Bool) (before' : Y → Y → Bool) (to : X → Y) (xs : List X) → ((x y : X) → before x y ≡ true → before' (to x) (to y) ≡ true) → SortedBy before xs →
    SortedBy before' (map to xs)
sorted_map before before' to [] keeps sorted = tt
sorted_map before before' to (x ∷ xs) keeps sorted = (
  each_map (λ y. before' (to x) y ≡ true) to xs (All-weaker (λ y. before x y ≡ true) (λ y. before' (to x) (to y) ≡ true) (keeps x) xs sorted.0),
  sorted_map before before' to xs keeps sorted.1,
)

all_above : (numbers : List ℕ) (low n : ℕ) → n < low → ascends_from low numbers ≡ true → AllByRecursion (λ m. nat_lt n m ≡ true) numbers
all_above [] low n below ascends = tt
all_above (m ∷ numbers) low n below ascends =
    let parts = and_parts (nat_le low m) (ascends_from (m + 1) numbers) ascends in
    let above = leb-true low m parts.0 in
    (lt-ltb n m (omega arith), all_above numbers (m + 1) n (omega arith) parts.1)

pub works_sorted : (numbers : List ℕ) (low : ℕ) → ascends_from low numbers ≡ true → SortedBy nat_lt numbers
works_sorted [] low ascends = tt
works_sorted (n ∷ numbers) low ascends =
    let rest = (and_parts (nat_le low n) (ascends_from (n + 1) numbers) ascends).1 in
    (all_above numbers (n + 1) n (omega arith) rest, works_sorted numbers (n + 1) rest)

-- ---- orders

-- of two items not each comes before the other, and none before itself
pub record IsStrict {X : Type 0} (before : X → X → Bool) : Type 0 where
  pub itself : (x : X) → before x x ≡ false
  pub back : (x y : X) → before x y ≡ true → before y x ≡ false

pub address_itself : (a : Address) → address_before a a ≡ false
address_itself (Four n) = le-ltb n n (omega arith)
address_itself (Six n) = le-ltb n n (omega arith)

pub address_back : (a b : Address) → address_before a b ≡ true → address_before b a ≡ false
address_back (Four m) (Four n) before = le-ltb n m (omega (arith, ltb-true m n before))
address_back (Four m) (Six n) before = refl
address_back (Six m) (Four n) before = absurd (true≢false (sym before))
address_back (Six m) (Six n) before = le-ltb n m (omega (arith, ltb-true m n before))

ends_itself : (end : PlaceEnd) → comes_before end end ≡ false
ends_itself (Work n) = le-ltb n n (omega arith)
ends_itself (At a) = address_itself a

ends_back : (one other : PlaceEnd) → comes_before one other ≡ true → comes_before other one ≡ false
ends_back (Work m) (Work n) before = le-ltb n m (omega (arith, ltb-true m n before))
ends_back (Work m) (At b) before = refl
ends_back (At a) (Work n) before = absurd (true≢false (sym before))
ends_back (At a) (At b) before = address_back a b before

families_back : (one other : Family) → family_before one other ≡ true → family_before other one ≡ false
families_back family.Four family.Four before = refl
families_back family.Four family.Six before = refl
families_back family.Six family.Four before = absurd (true≢false (sym before))
families_back family.Six family.Six before = refl

protos_back : (one other : Proto) → proto_before one other ≡ true → proto_before other one ≡ false
protos_back Tcp Tcp before = refl
protos_back Tcp Udp before = refl
protos_back Tcp Sctp before = refl
protos_back Udp Tcp before = absurd (true≢false (sym before))
protos_back Udp Udp before = refl
protos_back Udp Sctp before = refl
protos_back Sctp Tcp before = absurd (true≢false (sym before))
protos_back Sctp Udp before = absurd (true≢false (sym before))
protos_back Sctp Sctp before = refl

pub strict_ends : IsStrict comes_before
strict_ends = record { itself = ends_itself; back = ends_back }

pub strict_families : IsStrict family_before
strict_families = record { itself = elim [ family.Four ↦ refl | family.Six ↦ refl ]; back = families_back }

pub strict_protos : IsStrict proto_before
strict_protos = record { itself = elim [ Tcp ↦ refl | Udp ↦ refl | Sctp ↦ refl ]; back = protos_back }
