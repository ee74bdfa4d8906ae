-- Two workloads do not differ exactly where they agree. For `are_same` and `differ_at_some`.
use Rattle.std.proofs.Common.{◌≡◌, ◌≢◌, ℕ, ◌+◌, ◌<◌, List, [], ◌∷◌, Bool, true, false, not, ◌&&◌, ◌||◌, ◌==◌, if◌then◌else◌, map, eq-eqb, refl, sym, ap, ◌∙◌, inl, inr}
use Rattle.std.specs.Prelude.{filter}
use Rattle.std.specs.Bool.{Decides, MatchBool}
use Rattle.std.specs.Cmp.Lexicographic.{pointwise}
use Rattle.std.specs.List.{list_any}
use Rattle.std.proofs.lemmas.Bool.{and_parts, false_from_ne_true, ne_eqb, not-false, or_parts, true≢false}
use Rattle.std.proofs.lemmas.Bool.Decides.{Decides-and}
use Rattle.std.proofs.lemmas.List.Folds.{list_any-append}
use Rattle.std.proofs.lemmas.Slice.Eq.{slice_eq-Decides}
use Rattle.np_flatten.specs.Prelude.{AddressRow, AddressSpan, Agree, Egress, EstateLists, Ingress, PortSpot, Range, are_same_address_row, are_same_span, differ, differ_at, differ_towards, is_defined, own_sets, set_of, two_differ}
use Rattle.np_classes.proofs.Lists.{any_place, place_that_passes, places_more}
use Rattle.np_classes.specs.Classes.{places}
use Rattle.np_conns.specs.Prelude.{Conns, are_same_conns, has_spot}
use Rattle.np_rules.specs.Prelude.{IsAmong}
use Rattle.np_conns.proofs.ConnLemmas.{are_same_conns-Decides, are_same_range-Decides}
use Rattle.np_table.specs.Prelude.{address_rows, estate_table}
use Rattle.np_kinds.specs.Prelude.{number_of_workloads}
use Rattle.np_table.specs.declared.rows.AddressSpan.TheVariants as span
use Rattle.np_base.proofs.Bools.{not_itself}

-- ---- what agrees

-- what passes between a workload and all addresses, to it and from it
abbrev pub own_rows : EstateLists → ℕ → List AddressRow × List AddressRow
own_rows lists workload = (address_rows (estate_table lists) workload Ingress, address_rows (estate_table lists) workload Egress)

-- two workloads agree
abbrev pub Agrees : EstateLists → ℕ → ℕ → Type 0
Agrees lists = Agree (number_of_workloads lists) (is_defined lists) (set_of lists) (own_rows lists)

-- what passes between two workloads is defined
pub apart-defined : (lists : EstateLists) (x y : ℕ) → x ≢ y → is_defined lists x y ≡ true
apart-defined lists x y apart = rw (ne_eqb x y apart) refl

-- ---- lists of which something is so of each item

any-none : {X : Type 0} (p : X → Bool) (xs : List X) (x : X) → list_any p xs ≡ false → IsAmong x xs → p x ≡ false
any-none p [] x none among = absurd among
any-none p (first ∷ xs) x none (inl here) = ap p here ∙ (or_parts (p first) (list_any p xs) none).0
any-none p (first ∷ xs) x none (inr there) = any-none p xs x (or_parts (p first) (list_any p xs) none).1 there

none-any : {X : Type 0} (p : X → Bool) (xs : List X) → ((x : X) → IsAmong x xs → p x ≡ false) → list_any p xs ≡ false
none-any p [] none = refl
none-any p (first ∷ xs) none = rw (none first (inl refl)) (none-any p xs (λ x there. none x (inr there)))

among-map : {X Y : Type 0} (f : X → Y) (p : X → Bool) (xs : List X) (x : X) → IsAmong x xs → p x ≡ true → IsAmong (f x) (map f (filter p xs))
among-map f p [] x among is = absurd among
among-map {X} {Y} f p (first ∷ xs) x (inl here) is = by (p first) (ap p (sym here) ∙ is)
  where
    by : (b : Bool) → b ≡ true → IsAmong (f x) (map f (if b then first ∷ filter p xs else filter p xs))
    by true _ = inl (ap f here)
    by false fails = let never : false ≡ true = fails in absurd (cc)
among-map {X} {Y} f p (first ∷ xs) x (inr there) is = by (p first) (among-map f p xs x there is)
  where
    by : (b : Bool) → IsAmong (f x) (map f (filter p xs)) → IsAmong (f x) (map f (if b then first ∷ filter p xs else filter p xs))
    by true among = inr among
    by false among = among

from_among : {X Y : Type 0} (f : X → Y) (p : X → Bool) (xs : List X) (y : Y) → IsAmong y (map f (filter p xs)) → (x : X) × IsAmong x xs × (p x ≡ true) × (y ≡ f x)
from_among f p [] y among = absurd among
from_among {X} {Y} f p (first ∷ xs) y among = by (p first) refl among (from_among f p xs y)
  where
    more : ((x : X) × IsAmong x xs × (p x ≡ true) × (y ≡ f x)) → (x : X) × IsAmong x (first ∷ xs) × (p x ≡ true) × (y ≡ f x)
    more found = (found.0, inr found.1, found.2, found.3)

    by : (b : Bool) → p first ≡ b → IsAmong y (map f (if b then first ∷ filter p xs else filter p xs)) → (IsAmong y (map f (filter p xs)) → (x : X) × IsAmong x xs × (p x ≡ true) × (y ≡ f x)) →
        (x : X) × IsAmong x (first ∷ xs) × (p x ≡ true) × (y ≡ f x)
    by true is (inl here) rest = (first, inl refl, is, here)
    by true is (inr there) rest = more (rest there)
    by false is there rest = more (rest there)

-- ---- sets

same-from : (one other : Conns) → not (are_same_conns one other) ≡ false → one ≡ other
same-from one other is = (are_same_conns-Decides one other).0 (not-false _ is)

same-not : (one other : Conns) → one ≡ other → not (are_same_conns one other) ≡ false
same-not one other is = ap not ((are_same_conns-Decides one other).1 is)

-- where no two differ all are one
one_set : (sets : List Conns) (x y : Conns) → two_differ sets ≡ false → IsAmong x sets → IsAmong y sets → x ≡ y
one_set sets x y none in_x in_y =
    same-from x y (any-none (λ (other : Conns). not (are_same_conns x other)) sets y (any-none (λ (one : Conns). list_any (λ other. not (are_same_conns one other)) sets) sets x none in_x) in_y)

all_one : (sets : List Conns) (v : Conns) → ((x : Conns) → IsAmong x sets → x ≡ v) → two_differ sets ≡ false
all_one sets v each =
    none-any (λ (one : Conns). list_any (λ other. not (are_same_conns one other)) sets) sets (λ x in_x.
    none-any (λ (other : Conns). not (are_same_conns x other)) sets (λ y in_y. same-not x y (each x in_x ∙ sym (each y in_y))))

-- ---- rows

span_decides : (a b : AddressSpan) → Decides (are_same_span a b) (a ≡ b)
span_decides (span.Four a) (span.Four b) = (λ is. ap (λ (r : Range ℕ). span.Four r) ((are_same_range-Decides a b).0 is), λ same. (are_same_range-Decides a b).1 (cc))
span_decides (span.Six a) (span.Six b) = (λ is. ap (λ (r : Range ℕ). span.Six r) ((are_same_range-Decides a b).0 is), λ same. (are_same_range-Decides a b).1 (cc))
span_decides (span.Four a) (span.Six b) = (λ is. let never : false ≡ true = is in absurd (cc), λ same. absurd (cc))
span_decides (span.Six a) (span.Four b) = (λ is. let never : false ≡ true = is in absurd (cc), λ same. absurd (cc))

row_decides : (a b : AddressRow) → Decides (are_same_address_row a b) (a ≡ b)
row_decides a b =
    let parts = Decides-and (are_same_span a.span b.span) (are_same_conns a.conns b.conns) (span_decides a.span b.span) (are_same_conns-Decides a.conns b.conns) in (
      λ is. let both = parts.0 is in ap (λ (s : AddressSpan). record { span = s; conns = a.conns }) both.0 ∙ ap (λ (c : Conns). record { span = b.span; conns = c }) both.1,
      λ same. parts.1 (ap (λ (row : AddressRow). row.span) same, ap (λ (row : AddressRow). row.conns) same),
    )

rows_decide : (a b : List AddressRow) → Decides (pointwise are_same_address_row a b) (a ≡ b)
rows_decide a b = slice_eq-Decides row_decides a b (pointwise are_same_address_row a b) refl

-- ---- all of it

abbrev differ_at_some : EstateLists → ℕ → ℕ → Bool
differ_at_some lists a b = list_any (differ_at lists a b) (places (number_of_workloads lists))

abbrev differ_at_addresses : EstateLists → ℕ → ℕ → Bool
differ_at_addresses lists a b = list_any (differ_towards lists a b) (Ingress ∷ Egress ∷ [])

-- what passes with a third workload
at_third : (lists : EstateLists) (a b c : ℕ) → c ≢ a → c ≢ b → differ_at lists a b c ≡ false → (set_of lists a c ≡ set_of lists b c) × (set_of lists c a ≡ set_of lists c b)
at_third lists a b c ca cb is =
    let plain : (not (are_same_conns (set_of lists a c) (set_of lists b c)) || not (are_same_conns (set_of lists c a) (set_of lists c b))) ≡ false = rw (ne_eqb c a ca, ne_eqb c b cb) at is in
    let both = or_parts _ _ plain in
    (same-from _ _ both.0, same-from _ _ both.1)

no_third : (lists : EstateLists) (a b : ℕ) → differ_at_some lists a b ≡ false → (c : ℕ) → c < number_of_workloads lists → differ_at lists a b c ≡ false
no_third lists a b none c within = false_from_ne_true (differ_at lists a b c) (λ yes. true≢false (sym (any_place (differ_at lists a b) (number_of_workloads lists) c within yes) ∙ none))

abbrev pairs_of : ℕ → ℕ → List (ℕ × ℕ)
pairs_of a b = (a, a) ∷ (a, b) ∷ (b, a) ∷ (b, b) ∷ []

own-among : (lists : EstateLists) (a b : ℕ) (pair : ℕ × ℕ) → IsAmong pair (pairs_of a b) → is_defined lists pair.0 pair.1 ≡ true → IsAmong (set_of lists pair.0 pair.1) (own_sets lists a b)
own-among lists a b pair among is = among-map (λ (p : ℕ × ℕ). set_of lists p.0 p.1) (λ (p : ℕ × ℕ). is_defined lists p.0 p.1) (pairs_of a b) pair among is

-- two workloads that do not differ agree
pub to_agree : (lists : EstateLists) (a b : ℕ) → a < number_of_workloads lists → b < number_of_workloads lists → a ≢ b → differ lists a b ≡ false → Agrees lists a b
unfolding differ
to_agree lists a b a_in b_in apart is =
    let outer = or_parts (differ_at_some lists a b || two_differ (own_sets lists a b)) (differ_at_addresses lists a b) is in
    let inner = or_parts (differ_at_some lists a b) (two_differ (own_sets lists a b)) outer.0 in
    let towards = or_parts (differ_towards lists a b Ingress) (differ_towards lists a b Egress || false) outer.1 in
    let ingress = (rows_decide (address_rows (estate_table lists) a Ingress) (address_rows (estate_table lists) b Ingress)).0 (not-false _ towards.0) in
    let egress = (rows_decide (address_rows (estate_table lists) a Egress) (address_rows (estate_table lists) b Egress)).0
    (not-false _ (or_parts (differ_towards lists a b Egress) false towards.1).0) in
    let ab = own-among lists a b (a, b) (inr (inl refl)) (apart-defined lists a b apart) in
    let ba = own-among lists a b (b, a) (inr (inr (inl refl))) (apart-defined lists b a (λ same. apart (sym same))) in
    record {
      sends = λ c within ca cb. (at_third lists a b c ca cb (no_third lists a b inner.0 c within)).0;
      receives = λ c within ca cb. (at_third lists a b c ca cb (no_third lists a b inner.0 c within)).1;
      both_ways = one_set (own_sets lists a b) (set_of lists a b) (set_of lists b a) inner.1 ab ba;
      first = λ own. one_set (own_sets lists a b) (set_of lists a a) (set_of lists a b) inner.1 (own-among lists a b (a, a) (inl refl) own) ab;
      second = λ own. one_set (own_sets lists a b) (set_of lists b b) (set_of lists a b) inner.1 (own-among lists a b (b, b) (inr (inr (inr (inl refl)))) own) ab;
      alone = ap (λ (rows : List AddressRow). (rows, address_rows (estate_table lists) a Egress)) ingress ∙ ap (λ (rows : List AddressRow). (address_rows (estate_table lists) b Ingress, rows)) egress;
    }

not_equal : (x y : ℕ) → not (x == y) ≡ true → x ≢ y
not_equal x y is same = true≢false (sym is ∙ ap not (eq-eqb x y same))

-- and two that agree do not differ
pub from_agree : (lists : EstateLists) (a b : ℕ) → a < number_of_workloads lists → b < number_of_workloads lists → a ≢ b → Agrees lists a b → differ lists a b ≡ false
unfolding differ
from_agree lists a b a_in b_in apart agree =
    rw (third, own, addresses) refl
  where
    third : differ_at_some lists a b ≡ false
    third = false_from_ne_true (differ_at_some lists a b) (λ yes. not_so (place_that_passes (differ_at lists a b) (number_of_workloads lists) yes))
      where
        not_so : ((c : ℕ) × (c < number_of_workloads lists) × (differ_at lists a b c ≡ true)) → ⊥
        not_so found =
            let outer = and_parts (not (found.0 == a) && not (found.0 == b))
            (not (are_same_conns (set_of lists a found.0) (set_of lists b found.0)) || not (are_same_conns (set_of lists found.0 a) (set_of lists found.0 b))) found.2 in
            let inner = and_parts (not (found.0 == a)) (not (found.0 == b)) outer.0 in
            let ca = not_equal found.0 a inner.0 in
            let cb = not_equal found.0 b inner.1 in
            let sends = same-not _ _ (agree.sends found.0 found.1 ca cb) in
            let receives = same-not _ _ (agree.receives found.0 found.1 ca cb) in
            true≢false (sym outer.1 ∙ rw (sends, receives) refl)

    each : (x : Conns) → ((pair : ℕ × ℕ) × IsAmong pair (pairs_of a b) × (is_defined lists pair.0 pair.1 ≡ true) × (x ≡ set_of lists pair.0 pair.1)) → x ≡ set_of lists a b
    each x found = found.3 ∙ by found.0 found.1 found.2
      where
        by : (pair : ℕ × ℕ) → IsAmong pair (pairs_of a b) → is_defined lists pair.0 pair.1 ≡ true → set_of lists pair.0 pair.1 ≡ set_of lists a b
        by pair (inl same) is = ap (λ (p : ℕ × ℕ). set_of lists p.0 p.1) same ∙ agree.first (ap (λ (p : ℕ × ℕ). is_defined lists p.0 p.1) (sym same) ∙ is)
        by pair (inr (inl same)) is = ap (λ (p : ℕ × ℕ). set_of lists p.0 p.1) same
        by pair (inr (inr (inl same))) is = ap (λ (p : ℕ × ℕ). set_of lists p.0 p.1) same ∙ sym agree.both_ways
        by pair (inr (inr (inr (inl same)))) is = ap (λ (p : ℕ × ℕ). set_of lists p.0 p.1) same ∙ agree.second (ap (λ (p : ℕ × ℕ). is_defined lists p.0 p.1) (sym same) ∙ is)
        by pair (inr (inr (inr (inr never)))) is = absurd never

    own : two_differ (own_sets lists a b) ≡ false
    own = all_one (own_sets lists a b) (set_of lists a b) (λ x among. each x (from_among (λ (p : ℕ × ℕ). set_of lists p.0 p.1) (λ (p : ℕ × ℕ). is_defined lists p.0 p.1) (pairs_of a b) x among))

    ingress : differ_towards lists a b Ingress ≡ false
    ingress = ap not ((rows_decide (address_rows (estate_table lists) a Ingress) (address_rows (estate_table lists) b Ingress)).1
        (ap (λ (rows : List AddressRow × List AddressRow). rows.0) agree.alone))

    egress : differ_towards lists a b Egress ≡ false
    egress = ap not ((rows_decide (address_rows (estate_table lists) a Egress) (address_rows (estate_table lists) b Egress)).1 (ap (λ (rows : List AddressRow × List AddressRow). rows.1) agree.alone))

    addresses : differ_at_addresses lists a b ≡ false
    addresses = rw (ingress, egress) refl

-- ---- steps of the code

-- at one more place none differs
pub none_more : (p : ℕ → Bool) (n : ℕ) → list_any p (places n) ≡ false → p n ≡ false → list_any p (places (n + 1)) ≡ false
none_more p n none here = ap (list_any p) (places_more n) ∙ list_any-append p (places n) (n ∷ []) ∙ rw (none, here) refl

-- what tells whether sets have the same members is the test
pub same-told : (one other : Conns) (answer : Bool) → MatchBool answer (one ≡ other) ((spot : PortSpot) × (has_spot one spot ≡ not (has_spot other spot))) → answer ≡ are_same_conns one other
same-told one other true same = sym ((are_same_conns-Decides one other).1 same)
same-told one other false apart =
    sym (false_from_ne_true (are_same_conns one other) (λ yes.
    not_itself (has_spot other apart.0) (ap (λ (conns : Conns). has_spot conns apart.0) (sym ((are_same_conns-Decides one other).0 yes)) ∙ apart.1)))
