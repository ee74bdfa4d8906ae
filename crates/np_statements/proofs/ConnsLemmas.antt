-- The set that a text writes is found among all sets. For GrammarLemmas.
use Rattle.std.proofs.Common.{◌≡◌, ℕ, zero, suc, ◌+◌, List, [], ◌∷◌, Bool, true, false, Option, Some, None, map, refl, sym, ap, subst, ◌∙◌, inl, inr, arith}
use Rattle.std.specs.List.{AllByRecursion, find, flat_map}
use Rattle.std.specs.Str.{bytes_eq}
use Rattle.std.proofs.lemmas.Bool.{cases_Bool, cond_both, true≢false}
use Rattle.std.proofs.lemmas.Option.{none-some, same_Some}
use Rattle.std.proofs.lemmas.Slice.Eq.{bytes_eq-Decides}
use Rattle.np_base.specs.Ranges.{IsAscending}
use Rattle.np_base.proofs.Ranges.{IsAscending-earlier}
use Rattle.np_statements.specs.Prelude.{Range, Sctp, Tcp, Udp, all_conns, all_runs, choices, conns_read}
use Rattle.np_base.proofs.Each.{All-weaker, All-parts, All-append}
use Rattle.np_check.proofs.SortedLemmas.{each_map}
use Rattle.np_conns.proofs.ConnLemmas.{spans_of-has_spot}
use Rattle.np_conns.proofs.OneText.{conns_text-injective}
use Rattle.np_conns.proofs.RunLemmas.{onto_runs-ascends}
use Rattle.np_conns.specs.Prelude.{AscendsInPorts, Conns, IsConns, conns_text, has_spot, onto_runs, runs, runs_from}
use Rattle.np_rules.proofs.EachItem.{All-flat}

-- ---- lists

map-each : {X Y : Type 0} (P : Y → Type 0) (f : X → Y) (xs : List X) → AllByRecursion P (map f xs) → AllByRecursion (λ x. P (f x)) xs
map-each P f [] all = tt
map-each P f (x ∷ xs) all = (all.0, map-each P f xs all.1)

each-flat : {X Y : Type 0} (P : Y → Type 0) (f : X → List Y) (xs : List X) → AllByRecursion (λ x. AllByRecursion P (f x)) xs → AllByRecursion P (flat_map f xs)
each-flat P f [] all = tt
each-flat P f (x ∷ xs) all = All-append P (f x) (flat_map f xs) all.0 (each-flat P f xs all.1)

-- what is found passes, and is as all are
found_is : {X : Type 0} (P : X → Type 0) (test : X → Bool) (xs : List X) (x : X) → AllByRecursion P xs → find test xs ≡ Some x → P x × (test x ≡ true)
found_is P test [] x all is = absurd (none-some x is)
found_is P test (first ∷ xs) x all is =
    elim (cases_Bool (test first)) [
      | inl passes ↦
          let same : first ≡ x = same_Some first x (rw passes at is) in
          (subst P same all.0, ap test (sym same) ∙ passes)
      | inr fails ↦ found_is P test xs x all.1 (rw fails at is)
    ]

-- where nothing is found, none passes
none_passes : {X : Type 0} (test : X → Bool) (xs : List X) → find test xs ≡ None → AllByRecursion (λ x. test x ≡ false) xs
none_passes test [] none = tt
none_passes test (first ∷ xs) none =
    elim (cases_Bool (test first)) [
      | inl passes ↦ absurd (none-some first (sym (rw passes at none)))
      | inr fails ↦ (fails, none_passes test xs (rw fails at none))
    ]

-- ---- choices of ports

-- what holds of all choices holds of the runs of every test
choices-each : (P : List (Range ℕ) → Type 0) (passes : ℕ → Bool) (first count : ℕ) → AllByRecursion P (choices first count) → P (runs_from passes first count)
unfolding choices runs_from
choices-each P passes first zero all = all.0
choices-each P passes first (suc count) all =
    let parts = All-parts P (choices (first + 1) count) (map (onto_runs first) (choices (first + 1) count)) all in
    cond_both (passes first) (onto_runs first (runs_from passes (first + 1) count)) (runs_from passes (first + 1) count) P
    (λ _. choices-each (λ above. P (onto_runs first above)) passes (first + 1) count (map-each P (onto_runs first) (choices (first + 1) count) parts.1))
    (λ _. choices-each P passes (first + 1) count parts.0)

-- all choices ascend
choices-ascend : (first count last : ℕ) → first + count ≡ last + 1 → AllByRecursion (IsAscending (λ p. p) first last) (choices first count)
unfolding choices
choices-ascend first zero last sum = (tt, tt)
choices-ascend first (suc count) last sum =
    let above = choices-ascend (first + 1) count last (omega arith) in
    All-append (IsAscending (λ p. p) first last) (choices (first + 1) count) (map (onto_runs first) (choices (first + 1) count))
    (All-weaker (IsAscending (λ p. p) (first + 1) last) (IsAscending (λ p. p) first last) (λ ranges. IsAscending-earlier (λ p. p) (first + 1) first last ranges (omega arith))
    (choices (first + 1) count) above)
    (each_map (IsAscending (λ p. p) first last) (onto_runs first) (choices (first + 1) count)
    (All-weaker (IsAscending (λ p. p) (first + 1) last) (λ ranges. IsAscending (λ p. p) first last (onto_runs first ranges)) (λ ranges. onto_runs-ascends first last ranges (omega arith))
    (choices (first + 1) count) above))

-- ---- all sets

all_runs-ascend : AllByRecursion AscendsInPorts all_runs
unfolding all_runs
all_runs-ascend = choices-ascend 1 65535 65535 refl

all_runs-each : (P : List (Range ℕ) → Type 0) (passes : ℕ → Bool) → AllByRecursion P all_runs → P (runs passes)
unfolding all_runs
all_runs-each P passes all = choices-each P passes 1 65535 all

-- they are sets of connections
all_conns-well : AllByRecursion IsConns all_conns
unfolding all_conns
all_conns-well =
    each-flat IsConns _ all_runs (All-weaker AscendsInPorts _ (λ tcp tcp_well.
    each-flat IsConns _ all_runs (All-weaker AscendsInPorts _ (λ udp udp_well.
    each_map IsConns _ all_runs (All-weaker AscendsInPorts _ (λ sctp sctp_well. record { tcp = tcp_well; udp = udp_well; sctp = sctp_well }) all_runs all_runs-ascend))
    all_runs all_runs-ascend)) all_runs all_runs-ascend)

-- what holds of all holds of every set
all_conns-each : (P : Conns → Type 0) (conns : Conns) → IsConns conns → AllByRecursion P all_conns → P conns
unfolding all_conns
all_conns-each P conns well all =
    let of_tcp = all_runs-each _ (λ port. has_spot conns (record { proto = Tcp; port = port })) (All-flat P _ all_runs all) in
    let of_udp = all_runs-each _ (λ port. has_spot conns (record { proto = Udp; port = port })) (All-flat P _ all_runs of_tcp) in
    let of_sctp = all_runs-each _ (λ port. has_spot conns (record { proto = Sctp; port = port })) (map-each P _ all_runs of_udp) in
    rw (spans_of-has_spot conns well Tcp, spans_of-has_spot conns well Udp, spans_of-has_spot conns well Sctp) at of_sctp

-- ---- reading

-- what is read has the text
pub conns_read-is : (text : List ℕ) (conns : Conns) → conns_read text ≡ Some conns → IsConns conns × (text ≡ conns_text (has_spot conns))
unfolding conns_read
conns_read-is text conns is =
    let found = found_is IsConns (λ one. bytes_eq text (conns_text (has_spot one))) all_conns conns all_conns-well is in
    (found.0, (bytes_eq-Decides text (conns_text (has_spot conns))).0 found.1)

is_read : (conns : Conns) → IsConns conns → conns_read (conns_text (has_spot conns)) ≡ None → ⊥
unfolding conns_read
is_read conns well none =
    let test : Conns → Bool = λ one. bytes_eq (conns_text (has_spot conns)) (conns_text (has_spot one)) in
    let fails = all_conns-each (λ one. test one ≡ false) conns well (none_passes test all_conns none) in
    true≢false (sym ((bytes_eq-Decides (conns_text (has_spot conns)) (conns_text (has_spot conns))).1 refl) ∙ fails)

-- and the text of a set is read as that set
pub conns_read-text : (conns : Conns) → IsConns conns → conns_read (conns_text (has_spot conns)) ≡ Some conns
conns_read-text conns well = of (conns_read (conns_text (has_spot conns))) refl
  where
    of : (found : Option Conns) → conns_read (conns_text (has_spot conns)) ≡ found → found ≡ Some conns
    of None is = absurd (is_read conns well is)
    of (Some other) is =
        let read = conns_read-is (conns_text (has_spot conns)) other is in
        ap Some (conns_text-injective other conns read.0 well (sym read.1))
