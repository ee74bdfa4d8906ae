-- The runs of a test: the one ascending list of ranges of the ports that pass. For `runs_are_the_ports_that_pass` and crates above.
use Rattle.std.proofs.Common.{◌≡◌, ℕ, zero, suc, ◌+◌, ◌<◌, ◌≤◌, List, [], ◌∷◌, Bool, true, false, ◌&&◌, ◌||◌, eqb, leb, refl, sym, ◌∙◌, ap, arith, inl, inr}
use Rattle.std.proofs.lemmas.Bool.{and_from, or_left, le-leb, eqb-true, eqb-false, cond_both, cases_lt}
use Rattle.np_conns.specs.Prelude.{AscendsInPorts, IsRun, Range, onto_runs, runs, runs_from}
use Rattle.np_base.specs.Ranges.{holds, IsAscending}
use Rattle.np_base.proofs.Ranges.{is_within-past, holds-before, IsAscending-earlier, same_members_same_ranges}
use Rattle.std.specs.List.{AllByRecursion}

-- a port put before the runs above it keeps them ascending
pub onto_runs-ascends : (port last : ℕ) (above : List (Range ℕ)) → port ≤ last → IsAscending (λ p. p) (port + 1) last above → IsAscending (λ p. p) port last (onto_runs port above)
onto_runs-ascends port last [] within ascends = (omega arith, omega arith, within, tt)
onto_runs-ascends port last (run ∷ above) within ascends =
    cond_both (eqb run.lo (port + 1)) _ _ (λ ranges. IsAscending (λ p. p) port last ranges)
    (λ touches. (omega arith, omega arith, ascends.2, ascends.3))
    (λ apart. let gap : run.lo ≡ port + 1 → ⊥ = eqb-false run.lo (port + 1) apart in (omega arith, omega arith, within, (omega arith, ascends.1, ascends.2, ascends.3)))

-- it is in one of the runs then
onto_runs-has_port : (port last : ℕ) (above : List (Range ℕ)) → IsAscending (λ p. p) (port + 1) last above → holds (λ p. p) (onto_runs port above) port ≡ true
onto_runs-has_port port last [] ascends = or_left _ _ (and_from _ _ (le-leb port port (omega arith)) (le-leb port port (omega arith)))
onto_runs-has_port port last (run ∷ above) ascends =
    cond_both (eqb run.lo (port + 1)) _ _ (λ ranges. holds (λ p. p) ranges port ≡ true)
    (λ touches. or_left _ _ (and_from _ _ (le-leb port port (omega arith)) (le-leb port run.hi (omega arith))))
    (λ apart. or_left _ _ (and_from _ _ (le-leb port port (omega arith)) (le-leb port port (omega arith))))

-- and no port above it comes or goes
onto_runs-keeps : (port last n : ℕ) (above : List (Range ℕ)) → IsAscending (λ p. p) (port + 1) last above → port < n → holds (λ p. p) (onto_runs port above) n ≡ holds (λ p. p) above n
onto_runs-keeps port last n [] ascends later = ap (λ t. t || false) (is_within-past (λ p. p) (record { lo = port; hi = port }) n later)
onto_runs-keeps port last n (run ∷ above) ascends later =
    cond_both (eqb run.lo (port + 1)) _ _ (λ ranges. holds (λ p. p) ranges n ≡ holds (λ p. p) (run ∷ above) n)
    (λ touches. ap (λ t. (t && leb n run.hi) || holds (λ p. p) above n) (le-leb port n (omega arith) ∙ sym (le-leb run.lo n (omega (arith, eqb-true run.lo (port + 1) touches)))))
    (λ apart. ap (λ t. t || holds (λ p. p) (run ∷ above) n) (is_within-past (λ p. p) (record { lo = port; hi = port }) n later))

-- the runs ascend
runs_from-ascends : (passes : ℕ → Bool) (first count last : ℕ) → first + count ≡ last + 1 → IsAscending (λ p. p) first last (runs_from passes first count)
unfolding runs_from
runs_from-ascends passes first zero last sum = tt
runs_from-ascends passes first (suc count) last sum =
    let above : IsAscending (λ p. p) (first + 1) last (runs_from passes (first + 1) count) = runs_from-ascends passes (first + 1) count last (omega arith) in
    cond_both (passes first) _ _ (λ ranges. IsAscending (λ p. p) first last ranges)
    (λ _. onto_runs-ascends first last (runs_from passes (first + 1) count) (omega arith) above)
    (λ _. IsAscending-earlier (λ p. p) (first + 1) first last (runs_from passes (first + 1) count) (omega arith) above)

-- and have exactly the ports that pass
runs_from-holds : (passes : ℕ → Bool) (first count last n : ℕ) → first + count ≡ last + 1 → first ≤ n → n ≤ last → holds (λ p. p) (runs_from passes first count) n ≡ passes n
unfolding runs_from
runs_from-holds passes first zero last n sum low high = absurd (omega arith)
runs_from-holds passes first (suc count) last n sum low high =
    let above : IsAscending (λ p. p) (first + 1) last (runs_from passes (first + 1) count) = runs_from-ascends passes (first + 1) count last (omega arith) in
    cond_both (passes first) _ _ (λ ranges. holds (λ p. p) ranges n ≡ passes n)
    (λ taken. elim (cases_lt first n) [
      | inl later ↦ onto_runs-keeps first last n (runs_from passes (first + 1) count) above later ∙ runs_from-holds passes (first + 1) count last n (omega arith) (omega arith) high
      | inr not_later ↦ let here : first ≡ n = omega arith in ap (holds (λ p. p) (onto_runs first (runs_from passes (first + 1) count))) (sym here) ∙ onto_runs-has_port first last
          (runs_from passes (first + 1) count) above ∙ sym taken ∙ ap passes here
    ])
    (λ left_out. elim (cases_lt first n) [
      | inl later ↦ runs_from-holds passes (first + 1) count last n (omega arith) (omega arith) high
      | inr not_later ↦ let here : first ≡ n = omega arith in holds-before (λ p. p) (first + 1) last (runs_from passes (first + 1) count) n above (omega arith) ∙ sym left_out ∙ ap passes here
    ])

-- over all ports
pub runs-ascend : (passes : ℕ → Bool) → AscendsInPorts (runs passes)
runs-ascend passes = runs_from-ascends passes 1 65535 65535 refl

pub runs-hold : (passes : ℕ → Bool) (port : ℕ) → 1 ≤ port → port ≤ 65535 → holds (λ p. p) (runs passes) port ≡ passes port
runs-hold passes port low high = runs_from-holds passes 1 65535 65535 port refl low high

-- Every ascending list of ranges of the ports that pass is the list of the runs.
pub runs-by_members : (passes : ℕ → Bool) (ranges : List (Range ℕ)) → AscendsInPorts ranges → ((port : ℕ) → 1 ≤ port → port ≤ 65535 → holds (λ p. p) ranges port ≡ passes port) → ranges ≡ runs passes
runs-by_members passes ranges ascends alike =
    same_members_same_ranges (λ p. p) 1 65535 (λ p q low high equal. equal) 1 ranges (runs passes) (omega arith) ascends (runs-ascend passes)
    (λ port low high. alike port low high ∙ sym (runs-hold passes port low high))

-- an ascending list is the runs of its own ports
pub runs-holds : (ranges : List (Range ℕ)) → AscendsInPorts ranges → runs (holds (λ p. p) ranges) ≡ ranges
runs-holds ranges ascends = sym (runs-by_members (holds (λ p. p) ranges) ranges ascends (λ port low high. refl))

-- tests that agree on all ports have equal runs
pub runs-agree : (f g : ℕ → Bool) → ((port : ℕ) → 1 ≤ port → port ≤ 65535 → f port ≡ g port) → runs f ≡ runs g
runs-agree f g alike = runs-by_members g (runs f) (runs-ascend f) (λ port low high. runs-hold f port low high ∙ alike port low high)

-- each range of an ascending list is one of ports, and not empty
pub IsRun-from_ascending : (from : ℕ) (ranges : List (Range ℕ)) → 1 ≤ from → IsAscending (λ p. p) from 65535 ranges → AllByRecursion IsRun ranges
IsRun-from_ascending from [] low ascends = tt
IsRun-from_ascending from (run ∷ above) low ascends =
    (record { low = omega arith; ordered = ascends.1; high = ascends.2 }, IsRun-from_ascending (run.hi + 2) above (omega arith) ascends.3)
