-- The counts of a source in memory, before and after a fault. For `MemInputsInputs::begin` and `MemInputsInputs::read`.
use Rattle.std.proofs.Common.{◌≡◌, ◌≢◌, ℕ, ◌<◌, ◌⊎◌, inl, inr, List, Option, Some, None, length, get_or, set, ◌∙◌, arith, get_or-set_same, get_or-set_other}
use Rattle.std.specs.List.{slice_index}
use Rattle.std.specs.Option.{option_map_or}
use Rattle.std.proofs.lemmas.Bool.{cases_eq}
use Rattle.std.proofs.lemmas.List.{get_or_default}
use Rattle.np_io.specs.Prelude.{NeverFalls}

-- no count falls where the one at a place is raised
pub never_falls : (faults : List ℕ) (shared place before after : ℕ) (other : Option ℕ) → place < length faults → before ≡ get_or faults place before → NeverFalls before after →
    NeverFalls (option_map_or (slice_index faults) other shared) (option_map_or (slice_index (set faults place after)) other shared)
never_falls faults shared place before after None within at_place never = (omega arith, omega arith)
never_falls faults shared place before after (Some q) within at_place never = at_or_not (cases_eq q place)
  where
    at_or_not : (q ≡ place) ⊎ (q ≢ place) → NeverFalls (slice_index faults q) (slice_index (set faults place after) q)
    at_or_not (inl here) =
        let same : before ≡ get_or faults place 0 = at_place ∙ get_or_default faults place before 0 within in
        let now : get_or (set faults place after) q 0 ≡ after = rw here (get_or-set_same faults place after 0 within) in
        rw (now, here, ← same) never
    at_or_not (inr elsewhere) = rw (get_or-set_other faults place q after 0 elsewhere) (omega arith, omega arith)
