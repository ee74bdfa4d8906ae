-- The run of a list of parts, by the runs of its two halves. For `run_of`.
use Rattle.std.proofs.Common.{◌≡◌, Bool, Option, is_some, List, ◌++◌, find, sym, ap, ◌∙◌, true, false, not}
use Rattle.std.proofs.lemmas.List.Folds.{find-append}
use Rattle.std.specs.Option.{option_map, option_or}
use Rattle.np_base.proofs.Options.{option_map-or}
use Rattle.np_tiers.specs.Prelude.{Action, IsRun, Run, first_action, first_allows}

pub run_of_halves : {S P Spot : Type 0} (has : S → Spot → Bool) (set_of : P → S) (action_of : P → Action) (parts front back : List P) (run : Run S) → front ++ back ≡ parts →
    IsRun has (λ spot. option_or (first_action set_of action_of (λ set. has set spot) front) (first_action set_of action_of (λ set. has set spot) back)) run →
    IsRun has (λ spot. first_action set_of action_of (λ set. has set spot) parts) run
run_of_halves {S} {P} {Spot} has set_of action_of parts front back run split halves =
    let first : Spot → List P → Option Action = λ spot. first_action set_of action_of (λ set. has set spot) in
    let either : (spot : Spot) → option_or (first spot front) (first spot back) ≡ first spot parts =
    λ spot. sym (ap (option_map action_of) (find-append (λ part. has (set_of part) spot) front back) ∙ option_map-or action_of (find (λ part. has (set_of part) spot) front)
    (find (λ part. has (set_of part) spot) back)) ∙ ap (first spot) split in
    record {
      allowed = λ spot. halves.allowed spot ∙ ap (λ (first : Option Action). first_allows first false) (either spot);
      denied = λ spot. halves.denied spot ∙ ap (λ (first : Option Action). not (first_allows first true)) (either spot);
      met = λ spot. halves.met spot ∙ ap (λ (first : Option Action). is_some first) (either spot);
    }
