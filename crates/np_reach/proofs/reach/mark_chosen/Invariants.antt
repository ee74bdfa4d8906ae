use Rattle.std.proofs.Common.{◌≡◌, ℕ, ◌||◌, length, take}
use Rattle.std.specs.List.{list_any}
use Rattle.np_reach.proofs.reach.mark_chosen.Given as goal
use Rattle.np_reach.specs.Prelude.{has_place, speaks_at}

-- the marks of the policies so far are in the row
abbrev pub invariant-loop-far : goal.invariant-loop-far
invariant-loop-far l = record {
  length : length l.row.items ≡ length l.initial.row.items;
  marked : (place : ℕ) → has_place l.row.items place ≡ (has_place l.initial.row.items place || list_any (λ far. speaks_at far.now place) (take l.far-index l.chosen));
}
