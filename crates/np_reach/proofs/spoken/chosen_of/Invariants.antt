use Rattle.std.proofs.Common.{◌≡◌, ℕ, ◌&&◌, take}
use Rattle.std.specs.Prelude.{All}
use Rattle.std.specs.List.{list_any}
use Rattle.np_reach.proofs.spoken.chosen_of.Given as goal
use Rattle.np_reach.specs.Prelude.{AreWithin, speaks_at}
use Rattle.np_rules.specs.Prelude.{pod_end}

-- what the policies so far that select the pod speak of
abbrev pub invariant-loop-place : goal.invariant-loop-place
invariant-loop-place g l = record {
  chosen : (place : ℕ) → list_any (λ far. speaks_at far.now place) l.made.items
      ≡ list_any (λ one. g.P.Speaker.picks one.policy.now (pod_end l.near) && speaks_at one.far.items place) (take l.place l.policies);
  within : (count : ℕ) → All (λ one. AreWithin count one.far.items) l.policies → All (λ far. AreWithin count far.now) l.made.items;
}
