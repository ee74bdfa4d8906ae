-- Rules named by places: that of the policy in the estate's list, and that of the rule among its policy's rules of the
-- direction.
use Rattle.std.specs.Prelude.{◌≡◌, ℕ, zero, suc, ◌+◌, List, [], ◌∷◌, Some}
use Rattle.std.specs.List.{slice_get}
use Rattle.np_rules.specs.Types.{AdminPolicy, NetPolicy, RuleId}
use Rattle.np_rules.specs.model.Places.{PlacedAdminRule, PlacedBaseRule, PlacedNetRule}

-- the name is that of a rule of the admin policies
pub record NamesAdmin (policies : List AdminPolicy) (id : RuleId) (placed : PlacedAdminRule) : Type 0 where
  pub policy : slice_get policies id.policy ≡ Some placed.policy
  pub place : id.place ≡ placed.place

-- the name is that of a rule of the NetworkPolicies
pub record NamesNet (policies : List NetPolicy) (id : RuleId) (placed : PlacedNetRule) : Type 0 where
  pub policy : slice_get policies id.policy ≡ Some placed.policy
  pub place : id.place ≡ placed.place

-- the name is that of a rule of the baseline, whose policy has the place 0
pub record NamesBase (id : RuleId) (placed : PlacedBaseRule) : Type 0 where
  pub policy : id.policy ≡ 0
  pub place : id.place ≡ placed.place

-- the names of so many rules of one policy, from a place on
abbrev pub ids_from : ℕ → ℕ → ℕ → List RuleId
ids_from policy first zero = []
ids_from policy first (suc count) = record { policy = policy; place = first } ∷ ids_from policy (first + 1) count
