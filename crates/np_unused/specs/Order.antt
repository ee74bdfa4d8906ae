-- The order of rules.
use Rattle.std.specs.Prelude.{ℕ, ◌≡◌, ◌⊎◌, ◌<◌}
use Rattle.np_unused.specs.Types.{Admin, Base, Direction, Egress, Ingress, Net, RuleRef, Tier}

abbrev pub tier_number : Tier → ℕ
tier_number Admin = 0
tier_number Net = 1
tier_number Base = 2

abbrev pub direction_number : Direction → ℕ
direction_number Ingress = 0
direction_number Egress = 1

-- One rule stands before another: by the tier, then by the place of its policy, then ingress before egress, and then by its place.
abbrev pub StandsBefore : RuleRef → RuleRef → Type 0
StandsBefore one other =
    (tier_number one.tier < tier_number other.tier)
    ⊎ ((tier_number one.tier ≡ tier_number other.tier) × ((one.policy < other.policy)
    ⊎ ((one.policy ≡ other.policy) × ((direction_number one.direction < direction_number other.direction)
    ⊎ ((direction_number one.direction ≡ direction_number other.direction) × (one.place < other.place))))))
