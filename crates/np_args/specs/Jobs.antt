-- What holds of every job that words ask for.
use Rattle.std.specs.Prelude.{◌≤◌}
use Rattle.np_args.specs.Types.{Job, Sample}

-- a sample has from 1 to 1000 pods
abbrev pub IsWell : Job → Type 0
IsWell (Sample n) = (1 ≤ n) × (n ≤ 1000)
IsWell job = Unit {0}
