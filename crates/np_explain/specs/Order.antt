-- The number of the least spot of a set.
use Rattle.std.specs.Prelude.{ℕ, ◌+◌, List, [], ◌∷◌}
use Rattle.np_explain.specs.Types.{Range}
use Rattle.np_conns.specs.Prelude.{Conns}

-- that of the first port, where the ports are numbered from `start` on
abbrev pub first_or : List (Range ℕ) → ℕ → ℕ → ℕ
first_or [] start otherwise = otherwise
first_or (run ∷ runs) start otherwise = start + run.lo

abbrev pub first_number : Conns → ℕ
first_number conns = first_or conns.tcp 0 (first_or conns.udp 65536 (first_or conns.sctp 131072 0))
