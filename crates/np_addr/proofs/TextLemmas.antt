-- The canonical text. For `print_ipv6`.
use Rattle.std.proofs.Common.{◌≡◌, ℕ, ◌+◌, ◌-◌, ◌≤◌, List, [], ◌++◌, length, take, drop, codes, arith}
use Rattle.std.proofs.lemmas.Bool.{lt-ltb}
use Rattle.std.proofs.lemmas.List.{take_rest}
use Rattle.std.specs.Net.Text.{longest_zero_run}
use Rattle.np_addr.specs.Prelude.{groups_text, shortened_text}

-- what is written round a run of two or more
pub shortened_text-run : (groups : List ℕ) (run : ℕ × ℕ) → run ≡ longest_zero_run groups → 2 ≤ run.1 →
    ([] ++ groups_text (take run.0 groups)) ++ codes "::" ++ groups_text (take (length groups - (run.0 + run.1)) (drop (run.0 + run.1) groups)) ≡ shortened_text groups
unfolding shortened_text
shortened_text-run groups run is long =
    rw (← is, lt-ltb 1 run.1 (omega arith), take_rest groups (run.0 + run.1))
