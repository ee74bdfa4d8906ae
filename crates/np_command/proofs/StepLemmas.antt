-- What is due for all rows of a table is within what a list may count. For crates above.
use Rattle.std.proofs.Common.{◌≡◌, ℕ, ◌+◌, ◌*◌, ◌≤◌, length, arith, refl, sym, subst, [], ◌∷◌, List, Option, None, Some}
use Rattle.std.proofs.Math.Nat.{mul-le-mul_left, mul-le-mul_right}
use Rattle.np_command.specs.Prelude.{EstateLists, list_steps}
use Rattle.np_classes.specs.Classes.{firsts}
use Rattle.np_fold.proofs.WorkloadLemmas.{workloads-count}
use Rattle.np_fold.specs.Prelude.{Folding, folding_of, kinds_alike, workload_count}
use Rattle.np_fold.proofs.PartLemmas.{length-firsts}
use Rattle.np_table.specs.Prelude.{most_rules}
use Rattle.std.specs.Prelude.{MatchOption}
use Rattle.np_table.specs.declared.rows.Row.{Row}

-- what is due for all rows of a cluster
pub due-within : (lists : EstateLists) (workloads kinds : ℕ) → workloads ≡ length (folding_of lists).workloads → kinds ≤ workloads →
    (4 * workloads * kinds + 6 * workloads) * most_rules lists (folding_of lists) ≤ list_steps lists
unfolding list_steps
due-within lists workloads kinds is fewer =
    let pairs : 4 * workloads * kinds ≤ 4 * workloads * workloads = mul-le-mul_left (4 * workloads) fewer in
    let all : 4 * workloads * kinds + 6 * workloads ≤ 4 * workloads * workloads + 6 * workloads = omega (arith, pairs) in
    subst (λ (n : ℕ). (4 * workloads * kinds + 6 * workloads) * most_rules lists (folding_of lists) ≤ (4 * n * n + 6 * n) * most_rules lists (folding_of lists)) is
    (mul-le-mul_right (most_rules lists (folding_of lists)) all)

pub kinds-fewer : (lists : EstateLists) → (folding_of lists).kind_count ≤ length (folding_of lists).workloads
unfolding folding_of
kinds-fewer lists = subst (λ (n : ℕ). length (firsts (kinds_alike lists) (workload_count lists)) ≤ n) (sym (workloads-count lists)) (length-firsts (kinds_alike lists) (workload_count lists))

-- so what is due for all rows of a table is within what a list may count
pub due_all : (lists : EstateLists) (folding : Folding) → folding ≡ folding_of lists →
    (4 * length folding.workloads * folding.kind_count + 6 * length folding.workloads) * most_rules lists folding ≤ list_steps lists
due_all lists folding is =
    subst (λ (f : Folding). (4 * length f.workloads * f.kind_count + 6 * length f.workloads) * most_rules lists f ≤ list_steps lists) (sym is)
    (due-within lists (length (folding_of lists).workloads) (folding_of lists).kind_count refl (kinds-fewer lists))

-- ---- rows that are made one after another

-- where no row is given, none was to come
pub none_given : (given : Option Row) (before after : List Row) → MatchOption given (before ≡ []) (λ row. before ≡ row ∷ after) → ((row : Row) → given ≡ Some row → ⊥) → before ≡ []
none_given None before after is never = is
none_given (Some row) before after is never = absurd (never row refl)
