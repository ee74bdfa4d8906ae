-- Names of rules. For `push_ids`.
use Rattle.std.proofs.Common.{◌≡◌, ℕ, zero, suc, ◌+◌, List, [], ◌∷◌, ◌++◌, length, map, add-one, ap, ◌∙◌, arith}
use Rattle.std.specs.List.{enumerate_from}
use Rattle.np_rules.specs.Prelude.{Pairwise, RuleId, ids_from}

-- one name more at the end
ids_after : (policy first count : ℕ) → ids_from policy first (suc count) ≡ ids_from policy first count ++ record { policy = policy; place = first + count } ∷ []
ids_after policy first zero = ap (λ (place : ℕ). record { policy = policy; place = place } ∷ []) (omega arith)
ids_after policy first (suc count) =
    ap (λ (ids : List RuleId). record { policy = policy; place = first } ∷ ids) (ids_after policy (first + 1) count)
    ∙ ap (λ (place : ℕ). ids_from policy first (suc count) ++ record { policy = policy; place = place } ∷ []) (let same : first + 1 + count ≡ first + suc count = omega arith in same)

pub ids_next : (policy count : ℕ) → ids_from policy 0 (count + 1) ≡ ids_from policy 0 count ++ record { policy = policy; place = count } ∷ []
ids_next policy count =
    rw (add-one, ids_after) (ap (λ (place : ℕ). ids_from policy 0 count ++ record { policy = policy; place = place } ∷ []) (let same : 0 + count ≡ count = omega arith in same))

-- names and numbered rules, place by place
pub numbered_ids : {X Y : Type 0} (R : RuleId → Y → Type 0) (make : ℕ × X → Y) (policy : ℕ) → ((numbered : ℕ × X) → R (record { policy = policy; place = numbered.0 }) (make numbered)) →
    (first : ℕ) (rules : List X) → Pairwise R (ids_from policy first (length rules)) (map make (enumerate_from first rules))
numbered_ids R make policy named first [] = tt
numbered_ids R make policy named first (rule ∷ rules) = (named (first, rule), numbered_ids R make policy named (first + 1) rules)
