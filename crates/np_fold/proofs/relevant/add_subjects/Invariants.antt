use Rattle.std.proofs.Common.{◌≡◌, drop, flat_map, map}
use Rattle.np_fold.specs.Prelude.{keys_of_subject, with_keys}
use Rattle.np_fold.proofs.relevant.add_subjects.Given as goal

-- with the keys of those that are left they are all
abbrev pub invariant-loop-policy : goal.invariant-loop-policy
invariant-loop-policy l = with_keys l.keys.keys (flat_map keys_of_subject (map (λ policy. policy.subject) (drop l.policy-index l.estate.admin_policies)))
    ≡ with_keys l.fn.keys.keys (flat_map keys_of_subject (map (λ policy. policy.subject) l.estate.admin_policies))
