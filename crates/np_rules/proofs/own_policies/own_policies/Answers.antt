use Rattle.std.proofs.Common.{rules}
use Rattle.std.proofs.lemmas.List.Sorted.{IsPartitionPoint-from_clause}
use Rattle.std.specs.Ordering.{is_le, is_lt}
use Rattle.np_rules.proofs.OwnPolicies.{compared, lower-first, own-split, split-place, upto-first}
use Rattle.np_rules.proofs.own_policies.own_policies.Goals as goal

pub returns-clause-own : goal.returns-clause-own
returns-clause-own c =
    let policies = c.args.policies.now in
    let namespace = c.args.namespace.now in
    own-split policies namespace c.partition_point-first.result c.partition_point-count.result c.split_at.result.1.now c.split_at-2.result.0.now c.partition_point-first.ensures.bound
    c.split_at.ensures.back c.partition_point-count.ensures.bound c.split_at-2.ensures.front
    (IsPartitionPoint-from_clause (λ policy. is_lt (compared namespace policy)) _ _ c.partition_point-first.ensures.partitioned (lower-first policies c.requires namespace)
    (λ a r next called. search rules))
    (λ parted. IsPartitionPoint-from_clause (λ policy. is_le (compared namespace policy)) _ _ c.partition_point-count.ensures.partitioned parted (λ a r next called. search rules))
    (upto-first policies c.requires namespace)

pub returns-clause-first : goal.returns-clause-first
returns-clause-first c among within = split-place c.args.policies.now c.split_at.result.1.now c.split_at-2.result.0.now c.partition_point-first.result c.partition_point-count.result among
    c.split_at.ensures.back c.split_at-2.ensures.front within
