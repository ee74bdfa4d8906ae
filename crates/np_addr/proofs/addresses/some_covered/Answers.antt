use Rattle.std.proofs.Common.{rules, nat_lt, sym, ◌∙◌}
use Rattle.std.proofs.lemmas.Bool.{ltb-false}
use Rattle.std.proofs.lemmas.List.Sorted.{IsPartitionPoint-from_clause, IsPartitionedBy-ltb}
use Rattle.np_addr.proofs.NumberLemmas.{first-tells, none-covered}
use Rattle.np_addr.proofs.addresses.some_covered.Goals as goal

pub returns-in-Some : goal.returns-in-Some
returns-in-Some c =
    let parted = IsPartitionPoint-from_clause (λ n. nat_lt n c.args.base) c.args.numbers.now _ c.partition_point-place.ensures.partitioned
    (IsPartitionedBy-ltb (λ n. n) c.args.numbers.now c.args.base c.requires.ascending) (λ a r next called. search rules) in
    c.covers.ensures ∙ first-tells c.args.base c.args.free c.args.numbers.now c.requires.ascending c.partition_point-place.result parted c.in-Some.number.now
    (search rules)
    (λ d. search rules)

pub returns-in-None : goal.returns-in-None
returns-in-None c =
    let parted = IsPartitionPoint-from_clause (λ n. nat_lt n c.args.base) c.args.numbers.now _ c.partition_point-place.ensures.partitioned
    (IsPartitionedBy-ltb (λ n. n) c.args.numbers.now c.args.base c.requires.ascending) (λ a r next called. search rules) in
    sym (none-covered c.args.base c.args.free c.args.numbers.now c.requires.ascending c.partition_point-place.result parted (ltb-false _ _ (search rules)))
