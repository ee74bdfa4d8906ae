use Rattle.std.proofs.Common.{rules, ◌-◌}
use Rattle.std.proofs.lemmas.List.Sorted.{list_any-IsPermutation}
use Rattle.np_addr.specs.Prelude.{is_covered}
use Rattle.np_addr.proofs.NumberLemmas.{any-four, any-six}
use Rattle.np_addr.proofs.addresses.Addresses.some_in.Goals as goal

pub returns-in-Four : goal.returns-in-Four
returns-in-Four c =
    let same = list_any-IsPermutation (is_covered c.in-Four.base (32 - c.in-Four.length)) _ _ c.self.invariant.0.0 in
    let all = any-four c.in-Four.base c.in-Four.length c.args.self.now in
    search rules

pub returns-in-Six : goal.returns-in-Six
returns-in-Six c =
    let same = list_any-IsPermutation (is_covered c.in-Six.base (128 - c.in-Six.length)) _ _ c.self.invariant.1.0 in
    let all = any-six c.in-Six.base c.in-Six.length c.args.self.now in
    search rules
