use Rattle.std.proofs.Common.{◌≡◌, ◌++◌, drop}
use Rattle.std.specs.List.{filter_map}
use Rattle.np_addr.specs.Prelude.{number_in}
use Rattle.np_addr.proofs.addresses.numbers_of.Given as goal

-- with the numbers that are still to come those of the whole list
abbrev pub invariant-loop-address : goal.invariant-loop-address
invariant-loop-address l =
    l.numbers.items ++ filter_map (number_in l.family) (drop l.address-index l.listed) ≡ filter_map (number_in l.family) l.listed
