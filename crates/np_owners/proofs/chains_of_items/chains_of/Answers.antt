use Rattle.std.proofs.Common.{sym}
use Rattle.np_owners.proofs.ChainLemmas.{IsChains-ups, first_cycle_within, cycle_named}
use Rattle.np_owners.proofs.chains_of_items.chains_of.Goals as goal

pub of-chains-requires : goal.of-chains-requires
of-chains-requires c = rw c.in_ok-ups.ensures (IsChains-ups c.args.items.now c.requires.few)

pub bounds-items-place : goal.bounds-items-place
bounds-items-place c =
    first_cycle_within c.args.items.now c.in-Some.place (rw (c.of-chains.ensures, c.in_ok-ups.ensures) at (sym c.in-Some.ensures))

pub returns-in_ok-full_name-in-Some-clause-cycle : goal.returns-in_ok-full_name-in-Some-clause-cycle
returns-in_ok-full_name-in-Some-clause-cycle c =
    let items = c.args.items.now in
    let is = rw (c.of-chains.ensures, c.in_ok-ups.ensures) at (sym c.in-Some.ensures) in
    cycle_named items c.in-Some.place c.index-items-place.result c.in_ok-full_name-in-Some.field-0 is
    (first_cycle_within items c.in-Some.place is) c.index-items-place.is c.in_ok-full_name-in-Some.ensures
