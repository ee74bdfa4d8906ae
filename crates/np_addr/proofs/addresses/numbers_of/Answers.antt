use Rattle.std.proofs.Common.{◌≡◌, ◌++◌, IsPermutation, ap, subst, sym, ◌∙◌}
use Rattle.std.proofs.lemmas.List.{append-nil, at_drop_all}
use Rattle.std.specs.List.{filter_map}
use Rattle.std.proofs.lemmas.List.Sorted.{IsNonDecreasingBy-from_sort}
use Rattle.np_addr.specs.Prelude.{number_in}
use Rattle.np_addr.proofs.addresses.numbers_of.Goals as goal

pub returns : goal.returns
returns c =
    let made = c.loop-address.numbers.items in
    let numbers = c.sort_unstable.new.self.items in
    let gathered : c.loop-address.numbers.items ≡ filter_map (number_in c.args.family) c.args.listed.now =
    sym (append-nil made)
    ∙ ap (λ xs. made ++ xs) (sym (at_drop_all (filter_map (number_in c.args.family)) c.args.listed.now c.loop-address.address-index c.loop-address-test.false))
    ∙ c.loop-address.invariant in
    let moved = c.sort_unstable.ensures.permutation in
    (subst (λ xs. IsPermutation xs numbers) gathered moved, IsNonDecreasingBy-from_sort (λ n. n) numbers c.sort_unstable.ensures.sorted)
