use Rattle.std.proofs.Common.{All, List, map, rules, subst, sym}
use Rattle.std.proofs.lemmas.List.Sorted.{IsNonDecreasingBy-from_sort_by_key}
use Rattle.std.specs.List.Sorted.{IsNonDecreasingBy, IsPermutation}
use Rattle.np_explain.proofs.PartLemmas.{entry_marks, right_parts}
use Rattle.np_explain.proofs.WalkLemmas.{says_of}
use Rattle.np_explain.proofs.explaining.parts_with.Goals as goal
use Rattle.np_explain.specs.Prelude.{AreRightParts, IsMarkOf, Part, first_number, named_part, with_end}
use Rattle.np_rules.specs.Prelude.{PodSide, decider, near_pod, pod}

pub of-requires-clause-says : goal.of-requires-clause-says
of-requires-clause-says c = says_of c.args.rules.now _ c.in_ok-layer.layer c.in_ok-layer.ensures

pub named_parts-requires : goal.named_parts-requires
named_parts-requires c =
    let side = c.args.rules.now in
    let carved = c.in_ok-entries.ensures in
    subst (λ (s : PodSide). All (λ entry. IsMarkOf s entry.mark) c.in_ok-entries.entries) (sym c.in_ok-side.ensures)
    (entry_marks side (with_end c.args.far c.args.family side) c.in_ok-layer.layer c.in_ok-entries.entries c.requires.lawful c.in_ok-layer.ensures
    (record { marks = carved.marks; exact = carved.exact; distinct = carved.distinct; some_spot = carved.some_spot; well = carved.well }))

pub returns : goal.returns
returns c =
    let side = c.args.rules.now in
    let carved = c.in_ok-entries.ensures in
    let moved : IsPermutation (map (named_part side) c.in_ok-entries.entries) c.sort_unstable_by_key.new.self.items = subst
    (λ (s : PodSide). IsPermutation (map (named_part s) c.in_ok-entries.entries) c.sort_unstable_by_key.new.self.items) c.in_ok-side.ensures
    (subst (λ (before : List Part). IsPermutation before c.sort_unstable_by_key.new.self.items) c.in_ok-parts.ensures c.sort_unstable_by_key.ensures.permutation) in
    let ordered : IsNonDecreasingBy (λ part. first_number part.conns) c.sort_unstable_by_key.new.self.items = IsNonDecreasingBy-from_sort_by_key
    (λ part. first_number part.conns) _ c.sort_unstable_by_key.ensures.sorted (λ a r q k. search rules) in
    subst (AreRightParts (λ spot. decider side.lists side.direction (pod (near_pod side)) (with_end c.args.far c.args.family side spot))) (sym c.from_vec.ensures)
    (right_parts side (with_end c.args.far c.args.family side) c.in_ok-layer.layer c.in_ok-entries.entries c.requires.lawful c.in_ok-layer.ensures
    (record { marks = carved.marks; exact = carved.exact; distinct = carved.distinct; some_spot = carved.some_spot; well = carved.well })
    c.sort_unstable_by_key.new.self.items moved ordered)
