use Rattle.std.proofs.Common.{◌+◌, ℕ, List, Option, take, slice_index, sym, ap, subst, ◌∙◌, arith}
use Rattle.std.proofs.lemmas.List.{take_more, take_all}
use Rattle.np_model.specs.Prelude.{IsLawful}
use Rattle.np_flatten.specs.Prelude.{EstateLists, IsLeastUnlike, differ, first_with, with_number}
use Rattle.np_fold.specs.Prelude.{Folding, folding_of}
use Rattle.np_flatten.proofs.KindGroups.{unlike-first}
use Rattle.np_flatten.proofs.LeastSteps.{least-more}
use Rattle.np_flatten.proofs.UnlikeFacts.{first_by-in, first_by-is, item-in, number-in, numbers-count}
use Rattle.np_flatten.proofs.unlike.first_unlike.Goals as goal
use Rattle.np_kinds.specs.Prelude.{number_of_workloads}

pub first_of_group-first-requires-clause-number : goal.first_of_group-first-requires-clause-number
first_of_group-first-requires-clause-number c =
    let is = c.first_of_kinds-workload-items.ensures ∙ ap (λ (f : Folding). f.first_of_kinds) c.workloads.ensures.value ∙ ap (λ (l : EstateLists). (folding_of l).first_of_kinds) c.folded.ensures in
    let within = item-in c.args.passing.now c.first_of_kinds-workload-items.result.now c.loop-workload.workload-index is c.loop-workload-test.true in
    omega (arith, within, numbers-count c.args.passing.now c.args.groups.now.numbers c.args.groups.now.firsts c.requires.numbers c.requires.firsts)

pub first_of_group-first-requires-clause-within : goal.first_of_group-first-requires-clause-within
first_of_group-first-requires-clause-within c =
    let is = c.first_of_kinds-workload-items.ensures ∙ ap (λ (f : Folding). f.first_of_kinds) c.workloads.ensures.value ∙ ap (λ (l : EstateLists). (folding_of l).first_of_kinds) c.folded.ensures in
    number-in c.args.passing.now c.args.groups.now.numbers c.args.groups.now.firsts c.requires.numbers c.requires.firsts _
    (item-in c.args.passing.now c.first_of_kinds-workload-items.result.now c.loop-workload.workload-index is c.loop-workload-test.true)

pub least_with-requires-clause-first : goal.least_with-requires-clause-first
least_with-requires-clause-first c =
    let is = c.first_of_kinds-workload-items.ensures ∙ ap (λ (f : Folding). f.first_of_kinds) c.workloads.ensures.value ∙ ap (λ (l : EstateLists). (folding_of l).first_of_kinds) c.folded.ensures in
    rw (c.loop-workload.invariant.same, c.first_of_group-first.ensures) (first_by-in c.args.passing.now c.args.groups.now.numbers c.args.groups.now.firsts c.requires.numbers c.requires.firsts _
    (item-in c.args.passing.now c.first_of_kinds-workload-items.result.now c.loop-workload.workload-index is c.loop-workload-test.true))

pub least_with-requires-clause-workload : goal.least_with-requires-clause-workload
least_with-requires-clause-workload c =
    let is = c.first_of_kinds-workload-items.ensures ∙ ap (λ (f : Folding). f.first_of_kinds) c.workloads.ensures.value ∙ ap (λ (l : EstateLists). (folding_of l).first_of_kinds) c.folded.ensures in
    rw c.loop-workload.invariant.same (item-in c.args.passing.now c.first_of_kinds-workload-items.result.now c.loop-workload.workload-index is c.loop-workload-test.true)

pub loop-workload-preserved : goal.loop-workload-preserved
loop-workload-preserved c =
    let lists = c.args.passing.now in
    let items = c.first_of_kinds-workload-items.result.now in
    let i = c.loop-workload.workload-index in
    let w = slice_index items i in
    let is = c.first_of_kinds-workload-items.ensures ∙ ap (λ (f : Folding). f.first_of_kinds) c.workloads.ensures.value ∙ ap (λ (l : EstateLists). (folding_of l).first_of_kinds) c.folded.ensures in
    let within = item-in lists items i is c.loop-workload-test.true in
    let first = c.first_of_group-first.ensures ∙ first_by-is lists c.args.groups.now.numbers c.args.groups.now.firsts c.requires.numbers c.requires.firsts w within in
    let least = least-more (number_of_workloads lists) (first_with lists) (differ lists) (take i items) w c.loop-workload.found within c.loop-workload.invariant.least in
    let same = c.loop-workload.invariant.same in
    let found = c.in_ok-found.ensures.least ∙ ap (λ (l : EstateLists). with_number (differ l) c.first_of_group-first.result w c.loop-workload.found) same
    ∙ ap (λ (f : ℕ). with_number (differ lists) f w c.loop-workload.found) first in
    record {
      same = c.in_ok-found.ensures.same ∙ same;
      least = subst (λ (found : Option (ℕ × ℕ)). IsLeastUnlike lists (take (i + 1) items) found) (sym found)
          (subst (λ (all : List ℕ). IsLeastUnlike lists all (with_number (differ lists) (first_with lists w) w c.loop-workload.found)) (sym (take_more items i 0 c.loop-workload-test.true)) least);
    }

pub returns-clause-found : goal.returns-clause-found
returns-clause-found c =
    let lists = c.args.passing.now in
    let items = c.first_of_kinds-workload-items.result.now in
    let is = c.first_of_kinds-workload-items.ensures ∙ ap (λ (f : Folding). f.first_of_kinds) c.workloads.ensures.value ∙ ap (λ (l : EstateLists). (folding_of l).first_of_kinds) c.folded.ensures in
    unlike-first lists c.loop-workload.found (subst IsLawful c.folded.ensures c.workloads.ensures.lawful)
    (subst (λ (all : List ℕ). IsLeastUnlike lists all c.loop-workload.found) (take_all c.loop-workload.workload-index items (omega arith) ∙ is) c.loop-workload.invariant.least)
