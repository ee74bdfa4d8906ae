use Rattle.std.proofs.Common.{◌<◌, ℕ, List, length, refl, ap, subst, sym, ◌∙◌}
use Rattle.std.specs.Prelude.{All}
use Rattle.std.proofs.lemmas.List.Elements.{All-get_or}
use Rattle.std.proofs.lemmas.Option.{slice_get_within}
use Rattle.np_fold.specs.Prelude.{Folding, folding_of}
use Rattle.np_kinds.proofs.KindNumbers.{first-of_kind, firsts-workloads, kind-there}
use Rattle.np_kinds.proofs.sides.find.Goals as goal
use Rattle.np_kinds.specs.Prelude.{IsWorkload}

pub kind_of-kind-requires : goal.kind_of-kind-requires
kind_of-kind-requires c = rw c.workloads-workloads.ensures.value (kind-there c.args.folded.now (folding_of c.args.folded.now) c.args.workload refl c.requires.workload)

pub bounds-first_of_kinds-kind : goal.bounds-first_of_kinds-kind
bounds-first_of_kinds-kind c =
    let there = first-of_kind c.args.folded.now c.args.workload c.requires.workload in
    rw (c.kind_of-kind.ensures, c.first_of_kinds.ensures, c.workloads-workloads.ensures.value) (slice_get_within (folding_of c.args.folded.now).first_of_kinds _ there.0 there.3)

pub first_place-place-requires : goal.first_place-place-requires
first_place-place-requires c =
    let there = first-of_kind c.args.folded.now c.args.workload c.requires.workload in
    let within : c.kind_of-kind.result < length c.first_of_kinds.result.now =
    rw (c.kind_of-kind.ensures, c.first_of_kinds.ensures, c.workloads-workloads.ensures.value) (slice_get_within (folding_of c.args.folded.now).first_of_kinds _ there.0 there.3) in
    let is = c.first_of_kinds.ensures ∙ ap (λ (f : Folding). f.first_of_kinds) c.workloads-workloads.ensures.value in
    All-get_or (IsWorkload c.args.folded.now) c.first_of_kinds.result.now c.kind_of-kind.result 0 within
    (subst (λ (firsts : List ℕ). All (IsWorkload c.args.folded.now) firsts) (sym is) (firsts-workloads c.args.folded.now))
