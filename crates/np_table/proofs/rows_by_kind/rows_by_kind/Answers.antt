use Rattle.std.proofs.Common.{◌≡◌, ◌<◌, None, false, slice_index, ap, sym, refl, subst, ◌∙◌}
use Rattle.np_fold.specs.Prelude.{Folding, folding_of}
use Rattle.np_kinds.proofs.KindNumbers.{kind-there, kind-within}
use Rattle.np_kinds.specs.Prelude.{is_alone}
use Rattle.np_model.specs.Prelude.{IsLawful}
use Rattle.np_table.proofs.KindLemmas.{IsCached-also, IsCached-same, none_kept, pair-counted, pair-due, pair_rows-alone, rows-kept}
use Rattle.np_table.proofs.SetLemmas.{OnErr-from}
use Rattle.np_table.proofs.SideLemmas.{silent-rows}
use Rattle.np_table.proofs.rows_by_kind.rows_by_kind.Goals as goal
use Rattle.np_table.specs.Prelude.{cached_at}

pub returns-then-is_alone-clause-rows : goal.returns-then-is_alone-clause-rows
returns-then-is_alone-clause-rows g c =
    c.new.ensures ∙ pair_rows-alone c.args.sides.now.lists (folding_of c.args.sides.now.lists) c.args.pair.source c.args.pair.destination
    (rw (c.workloads-workloads.ensures.value, c.folded-folded.ensures) at (sym c.is_alone.ensures ∙ c.if-is_alone.true))

pub is_silent-requires-clause-reach : goal.is_silent-requires-clause-reach
is_silent-requires-clause-reach g c = rw c.folded-folded.ensures c.requires.reach

pub returns-then-is_silent-clause-rows : goal.returns-then-is_silent-clause-rows
returns-then-is_silent-clause-rows g c =
    c.new-then-is_silent.ensures ∙ silent-rows c.args.sides.now.lists c.args.pair.source c.args.pair.destination
    (rw c.folded-folded.ensures at (c.is_silent.ensures.silent c.if-is_silent.true))

pub kind_of-kind-requires : goal.kind_of-kind-requires
kind_of-kind-requires g c =
    rw (c.workloads-workloads.ensures.value, c.folded-folded.ensures) (kind-there c.args.sides.now.lists (folding_of c.args.sides.now.lists) c.args.pair.destination refl c.requires.destination)

pub returns-in-Some-clause-rows : goal.returns-in-Some-clause-rows
returns-in-Some-clause-rows g c =
    let folded = c.workloads-workloads.ensures.value ∙ ap folding_of c.folded-folded.ensures in
    let alone : is_alone (folding_of c.args.sides.now.lists) c.args.pair.source c.args.pair.destination ≡ false = rw folded at (sym c.is_alone.ensures ∙ c.if-is_alone.false) in
    let kind : c.kind_of-kind.result ≡ slice_index (folding_of c.args.sides.now.lists).kinds c.args.pair.destination = c.kind_of-kind.ensures ∙ ap
    (λ (f : Folding). slice_index f.kinds c.args.pair.destination) folded in
    let is = rw (c.pair_key-key.ensures, kind) at c.in_ok-rows.ensures in
    rows-kept c.args.sides.now.lists (folding_of c.args.sides.now.lists) c.args.pair.source c.args.pair.destination c.args.cache.now c.in-Some.rows c.requires.source c.requires.destination alone
    c.requires.kept (sym c.in-Some.is ∙ is)

pub rows_of_kinds-requires-clause-apart : goal.rows_of_kinds-requires-clause-apart
rows_of_kinds-requires-clause-apart g c =
    let folded = c.workloads-workloads.ensures.value ∙ ap folding_of c.folded-folded.ensures in
    rw folded at (sym c.is_alone.ensures ∙ c.if-is_alone.false)

pub returns-in_err-rows-2-clause-most : goal.returns-in_err-rows-2-clause-most
returns-in_err-rows-2-clause-most g c =
    let folded = c.workloads-workloads.ensures.value ∙ ap folding_of c.folded-folded.ensures in
    let kind : c.kind_of-kind.result ≡ slice_index (folding_of c.args.sides.now.lists).kinds c.args.pair.destination = c.kind_of-kind.ensures ∙ ap
    (λ (f : Folding). slice_index f.kinds c.args.pair.destination) folded in
    let none : cached_at c.args.cache.now c.kind_of-kind.result ≡ None = none_kept _ _ (sym c.in_default.is ∙ c.in_ok-rows.ensures) in
    let within : c.kind_of-kind.result < (folding_of c.args.sides.now.lists).kind_count = rw kind
    (kind-within c.args.sides.now.lists (folding_of c.args.sides.now.lists) c.args.pair.destination refl c.requires.destination) in
    OnErr-from c.from_residual-in_err-rows-2.result _ (pair-due c.args.sides.now.lists
    (folding_of c.args.sides.now.lists) c.args.steps.now c.rows_of_kinds.new.steps c.kind_of-kind.result c.args.cache.now within c.requires.few none c.rows_of_kinds.ensures.most)

pub keep-requires-clause-kind : goal.keep-requires-clause-kind
keep-requires-clause-kind g c =
    rw (c.kind_of-kind.ensures, c.kinds.ensures, c.workloads-workloads.ensures.value, c.folded-folded.ensures)
    (kind-within c.args.sides.now.lists (folding_of c.args.sides.now.lists) c.args.pair.destination refl c.requires.destination)

pub returns-in_err-keep-clause-kept : goal.returns-in_err-keep-clause-kept
returns-in_err-keep-clause-kept g c =
    IsCached-same c.args.sides.now.lists (folding_of c.args.sides.now.lists) c.args.pair.source c.args.cache.now c.keep.new.self c.requires.kept c.in_err-keep.ensures.err

pub returns-in_err-keep-clause-most : goal.returns-in_err-keep-clause-most
returns-in_err-keep-clause-most g c =
    let folded = c.workloads-workloads.ensures.value ∙ ap folding_of c.folded-folded.ensures in
    let kind : c.kind_of-kind.result ≡ slice_index (folding_of c.args.sides.now.lists).kinds c.args.pair.destination = c.kind_of-kind.ensures ∙ ap
    (λ (f : Folding). slice_index f.kinds c.args.pair.destination) folded in
    let none : cached_at c.args.cache.now c.kind_of-kind.result ≡ None = none_kept _ _ (sym c.in_default.is ∙ c.in_ok-rows.ensures) in
    let within : c.kind_of-kind.result < (folding_of c.args.sides.now.lists).kind_count = rw kind
    (kind-within c.args.sides.now.lists (folding_of c.args.sides.now.lists) c.args.pair.destination refl c.requires.destination) in
    OnErr-from c.from_residual-in_err-keep.result _ (pair-due c.args.sides.now.lists
    (folding_of c.args.sides.now.lists) c.args.steps.now c.rows_of_kinds.new.steps c.kind_of-kind.result c.args.cache.now within c.requires.few none c.rows_of_kinds.ensures.most)

pub returns-clause-kept : goal.returns-clause-kept
returns-clause-kept g c =
    let folded = c.workloads-workloads.ensures.value ∙ ap folding_of c.folded-folded.ensures in
    let alone : is_alone (folding_of c.args.sides.now.lists) c.args.pair.source c.args.pair.destination ≡ false = rw folded at (sym c.is_alone.ensures ∙ c.if-is_alone.false) in
    let kind : c.kind_of-kind.result ≡ slice_index (folding_of c.args.sides.now.lists).kinds c.args.pair.destination = c.kind_of-kind.ensures ∙ ap
    (λ (f : Folding). slice_index f.kinds c.args.pair.destination) folded in
    let also = rw (kind, c.items.ensures) at c.in_ok-keep.ensures.also in
    IsCached-also c.args.sides.now.lists (folding_of c.args.sides.now.lists) c.args.pair.source c.args.pair.destination c.args.cache.now c.keep.new.self c.in_ok-rows-2.rows refl
    (subst IsLawful c.folded-folded.ensures c.workloads-workloads.ensures.lawful) c.requires.destination alone c.in_ok-rows-2.ensures.rows c.requires.kept also

pub returns-clause-counted : goal.returns-clause-counted
returns-clause-counted g c =
    let folded = c.workloads-workloads.ensures.value ∙ ap folding_of c.folded-folded.ensures in
    let kind : c.kind_of-kind.result ≡ slice_index (folding_of c.args.sides.now.lists).kinds c.args.pair.destination = c.kind_of-kind.ensures ∙ ap
    (λ (f : Folding). slice_index f.kinds c.args.pair.destination) folded in
    let none : cached_at c.args.cache.now c.kind_of-kind.result ≡ None = none_kept _ _ (sym c.in_default.is ∙ c.in_ok-rows.ensures) in
    let within : c.kind_of-kind.result < (folding_of c.args.sides.now.lists).kind_count = rw kind
    (kind-within c.args.sides.now.lists (folding_of c.args.sides.now.lists) c.args.pair.destination refl c.requires.destination) in
    pair-counted c.args.sides.now.lists (folding_of c.args.sides.now.lists) c.args.steps.now c.rows_of_kinds.new.steps c.kind_of-kind.result c.args.cache.now c.keep.new.self within c.requires.few none
    (c.in_ok-keep.ensures.count none) c.rows_of_kinds.ensures.most
