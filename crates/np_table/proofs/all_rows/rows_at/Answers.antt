use Rattle.std.proofs.Common.{◌≡◌, ◌≢◌, ◌<◌, ◌≤◌, ◌+◌, ◌*◌, ◌/◌, ◌%◌, ℕ, length, arith, ap, sym, subst, ◌∙◌}
use Rattle.std.proofs.lemmas.Result.{IfOk-weaker}
use Rattle.np_table.proofs.DueLemmas.{due_from-address, due_from-next_source, due_from-pair, due_from-same_source}
use Rattle.np_table.proofs.KindLemmas.{IsCached-behind, IsCached-nothing, IsCached-same_source}
use Rattle.np_table.proofs.PlaceLemmas.{rows_at-address, rows_at-pair}
use Rattle.np_table.proofs.SetLemmas.{OnErr-from, OnOk-from}
use Rattle.np_table.proofs.all_rows.rows_at.Goals as goal
use Rattle.np_table.proofs.all_rows.rows_at.Goals.{else-place-count, then-place-count}
use Rattle.np_fold.specs.Prelude.{Folding, folding_of}
use Rattle.np_table.specs.Prelude.{IsCached}
use Rattle.np_kinds.specs.Prelude.{number_of_workloads}

pub returns-then-place-pairs-clause-rows : goal.returns-then-place-pairs-clause-rows
returns-then-place-pairs-clause-rows g c = IfOk-weaker c.address_rows_at.result _ _
    (λ made is. is ∙ sym (rows_at-address c.args.sides.now.lists (folding_of c.args.sides.now.lists) c.args.place c.from-count.result
    (c.from-count.ensures ∙ c.count.ensures ∙ ap (λ (f : Folding). length f.workloads) c.workloads.ensures.value
    ∙ ap number_of_workloads c.folded.ensures) (omega arith))) c.address_rows_at.ensures.rows

pub returns-then-place-pairs-clause-kept : goal.returns-then-place-pairs-clause-kept
returns-then-place-pairs-clause-kept g c =
    let is : c.from-count.result ≡ number_of_workloads c.args.sides.now.lists = c.from-count.ensures ∙ c.count.ensures ∙ ap (λ (f : Folding). length f.workloads) c.workloads.ensures.value
    ∙ ap number_of_workloads c.folded.ensures in
    let up = subst (λ (n : ℕ). n * n ≤ c.args.place) is c.if-place-pairs.true in
    OnOk-from c.address_rows_at.result _ (IsCached-behind c.args.sides.now.lists (folding_of c.args.sides.now.lists) (c.args.place + 1) c.args.cache.now (omega (arith, up)))

pub returns-then-place-pairs-clause-counted : goal.returns-then-place-pairs-clause-counted
returns-then-place-pairs-clause-counted g c =
    let is : c.from-count.result ≡ number_of_workloads c.args.sides.now.lists = c.from-count.ensures ∙ c.count.ensures ∙ ap (λ (f : Folding). length f.workloads) c.workloads.ensures.value
    ∙ ap number_of_workloads c.folded.ensures in
    let up = subst (λ (n : ℕ). n * n ≤ c.args.place) is c.if-place-pairs.true in
    OnOk-from c.address_rows_at.result _ (due_from-address c.args.sides.now.lists
    (folding_of c.args.sides.now.lists) c.args.steps.now c.address_rows_at.new.steps c.args.place c.args.cache.now c.args.cache.now up c.requires.place c.address_rows_at.ensures.most)

pub returns-then-place-pairs-clause-most : goal.returns-then-place-pairs-clause-most
returns-then-place-pairs-clause-most g c =
    let is : c.from-count.result ≡ number_of_workloads c.args.sides.now.lists = c.from-count.ensures ∙ c.count.ensures ∙ ap (λ (f : Folding). length f.workloads) c.workloads.ensures.value
    ∙ ap number_of_workloads c.folded.ensures in
    let up = subst (λ (n : ℕ). n * n ≤ c.args.place) is c.if-place-pairs.true in
    let counted = due_from-address c.args.sides.now.lists (folding_of c.args.sides.now.lists) c.args.steps.now c.address_rows_at.new.steps c.args.place c.args.cache.now c.args.cache.now up
    c.requires.place
    c.address_rows_at.ensures.most in
    OnErr-from c.address_rows_at.result _ (omega (arith, counted))

pub returns-in_err-rows-clause-most : goal.returns-in_err-rows-clause-most
returns-in_err-rows-clause-most g c =
    let is : c.from-count.result ≡ number_of_workloads c.args.sides.now.lists = c.from-count.ensures ∙ c.count.ensures ∙ ap (λ (f : Folding). length f.workloads) c.workloads.ensures.value
    ∙ ap number_of_workloads c.folded.ensures in
    let below = subst (λ (n : ℕ). c.args.place < n * n) is c.if-place-pairs.false in
    OnErr-from c.from_residual.result _ (due_from-pair c.args.sides.now.lists
    (folding_of c.args.sides.now.lists) c.args.steps.now c.rows_by_kind.new.steps c.args.place c.args.cache.now c.args.cache.now below c.in_err-rows.ensures.most)

pub returns-clause-rows : goal.returns-clause-rows
returns-clause-rows g c = c.in_ok-rows.ensures.rows ∙ sym (rows_at-pair c.args.sides.now.lists (folding_of c.args.sides.now.lists) c.args.place c.from-count.result
    (c.from-count.ensures ∙ c.count.ensures ∙ ap (λ (f : Folding). length f.workloads) c.workloads.ensures.value
    ∙ ap number_of_workloads c.folded.ensures) (omega arith))

pub returns-clause-kept : goal.returns-clause-kept
returns-clause-kept g c =
    let is : c.from-count.result ≡ number_of_workloads c.args.sides.now.lists = c.from-count.ensures ∙ c.count.ensures ∙ ap (λ (f : Folding). length f.workloads) c.workloads.ensures.value
    ∙ ap number_of_workloads c.folded.ensures in
    let below = subst (λ (n : ℕ). c.args.place < n * n) is c.if-place-pairs.false in
    elim c.if-place-count.branch [
      | then-place-count w ↦ rw (w.cache-is, w.nothing.ensures) (IsCached-nothing c.args.sides.now.lists (folding_of c.args.sides.now.lists) _)
      | else-place-count w ↦
          let more = subst (λ (n : ℕ). c.args.place % n + 1 ≢ n) is w.if-place-count.false in
          rw w.cache-is (IsCached-same_source c.args.sides.now.lists (folding_of c.args.sides.now.lists) c.args.place c.rows_by_kind.new.cache below more
          (subst (λ (n : ℕ). IsCached c.args.sides.now.lists (folding_of c.args.sides.now.lists) (c.args.place / n) c.rows_by_kind.new.cache) is c.in_ok-rows.ensures.kept))
    ]

pub returns-clause-counted : goal.returns-clause-counted
returns-clause-counted g c =
    let is : c.from-count.result ≡ number_of_workloads c.args.sides.now.lists = c.from-count.ensures ∙ c.count.ensures ∙ ap (λ (f : Folding). length f.workloads) c.workloads.ensures.value
    ∙ ap number_of_workloads c.folded.ensures in
    let below = subst (λ (n : ℕ). c.args.place < n * n) is c.if-place-pairs.false in
    elim c.if-place-count.branch [
      | then-place-count w ↦
          let last = subst (λ (n : ℕ). c.args.place % n + 1 ≡ n) is w.if-place-count.true in
          rw (w.cache-is, w.nothing.ensures) (due_from-next_source c.args.sides.now.lists
          (folding_of c.args.sides.now.lists) c.args.steps.now c.rows_by_kind.new.steps c.args.place c.args.cache.now c.rows_by_kind.new.cache below last c.in_ok-rows.ensures.counted)
      | else-place-count w ↦
          let more = subst (λ (n : ℕ). c.args.place % n + 1 ≢ n) is w.if-place-count.false in
          rw w.cache-is (due_from-same_source c.args.sides.now.lists (folding_of c.args.sides.now.lists) c.args.steps.now c.rows_by_kind.new.steps c.args.place c.args.cache.now
          c.rows_by_kind.new.cache below more
          c.in_ok-rows.ensures.counted)
    ]
