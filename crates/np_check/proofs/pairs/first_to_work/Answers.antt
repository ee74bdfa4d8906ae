use Rattle.std.proofs.Common.{◌≡◌, ◌==◌, ◌&&◌, if◌then◌else◌, ℕ, true, refl, sym, ap, subst, ◌∙◌, slice_index}
use Rattle.np_check.proofs.PairLemmas.{none_denied, none_of_is, settled-more}
use Rattle.np_check.specs.Prelude.{Work, counterexample_between, has_pair, kind_of}
use Rattle.np_model.specs.Prelude.{IsLawful}
use Rattle.np_fold.specs.Prelude.{Folding, folding_of}
use Rattle.np_kinds.proofs.KindNumbers.{kind-there}
use Rattle.np_check.proofs.pairs.first_to_work.Goals as goal
use Rattle.np_check.proofs.pairs.first_to_work.Goals.{then-is_none+then-source-destination+in_ok-insert, else-is_none}

pub kind_of-requires : goal.kind_of-requires
kind_of-requires c =
    let folding : c.workloads-workloads.result.now ≡ folding_of c.args.checker.now = c.workloads-workloads.ensures.value ∙ ap folding_of c.folded.ensures in
    rw folding (kind-there c.args.checker.now (folding_of c.args.checker.now) c.args.source refl c.requires.source)

pub kind_of-requires-2 : goal.kind_of-requires-2
kind_of-requires-2 c =
    let folding : c.workloads-workloads.result.now ≡ folding_of c.args.checker.now = c.workloads-workloads.ensures.value ∙ ap folding_of c.folded.ensures in
    rw folding (kind-there c.args.checker.now (folding_of c.args.checker.now) c.args.destination refl c.requires.destination)

pub returns-then-contains-clause-counterexample : goal.returns-then-contains-clause-counterexample
returns-then-contains-clause-counterexample c =
    let folding : c.workloads-workloads.result.now ≡ folding_of c.args.checker.now = c.workloads-workloads.ensures.value ∙ ap folding_of c.folded.ensures in
    let sends : c.kind_of.result ≡ kind_of c.args.checker.now c.args.source = c.kind_of.ensures ∙ ap (λ (f : Folding). slice_index f.kinds c.args.source) folding in
    let receives : c.kind_of-2.result ≡ kind_of c.args.checker.now c.args.destination = c.kind_of-2.ensures ∙ ap (λ (f : Folding). slice_index f.kinds c.args.destination) folding in
    let has : has_pair c.args.settled.now.keys c.kind_of.result c.kind_of-2.result ≡ true = sym c.contains.ensures ∙ c.if-contains.true in
    sym (c.requires.settled c.args.source c.args.destination c.requires.source c.requires.destination
    (ap (λ (i : ℕ). has_pair c.args.settled.now.keys i (kind_of c.args.checker.now c.args.destination)) (sym sends)
    ∙ ap (λ (j : ℕ). has_pair c.args.settled.now.keys c.kind_of.result j) (sym receives) ∙ has))

pub returns-clause-settled : goal.returns-clause-settled
returns-clause-settled c =
    let folding : c.workloads-workloads.result.now ≡ folding_of c.args.checker.now = c.workloads-workloads.ensures.value ∙ ap folding_of c.folded.ensures in
    let lawful : IsLawful c.args.checker.now = subst IsLawful c.folded.ensures c.workloads-workloads.ensures.lawful in
    let sends : c.kind_of.result ≡ kind_of c.args.checker.now c.args.source = c.kind_of.ensures ∙ ap (λ (f : Folding). slice_index f.kinds c.args.source) folding in
    let receives : c.kind_of-2.result ≡ kind_of c.args.checker.now c.args.destination = c.kind_of-2.ensures ∙ ap (λ (f : Folding). slice_index f.kinds c.args.destination) folding in
    elim c.if-is_none.branch [
      | then-is_none+then-source-destination+in_ok-insert w ↦
          let none = none_of_is c.in_ok-found.found (counterexample_between c.args.checker.now c.args.claim.now.wanted c.args.claim.now.conns.now (Work c.args.source)
          (Work c.args.destination)) c.is_none.result c.is_none.ensures w.if-is_none.true c.in_ok-found.ensures.counterexample in
          let has : (i j : ℕ) → has_pair w.insert.new.self.keys i j ≡ (if (kind_of c.args.checker.now c.args.source == i)
          && (kind_of c.args.checker.now c.args.destination == j) then true else has_pair c.args.settled.now.keys i j) = λ i j.
          w.in_ok-insert.ensures.updates.0 (i, j)
          ∙ ap (λ (k : ℕ). if (k == i) && (c.kind_of-2.result == j) then true else has_pair c.args.settled.now.keys i j) sends
          ∙ ap (λ (k : ℕ). if (kind_of c.args.checker.now c.args.source == i) && (k == j) then true else has_pair c.args.settled.now.keys i j) receives in
          rw (w.settled-is, c.in_ok-found.ensures.same)
          (settled-more c.args.checker.now c.args.claim.now.wanted c.args.claim.now.conns.now c.args.settled.now.keys w.insert.new.self.keys
          c.args.source c.args.destination lawful c.requires.source c.requires.destination w.if-source-destination.true none has c.requires.settled)
      | else-is_none w ↦ rw (w.settled-is, c.in_ok-found.ensures.same) c.requires.settled
    ]

pub returns-then-is_silent-clause-counterexample : goal.returns-then-is_silent-clause-counterexample
returns-then-is_silent-clause-counterexample c =
    none_denied c.args.checker.now c.args.claim.now.wanted c.args.claim.now.conns.now c.args.source c.args.destination
    (sym c.denies-denied.ensures ∙ c.if-denied.true) (c.is_silent.ensures c.if-is_silent.true)
