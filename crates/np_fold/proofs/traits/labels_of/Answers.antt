use Rattle.std.proofs.Common.{◌≡◌, ◌++◌, ◌∷◌, [], map, ap, sym, ◌∙◌}
use Rattle.std.proofs.lemmas.List.{take_all}
use Rattle.np_fold.proofs.LabelLemmas.{are_listed, label-made, label_of_pair, labels-listed, listed-more, unlisted-more}
use Rattle.np_fold.proofs.traits.labels_of.Goals as goal
use Rattle.np_fold.proofs.traits.labels_of.Goals.{then-is_listed+in_ok-label_of+in_ok-push, else-is_listed}

pub loop-pair-preserved : goal.loop-pair-preserved
loop-pair-preserved c =
    let keys = c.args.keys.now in
    let pairs = c.args.pairs.now in
    elim c.if-is_listed.branch [
      | then-is_listed+in_ok-label_of+in_ok-push w ↦
          let label : w.in_ok-label_of.field-0 ≡ label_of_pair c.pair-item.result = label-made w.in_ok-label_of.field-0 c.pair-item.result w.in_ok-label_of.ensures.key w.in_ok-label_of.ensures.value in
          let put : c.if-is_listed.labels ≡ c.loop-pair.labels ++ label_of_pair c.pair-item.result ∷ [] = cc (w.labels-is, w.in_ok-push.ensures.ok, label) in
          put ∙ listed-more keys pairs c.loop-pair.pair-index c.pair-item.result c.loop-pair.labels c.loop-pair-test.true c.pair-item.is c.loop-pair.invariant
          (sym c.is_listed.ensures ∙ w.if-is_listed.true)
      | else-is_listed w ↦
          w.labels-is ∙ unlisted-more keys pairs c.loop-pair.pair-index c.pair-item.result c.loop-pair.labels c.loop-pair-test.true c.pair-item.is c.loop-pair.invariant
          (sym c.is_listed.ensures ∙ w.if-is_listed.false)
    ]

pub returns : goal.returns
returns c =
    c.loop-pair.invariant
    ∙ ap (λ all. map label_of_pair (are_listed c.args.keys.now all)) (take_all c.loop-pair.pair-index c.args.pairs.now c.loop-pair-test.false)
    ∙ labels-listed c.args.keys.now c.args.pairs.now c.requires.keys c.requires.pairs
