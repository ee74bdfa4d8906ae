use Rattle.std.proofs.Common.{◌<◌, List, length, get_or, ap, ◌∙◌}
use Rattle.std.proofs.lemmas.List.Elements.{All-get_or}
use Rattle.np_fold.specs.Prelude.{Pod, owner_name_at}
use Rattle.np_fold.proofs.FoldLemmas.{one_more, owner_name-here}
use Rattle.np_fold.proofs.owner_names.owner_names.Goals as goal

pub loop-first-preserved : goal.loop-first-preserved
loop-first-preserved c =
    let first = get_or c.args.firsts.now c.loop-first.first-index 0 in
    let pod = c.index-pods-first.result in
    let within : first < length c.args.estate.now.pods = All-get_or (λ place. place < length c.args.estate.now.pods) c.args.firsts.now c.loop-first.first-index 0 c.loop-first-test.true c.requires in
    c.in_ok-push.ensures.ok
    ∙ one_more (owner_name_at c.args.estate.now) c.args.firsts.now c.loop-first.first-index 0 c.loop-first.names c.in_ok-owner_name.field-0 c.loop-first-test.true c.loop-first.invariant
    (c.in_ok-owner_name.ensures ∙ owner_name-here c.args.estate.now first pod within (c.index-pods-first.is ∙ ap (λ (pods : List Pod). get_or pods first pod) c.pods.ensures))
