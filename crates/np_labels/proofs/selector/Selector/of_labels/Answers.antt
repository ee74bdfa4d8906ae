use Rattle.std.proofs.Common.{[], ◌∷◌, sym}
use Rattle.std.proofs.lemmas.List.{map-append}
use Rattle.np_labels.specs.Prelude.{label_requirement}
use Rattle.np_labels.proofs.selector.Selector.of_labels.Goals as goal

pub loop-key-preserved : goal.loop-key-preserved
loop-key-preserved c =
    rw (c.in_ok-push.ensures.ok, c.in_ok-of_label.ensures, c.loop-key.invariant) (sym (map-append label_requirement c.loop-key.yielded ((c.in-Some.key, c.in-Some.value) ∷ [])))
