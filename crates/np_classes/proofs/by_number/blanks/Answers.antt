use Rattle.std.proofs.Common.{[], sym, ◌∙◌}
use Rattle.np_classes.specs.Classes.{numbered}
use Rattle.np_classes.proofs.GroupSteps.{map_places_more}
use Rattle.np_classes.proofs.by_number.blanks.Goals as goal

pub loop-blank-preserved : goal.loop-blank-preserved
loop-blank-preserved c =
    c.in_ok-push.ensures.items ∙ rw (c.loop-blank.invariant, c.new.ensures) (sym (map_places_more (numbered []) c.loop-blank._blank))
