-- One far end.
use Rattle.np_rules.specs.Types.{OneEnd, PortSpot}
use Rattle.np_rules.specs.model.Ends.{Contact}
use Rattle.np_rules.specs.Views.{end_view}

-- what a spot stands for
abbrev pub one_contact : OneEnd → PortSpot → Contact
one_contact ends spot = record { far = end_view ends.far.now; destination = end_view ends.destination.now; family = ends.family; spot = spot }
