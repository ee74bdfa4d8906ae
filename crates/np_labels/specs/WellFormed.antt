-- Requirements as the Kubernetes API has them (Kubernetes API reference, LabelSelectorRequirement).
use Rattle.std.specs.Prelude.{length, Bool, not, ◌&&◌, ◌==◌}
use Rattle.std.specs.List.{list_all}
use Rattle.np_labels.specs.Values.{is_ascending}
use Rattle.np_labels.specs.Types.{Absent, NoneOf, OneOf, Op, Present, Requirement, Selector}

-- whether an op may stand there with values, or without
abbrev pub fits : Op → Bool → Bool
fits OneOf has_values = has_values
fits NoneOf has_values = has_values
fits Present has_values = not has_values
fits Absent has_values = not has_values

-- values that ascend: at least one for `OneOf` and `NoneOf`, and none for the others
abbrev pub is_well_requirement : Requirement → Bool
is_well_requirement requirement = is_ascending requirement.values && fits requirement.op (not (length requirement.values == 0))

abbrev pub has_well_requirements : Selector → Bool
has_well_requirements selector = list_all is_well_requirement selector.requirements
