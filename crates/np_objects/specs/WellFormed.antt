-- Objects that have no names and labels but such as reading lets through: words of letters, digits and the marks `-_./:`; names
-- are not empty and have no `/`.
use Rattle.std.specs.Prelude.{Bool, true, IsTrue, ◌&&◌}
use Rattle.np_model.specs.Prelude.{is_name, is_well_ingress, is_well_labels, is_well_ports, is_well_service, option_all}
use Rattle.np_objects.specs.Types.{ControllerItem, NamespaceItem, Object, OwnerRef, PodItem, Template}
use Rattle.np_objects.specs.declared.object.Object.TheVariants as object

abbrev pub is_well_owner : OwnerRef → Bool
is_well_owner owner = is_name owner.kind && is_name owner.name

abbrev pub is_well_pod : PodItem → Bool
is_well_pod pod = is_name pod.namespace && is_name pod.name && is_well_labels pod.labels && option_all is_well_owner pod.owner && is_well_ports pod.ports

abbrev pub is_well_namespace : NamespaceItem → Bool
is_well_namespace namespace = is_name namespace.name && is_well_labels namespace.labels

abbrev pub is_well_template : Template → Bool
is_well_template template = is_well_labels template.labels && is_well_ports template.ports

abbrev pub is_well_controller : ControllerItem → Bool
is_well_controller controller = is_name controller.namespace && is_name controller.name && option_all is_well_owner controller.owner && option_all is_well_template controller.template

abbrev pub is_well_object : Object → Bool
is_well_object (object.Pod pod) = is_well_pod pod
is_well_object (object.Namespace namespace) = is_well_namespace namespace
is_well_object (object.Controller controller) = is_well_controller controller
is_well_object (object.Service service) = is_well_service service
is_well_object (object.Ingress ingress) = is_well_ingress ingress
is_well_object object.Other = true

abbrev pub IsWellObject : Object → Type 0
IsWellObject object = IsTrue (is_well_object object)
