-- Objects that have no names and labels but such as reading lets through: words of letters, digits and the marks `-_./:`; names
-- are not empty and have no `/`.
use Rattle.std.specs.Prelude.{List, Bool, true, ◌&&◌, Option, Some, None}
use Rattle.std.specs.List.{list_all}
use Rattle.np_model.specs.Words.{is_label, is_word, is_name, is_whole_word}
use Rattle.np_labels.specs.WellFormed as demand
use Rattle.np_labels.specs.declared.pair.Pair.{Pair}
use Rattle.np_model.specs.Types.{Requirement, Selector, ServiceItem}
use Rattle.np_model.specs.declared.ingress.IngressItem.{IngressItem}
use Rattle.np_model.specs.declared.named_port.NamedPort.{NamedPort}
use Rattle.np_model.specs.declared.service.PortName.{PortName}
use Rattle.np_model.specs.declared.service.PortName.TheVariants.{Number, Named}
use Rattle.np_model.specs.declared.service.ServicePort.{ServicePort}

-- whether a value passes a test, if there is one
abbrev pub option_all : {A : Type 0} → (A → Bool) → Option A → Bool
option_all passes None = true
option_all passes (Some x) = passes x

-- a key that is a word and not empty, and a value that is a word
abbrev pub is_well_label : Pair → Bool
is_well_label pair = is_label (pair.key, pair.value)

abbrev pub is_well_labels : List Pair → Bool
is_well_labels labels = list_all is_well_label labels

-- a key that is a word and not empty, and values that are words, ascend, and are as many as its op may have
abbrev pub is_worded_requirement : Requirement → Bool
is_worded_requirement requirement = is_whole_word requirement.key && list_all is_word requirement.values && demand.is_well_requirement requirement

abbrev pub is_worded_selector : Selector → Bool
is_worded_selector selector = list_all is_worded_requirement selector.requirements

abbrev pub is_well_port : NamedPort → Bool
is_well_port port = is_whole_word port.name

abbrev pub is_well_ports : List NamedPort → Bool
is_well_ports ports = list_all is_well_port ports

abbrev pub is_well_target : PortName → Bool
is_well_target (Number number) = true
is_well_target (Named name) = is_whole_word name

abbrev pub is_well_service_port : ServicePort → Bool
is_well_service_port port = option_all is_whole_word port.name && is_well_target port.target

abbrev pub is_well_service : ServiceItem → Bool
is_well_service service = is_name service.namespace && is_name service.name && option_all is_worded_selector service.selector && list_all is_well_service_port service.ports

-- the names in its backends may be any texts
abbrev pub is_well_ingress : IngressItem → Bool
is_well_ingress ingress = is_name ingress.namespace && is_name ingress.name
