-- The texts of faults.
use Rattle.std.specs.Prelude.{ℕ, List, ◌++◌, codes, decimal}
use Rattle.np_json.specs.Types.{BadAction, BadAddress, BadCidr, BadExcept, BadField, BadName, BadPort, BadPriority, BadProtocol, BadSelector, BaselineName, DomainPeer, EmptyPeers, FaultKind, Flaw, ForeignPolicy, NodePeer, PeerShape, ReadFault, ShapeFault}
use Rattle.np_json.specs.declared.fault.ObjectFault.{ObjectFault}
use Rattle.np_json.specs.declared.fault.ReadFault.TheVariants.{Bad, NoMemory}
use Rattle.np_json.specs.declared.flaw.ShapeFault.TheVariants as part
use Rattle.np_json.specs.Paths.{path_text}

-- a kind's name
abbrev pub kind_text : FaultKind → List ℕ
kind_text BadField = codes "BadField"
kind_text BadName = codes "BadName"
kind_text BadSelector = codes "BadSelector"
kind_text BadPort = codes "BadPort"
kind_text BadProtocol = codes "BadProtocol"
kind_text BadCidr = codes "BadCidr"
kind_text BadExcept = codes "BadExcept"
kind_text BadAddress = codes "BadAddress"
kind_text PeerShape = codes "PeerShape"
kind_text EmptyPeers = codes "EmptyPeers"
kind_text NodePeer = codes "NodePeer"
kind_text DomainPeer = codes "DomainPeer"
kind_text BadPriority = codes "BadPriority"
kind_text BadAction = codes "BadAction"
kind_text BaselineName = codes "BaselineName"
kind_text ForeignPolicy = codes "ForeignPolicy"

-- `item 3: spec.podSelector: BadSelector`
abbrev pub item_fault_text : ObjectFault → List ℕ
item_fault_text fault = codes "item " ++ decimal fault.item ++ codes ": " ++ path_text fault.path ++ codes ": " ++ kind_text fault.kind

abbrev pub read_fault_text : ReadFault → List ℕ
read_fault_text (Bad fault) = item_fault_text fault
read_fault_text NoMemory = codes "out of memory"

-- `podSelector: BadSelector`
abbrev pub flaw_text : Flaw → List ℕ
flaw_text flaw = path_text flaw.path ++ codes ": " ++ kind_text flaw.kind

abbrev pub shape_fault_text : ShapeFault → List ℕ
shape_fault_text (part.Bad flaw) = flaw_text flaw
shape_fault_text part.NoMemory = codes "out of memory"
