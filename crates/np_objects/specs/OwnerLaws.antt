-- Owner references that count, in words.
use Rattle.std.specs.Prelude.{◌≡◌, ◌≢◌, ℕ, List, codes, true, Option, Ok}
use Rattle.serde_json.specs.Data.{Data}
use Rattle.np_json.specs.Prelude.{Read, listed, required}
use Rattle.np_objects.specs.ControllerKinds.{kind_name}
use Rattle.np_objects.specs.Owners.{owner_reference, owner_of}
use Rattle.np_objects.specs.Types.{Controller, ControllerKind, Dependent, OwnerRef, OwnerReference, Pod}

-- owners of that kind count: for a pod each but its node, for a controller other controllers
abbrev pub Counts : Dependent → List ℕ → Type 0
Counts Pod kind = kind ≢ codes "Node"
Counts Controller kind = (which : ControllerKind) × (kind ≡ kind_name which)

-- a reference controls the object, and counts
abbrev pub NamesOwner : Dependent → OwnerReference → Type 0
NamesOwner dependent reference = (reference.controls ≡ true) × Counts dependent reference.owner.kind

-- the owner references of an object
abbrev pub references_of : Data → Read (List OwnerReference)
references_of value = required (codes "metadata") (listed (codes "ownerReferences") owner_reference) value

-- the owner is the one that the object's references name
abbrev pub IsOwnerIn : Dependent → Data → Option OwnerRef → Type 0
IsOwnerIn dependent value owner = (references : List OwnerReference) × (references_of value ≡ Ok references) × (owner ≡ owner_of dependent references)
