-- Valid Pods (Kubernetes API reference, PodSpec, Container, ContainerPort, PodStatus, PodIP and OwnerReference): of these what says
-- something of connections.
use Rattle.std.specs.Prelude.{◌≡◌, ◌≤◌, ◌⊎◌, ◌==◌, ◌||◌, ℕ, List, [], Bool, length, true, codes}
use Rattle.std.specs.List.{list_all}
use Rattle.serde_json.specs.Data.{Data}
use Rattle.np_addr.specs.Prelude.{IsAddressText}
use Rattle.np_meaning.specs.Types.{Address}
use Rattle.np_meaning.specs.ValidMembers.{Has, IsAny, IsDnsLabel, IsFlag, IsLabel, IsListOf, IsMapOf, IsObject, IsSubdomain, IsText, IsTyped, MayHave, is_alphanumeric}
use Rattle.np_meaning.specs.ValidPolicies.{IsPortName, IsProtocol, IsSomePort}

-- ---- metadata

-- the name of a kind: letters, digits and `-`
abbrev pub is_kind_byte : ℕ → Bool
is_kind_byte byte = is_alphanumeric byte || byte == 45

pub record IsKindName (text : List ℕ) : Type 0 where
  pub some : 1 ≤ length text
  pub bytes : list_all is_kind_byte text ≡ true

pub record IsValidOwner (value : Data) : Type 0 where
  pub object : IsObject value
  pub kind : Has (codes "kind") (IsText IsKindName) value
  pub name : Has (codes "name") (IsText IsSubdomain) value
  pub controls : MayHave (codes "controller") IsFlag value

-- the metadata of a pod, and of a controller of pods
pub record IsOwnedMeta (value : Data) : Type 0 where
  pub object : IsObject value
  pub name : Has (codes "name") (IsText IsSubdomain) value
  pub namespace : MayHave (codes "namespace") (IsText IsDnsLabel) value
  pub labels : MayHave (codes "labels") (IsMapOf IsLabel) value
  pub owners : MayHave (codes "ownerReferences") (IsListOf IsValidOwner) value

-- ---- spec

pub record IsValidContainerPort (value : Data) : Type 0 where
  pub object : IsObject value
  pub name : MayHave (codes "name") (IsText IsPortName) value
  pub protocol : MayHave (codes "protocol") (IsText IsProtocol) value
  pub number : Has (codes "containerPort") IsSomePort value

pub record IsValidContainer (value : Data) : Type 0 where
  pub object : IsObject value
  pub ports : MayHave (codes "ports") (IsListOf IsValidContainerPort) value

pub record IsValidPodSpec (value : Data) : Type 0 where
  pub object : IsObject value
  pub containers : MayHave (codes "containers") (IsListOf IsValidContainer) value
  pub host_network : MayHave (codes "hostNetwork") IsFlag value

-- ---- status

-- an address, as RFC 4291 has its texts, or the empty text where there is none yet
abbrev pub IsIp : List ℕ → Type 0
IsIp text = (text ≡ []) ⊎ ((address : Address) × IsAddressText text address)

pub record IsValidPodIp (value : Data) : Type 0 where
  pub object : IsObject value
  pub ip : MayHave (codes "ip") (IsText IsIp) value

pub record IsValidPodStatus (value : Data) : Type 0 where
  pub object : IsObject value
  pub phase : MayHave (codes "phase") (IsText IsAny) value
  pub first : MayHave (codes "podIP") (IsText IsIp) value
  pub all : MayHave (codes "podIPs") (IsListOf IsValidPodIp) value

-- ---- pods

pub record IsValidPod (value : Data) : Type 0 where
  pub type : IsTyped (codes "v1") (codes "Pod") value
  pub metadata : Has (codes "metadata") IsOwnedMeta value
  pub spec : Has (codes "spec") IsValidPodSpec value
  pub status : MayHave (codes "status") IsValidPodStatus value
