-- Valid Services and Ingresses (Kubernetes API reference, ServiceSpec, ServicePort, IngressSpec, IngressRule, HTTPIngressPath,
-- IngressBackend, IngressServiceBackend and ServiceBackendPort): of these what says something of connections.
use Rattle.std.specs.Prelude.{◌≡◌, ◌⊎◌, ℕ, List, [], None, codes}
use Rattle.serde_json.specs.Data.{Data}
use Rattle.np_json.specs.Prelude.{member_of}
use Rattle.np_meaning.specs.ValidMembers.{Has, IsAny, IsDnsLabel, IsLabel, IsListOf, IsMapOf, IsObject, IsText, IsTyped, MayHave}
use Rattle.np_meaning.specs.ValidPolicies.{IsOwnMeta, IsPortName, IsProtocol, IsSomePort}

-- ---- services

-- the name of a port, which may be empty where there is one alone
abbrev pub IsServicePortName : List ℕ → Type 0
IsServicePortName text = (text ≡ []) ⊎ IsDnsLabel text

-- a port of the pods, by its number or its name
abbrev pub IsTarget : Data → Type 0
IsTarget value = IsSomePort value ⊎ IsText IsPortName value

pub record IsValidServicePort (value : Data) : Type 0 where
  pub object : IsObject value
  pub name : MayHave (codes "name") (IsText IsServicePortName) value
  pub protocol : MayHave (codes "protocol") (IsText IsProtocol) value
  pub port : Has (codes "port") IsSomePort value
  pub target : MayHave (codes "targetPort") IsTarget value

pub record IsValidServiceSpec (value : Data) : Type 0 where
  pub object : IsObject value
  pub type : MayHave (codes "type") (IsText IsAny) value
  pub address : MayHave (codes "clusterIP") (IsText IsAny) value
  pub selector : MayHave (codes "selector") (IsMapOf IsLabel) value
  pub ports : MayHave (codes "ports") (IsListOf IsValidServicePort) value

pub record IsValidService (value : Data) : Type 0 where
  pub type : IsTyped (codes "v1") (codes "Service") value
  pub metadata : Has (codes "metadata") IsOwnMeta value
  pub spec : Has (codes "spec") IsValidServiceSpec value

-- ---- ingresses

-- the number of a port, without a name
pub record IsNumberedBackend (value : Data) : Type 0 where
  pub number : Has (codes "number") IsSomePort value
  pub no_name : member_of (codes "name") value ≡ None

-- the name of a port, without a number
pub record IsNamedBackend (value : Data) : Type 0 where
  pub name : Has (codes "name") (IsText IsDnsLabel) value
  pub no_number : member_of (codes "number") value ≡ None

pub record IsValidBackendPort (value : Data) : Type 0 where
  pub object : IsObject value
  pub port : IsNumberedBackend value ⊎ IsNamedBackend value

pub record IsValidBackendService (value : Data) : Type 0 where
  pub object : IsObject value
  pub name : Has (codes "name") (IsText IsDnsLabel) value
  pub port : Has (codes "port") IsValidBackendPort value

-- a service, without a resource
pub record IsServiceBackend (value : Data) : Type 0 where
  pub service : Has (codes "service") IsValidBackendService value
  pub no_resource : member_of (codes "resource") value ≡ None

-- a resource, without a service
pub record IsResourceBackend (value : Data) : Type 0 where
  pub resource : Has (codes "resource") IsObject value
  pub no_service : member_of (codes "service") value ≡ None

pub record IsValidBackend (value : Data) : Type 0 where
  pub object : IsObject value
  pub leads : IsServiceBackend value ⊎ IsResourceBackend value

pub record IsValidPath (value : Data) : Type 0 where
  pub object : IsObject value
  pub backend : Has (codes "backend") IsValidBackend value

pub record IsValidHttp (value : Data) : Type 0 where
  pub object : IsObject value
  pub paths : MayHave (codes "paths") (IsListOf IsValidPath) value

pub record IsValidIngressRule (value : Data) : Type 0 where
  pub object : IsObject value
  pub http : MayHave (codes "http") IsValidHttp value

pub record IsValidIngressSpec (value : Data) : Type 0 where
  pub object : IsObject value
  pub default : MayHave (codes "defaultBackend") IsValidBackend value
  pub rules : MayHave (codes "rules") (IsListOf IsValidIngressRule) value

pub record IsValidIngress (value : Data) : Type 0 where
  pub type : IsTyped (codes "networking.k8s.io/v1") (codes "Ingress") value
  pub metadata : Has (codes "metadata") IsOwnMeta value
  pub spec : MayHave (codes "spec") IsValidIngressSpec value
