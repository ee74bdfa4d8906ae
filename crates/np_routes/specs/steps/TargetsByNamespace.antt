-- Services with their targets as they are kept by namespace.
use Rattle.std.specs.Prelude.{ℕ, ◌≡◌, List, [], Bool, ◌&&◌, Vec}
use Rattle.std.specs.BTreeMap.{BTreeMap, get_by}
use Rattle.std.specs.Borrow.{Bor}
use Rattle.std.specs.Cmp.Lexicographic.{slice_cmp}
use Rattle.std.specs.List.{list_any}
use Rattle.std.specs.Option.{option_map_or}
use Rattle.std.specs.Ordering.{nat_cmp}
use Rattle.std.specs.declared.alloc.Global.{Global}
use Rattle.np_routes.specs.Types.{EstateLists, ServiceTargets}
use Rattle.np_routes.specs.Routes.{leads_to, routes_in}
use Rattle.np_routes.specs.Services.{serves}
use Rattle.np_routes.specs.steps.PortSets.{at_pod}
use Rattle.np_rules.specs.Prelude.{PodEnd}

-- whether a service serves a pod, and its targets have a port of the pod
abbrev pub target_leads : PodEnd → ℕ → ServiceTargets → Bool
target_leads p number one = serves one.service.now p && at_pod one.targets p number

-- the services that are kept of a namespace
abbrev pub targets_in : BTreeMap (Bor (List ℕ)) (Vec ServiceTargets Global) → List ℕ → List ServiceTargets
targets_in kept namespace = option_map_or (λ services. services.items) (get_by (λ key. slice_cmp nat_cmp namespace key.now) kept) []

-- those of a pod's namespace lead to the pod where the routes of its ingresses do
abbrev pub HoldsTargets : EstateLists → BTreeMap (Bor (List ℕ)) (Vec ServiceTargets Global) → Type 0
HoldsTargets lists kept = (p : PodEnd) (number : ℕ) → list_any (target_leads p number) (targets_in kept p.namespace) ≡ list_any (leads_to p number) (routes_in lists p.namespace)
