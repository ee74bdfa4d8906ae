-- No number of a policy is a float. For `print_policy`.
use Rattle.std.proofs.Common.{◌≡◌, ℕ, List, [], ◌∷◌, ◌++◌, ◌==◌, Bool, true, false, map, Option, Some, None, codes, if◌then◌else◌, is_some, option_map, refl}
use Rattle.std.proofs.lemmas.Bool.{or_parts}
use Rattle.serde_json.specs.Data.{Data, number, string, unsigned}
use Rattle.serde_json.specs.View.{items_of}
use Rattle.serde_json.specs.Written.{has_float, items_have_float, members_have_float}
use Rattle.np_written.specs.Values.{members_with, list_with}
use Rattle.np_manifests.specs.Types.{Block, Direction, Egress, Ingress, Named, NetPeer, NetPolicy, NetPort, NetRule, Pods, Requirement, Selector, Span}
use Rattle.np_manifests.specs.Manifests as manifests
use Rattle.np_manifests.specs.Members.{if_given, if_some}

-- ---- lists and members

abbrev HasNone : Data → Type 0
HasNone value = has_float value ≡ false

abbrev HaveNone : List (List ℕ × Data) → Type 0
HaveNone entries = members_have_float (members_with entries) ≡ false

none-map : {X : Type 0} (f : X → Data) → ((x : X) → HasNone (f x)) → (xs : List X) → items_have_float (items_of (map f xs)) ≡ false
none-map f none [] = refl
none-map f none (x ∷ xs) = rw (none x) (none-map f none xs)

none-some : {X : Type 0} (name : List ℕ) (f : X → Data) → ((x : X) → HasNone (f x)) → (xs : List X) → HaveNone (if_some name (map f xs))
none-some name f none [] = refl
none-some name f none (x ∷ xs) = rw (none x, none-map f none xs) refl

none-given : {X : Type 0} (name : List ℕ) (f : X → Data) → ((x : X) → HasNone (f x)) → (o : Option X) → HaveNone (if_given name (option_map f o))
none-given name f none None = refl
none-given name f none (Some x) = rw (none x) refl

none-append : (entries others : List (List ℕ × Data)) → HaveNone entries → HaveNone others → HaveNone (entries ++ others)
none-append [] others first second = second
none-append (entry ∷ entries) others first second =
    let parts = or_parts (has_float entry.1) (members_have_float (members_with entries)) first in
    rw parts.0 (none-append entries others parts.1 second)

-- ---- the parts of a policy

expression-none : (one : Requirement) → HasNone (manifests.expression_data one)
expression-none one = none-some (codes "values") string (λ s. refl) one.values

selector-none : (one : Selector) → HasNone (manifests.selector_data one)
selector-none one = none-some (codes "matchExpressions") manifests.expression_data expression-none one.requirements

end-none : (lo hi : ℕ) → HaveNone (manifests.end_member lo hi)
end-none lo hi = elim (lo == hi) as (λ b. HaveNone (if b then [] else (codes "endPort", number (unsigned hi)) ∷ [])) [ true ↦ refl | false ↦ refl ]

port-none : (one : NetPort) → HasNone (manifests.port_data one)
port-none (Span proto lo hi) = none-append (manifests.end_member lo hi) _ (end-none lo hi) refl
port-none (Named proto name) = refl

peer-none : (one : NetPeer) → HasNone (manifests.peer one)
peer-none (Pods namespaces pods) =
    none-append (if_given (codes "namespaceSelector") (option_map manifests.selector_data namespaces)) (if_given (codes "podSelector") (option_map manifests.selector_data pods))
    (none-given (codes "namespaceSelector") manifests.selector_data selector-none namespaces) (none-given (codes "podSelector") manifests.selector_data selector-none pods)
peer-none (Block cidr excepts) = rw (none-some (codes "except") manifests.block_data (λ c. refl) excepts) refl

rule-none : (direction : Direction) (one : NetRule) → HasNone (manifests.rule_data direction one)
rule-none Ingress one =
    none-append (if_some (codes "from") (map manifests.peer one.peers)) (if_some (codes "ports") (map manifests.port_data one.ports))
    (none-some (codes "from") manifests.peer peer-none one.peers) (none-some (codes "ports") manifests.port_data port-none one.ports)
rule-none Egress one =
    none-append (if_some (codes "ports") (map manifests.port_data one.ports)) (if_some (codes "to") (map manifests.peer one.peers))
    (none-some (codes "ports") manifests.port_data port-none one.ports) (none-some (codes "to") manifests.peer peer-none one.peers)

rules-none : (direction : Direction) (all : List NetRule) → HasNone (manifests.rules direction all)
rules-none direction all = none-map (manifests.rule_data direction) (rule-none direction) all

types-none : (ingress egress : Bool) → HasNone (list_with (manifests.type_if ingress (codes "Ingress") ++ manifests.type_if egress (codes "Egress")))
types-none true true = refl
types-none true false = refl
types-none false true = refl
types-none false false = refl

spec-none : (one : NetPolicy) → HasNone (manifests.spec one)
spec-none one =
    let egress = if_given (codes "egress") (option_map (manifests.rules Egress) one.egress) in
    let ingress = if_given (codes "ingress") (option_map (manifests.rules Ingress) one.ingress) in
    none-append (egress ++ ingress) ((codes "podSelector", manifests.selector_data one.subject) ∷ (codes "policyTypes", manifests.types one) ∷ [])
    (none-append egress ingress (none-given (codes "egress") (manifests.rules Egress) (rules-none Egress) one.egress)
    (none-given (codes "ingress") (manifests.rules Ingress) (rules-none Ingress) one.ingress))
    (rw (selector-none one.subject, types-none (is_some one.ingress) (is_some one.egress)) refl)

pub has_float-policy : (one : NetPolicy) → has_float (manifests.policy one) ≡ false
has_float-policy one = rw (spec-none one) refl
