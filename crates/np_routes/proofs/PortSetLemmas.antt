-- Sets of numbers and names of ports. For `PortSet::add_all`, `PortSet::add_name` and 3 more.
use Rattle.std.proofs.Common.{◌≡◌, ℕ, List, Bool, true, false, ◌&&◌, ◌||◌, ◌==◌, Bor, Option, Some, None, Ordering, refl, sym, ap, ◌∙◌}
use Rattle.std.specs.BTreeSet.{BTreeSet, contains}
use Rattle.std.specs.Cmp.Lexicographic.{slice_cmp}
use Rattle.std.specs.List.{list_any}
use Rattle.std.specs.Option.{option_map_or}
use Rattle.std.specs.Ordering.{is_eq, nat_cmp}
use Rattle.std.specs.Prelude.{cond}
use Rattle.std.specs.Str.{bytes_eq}
use Rattle.std.proofs.lemmas.Map.Text.{is_eq-slice_cmp}
use Rattle.std.proofs.Math.Bool.{or-false}
use Rattle.np_base.proofs.Bools.{or-last, or-leftwards, eq-swap}
use Rattle.np_conns.specs.Prelude.{same_proto}
use Rattle.np_routes.specs.Prelude.{Named, Number, PortName, PortSet, ServicePort, Tcp, at_pod, has_own, has_port, has_text, held_at, is_named_by, is_named_in, is_pod_port, is_same_port}
use Rattle.np_routes.proofs.AnyLemmas.{bytes-swap, list_any-none, list_any-or, or-swap}
use Rattle.np_rules.specs.Prelude.{PodEnd}
use Rattle.np_base.proofs.Lists.{list_any-agrees}

-- ---- what is added

abbrev pub lent : List ℕ → Bor (List ℕ)
lent text = record { ref_ptr = (0, 0); now = text }

-- the order of two names
abbrev pub compare_texts : Bor (List ℕ) → Bor (List ℕ) → Ordering
compare_texts one other = slice_cmp nat_cmp one.now other.now

or-here : (here before : Bool) → cond here true before ≡ (before || here)
or-here true true = refl
or-here true false = refl
or-here false true = refl
or-here false false = refl

-- a set of names and one more
pub name-added : (numbers : BTreeSet ℕ) (before after : BTreeSet (Bor (List ℕ))) (name : Bor (List ℕ)) →
    ((q : Bor (List ℕ)) → contains compare_texts after q ≡ cond (is_eq (compare_texts name q)) true (contains compare_texts before q))
    → (other : PortName) → has_port (record { numbers = numbers; names = after }) other ≡ (has_port (record { numbers = numbers; names = before }) other || is_same_port (Named name.now) other)
name-added numbers before after name updates (Number other) = sym (or-false (contains nat_cmp numbers other))
name-added numbers before after name updates (Named other) =
    updates (lent other)
    ∙ ap (λ (here : Bool). cond here true (has_text before other)) (is_eq-slice_cmp name.now other)
    ∙ or-here (bytes_eq name.now other) (has_text before other)

-- two sets together
pub sets-joined : (before other after : PortSet) → ((number : ℕ) → contains nat_cmp after.numbers number ≡ (contains nat_cmp before.numbers number || contains nat_cmp other.numbers number)) →
    ((name : List ℕ) → has_text after.names name ≡ (has_text before.names name || has_text other.names name))
    → (port : PortName) → has_port after port ≡ (has_port before port || has_port other port)
sets-joined before other after numbers names (Number number) = numbers number
sets-joined before other after numbers names (Named name) = names name

-- ---- the number and the name of a port of a service

abbrev held_own : (PortName → Bool) → ℕ → Option (List ℕ) → Bool
held_own holds number name = holds (Number number) || option_map_or (λ own. holds (Named own)) name false

abbrev named_own : PortName → ℕ → Option (List ℕ) → Bool
named_own (Number named) number name = number == named
named_own (Named named) number name = option_map_or (λ own. bytes_eq own named) name false

-- they are held after one more is where they were, or are named by it
own-held : (before after : PortName → Bool) (named : PortName) (number : ℕ) (name : Option (List ℕ)) → ((other : PortName) → after other ≡ (before other || is_same_port named other))
    → held_own after number name ≡ (held_own before number name || named_own named number name)
own-held before after (Number named) number None added =
    ap (λ (b : Bool). b || false) (added (Number number) ∙ ap (λ (b : Bool). before (Number number) || b) (eq-swap named number)) ∙ or-last (before (Number number)) (number == named) false
own-held before after (Number named) number (Some own) added =
    ap (λ (b : Bool). b || after (Named own)) (added (Number number) ∙ ap (λ (b : Bool). before (Number number) || b) (eq-swap named number))
    ∙ ap (λ (b : Bool). (before (Number number) || (number == named)) || b) (added (Named own) ∙ or-false (before (Named own)))
    ∙ or-last (before (Number number)) (number == named) (before (Named own))
own-held before after (Named named) number None added = ap (λ (b : Bool). b || false) (added (Number number))
own-held before after (Named named) number (Some own) added =
    ap (λ (b : Bool). b || after (Named own)) (added (Number number) ∙ or-false (before (Number number)))
    ∙ ap (λ (b : Bool). before (Number number) || b) (added (Named own) ∙ ap (λ (b : Bool). before (Named own) || b) (bytes-swap named own))
    ∙ or-leftwards (before (Number number)) (before (Named own)) (bytes_eq own named)

named-own : (named : PortName) (port : ServicePort) → named_own named port.port port.name ≡ is_named_by named port
named-own (Number named) port = refl
named-own (Named named) port = refl

pub own-added : (before after : PortSet) (named : PortName) (port : ServicePort) → ((other : PortName) → has_port after other ≡ (has_port before other || is_same_port named other)) →
    has_own after port ≡ (has_own before port || is_named_by named port)
own-added before after named port added =
    own-held (has_port before) (has_port after) named port.port port.name added ∙ ap (λ (b : Bool). has_own before port || b) (named-own named port)

-- nothing is held by an empty set
pub own-none : (set : PortSet) (port : ServicePort) → ((other : PortName) → has_port set other ≡ false) → has_own set port ≡ false
own-none set port none = ap (λ (b : Bool). b || option_map_or (λ own. has_port set (Named own)) port.name false) (none (Number port.port)) ∙ by port.name
  where
    by : (name : Option (List ℕ)) → option_map_or (λ own. has_port set (Named own)) name false ≡ false
    by None = refl
    by (Some own) = none (Named own)

-- ---- at a pod

and-split : (a b t : Bool) → ((a || b) && t) ≡ ((a && t) || (b && t))
and-split true true true = refl
and-split true true false = refl
and-split true false true = refl
and-split true false false = refl
and-split false b t = refl

-- what is held in one way or another leads where one or the other does
held-or : (one other both : PortName → Bool) (p : PodEnd) (number : ℕ) → ((port : PortName) → both port ≡ (one port || other port)) →
    held_at both p number ≡ (held_at one p number || held_at other p number)
held-or one other both p number is =
    ap (λ (b : Bool). b || list_any (is_named_in both number) p.ports) (is (Number number))
    ∙ ap (λ (b : Bool). (one (Number number) || other (Number number)) || b) (list_any-or (is_named_in one number) (is_named_in other number) (is_named_in both number) p.ports (λ port.
    ap (λ (b : Bool). b && (same_proto Tcp port.proto && (number == port.number))) (is (Named port.name)) ∙ and-split (one (Named port.name)) (other (Named port.name))
    (same_proto Tcp port.proto && (number == port.number))))
    ∙ or-swap (one (Number number)) (other (Number number)) (list_any (is_named_in one number) p.ports) (list_any (is_named_in other number) p.ports)

pub at_pod-joined : (before other after : PortSet) (p : PodEnd) (number : ℕ) → ((port : PortName) → has_port after port ≡ (has_port before port || has_port other port)) →
    at_pod after p number ≡ (at_pod before p number || at_pod other p number)
at_pod-joined before other after p number is = held-or (has_port before) (has_port other) (has_port after) p number is

-- one alone leads where it names a port of the pod
held-one : (named : PortName) (p : PodEnd) (number : ℕ) → held_at (is_same_port named) p number ≡ is_pod_port named p number
held-one (Number own) p number = ap (λ (b : Bool). (own == number) || b) (list_any-none (is_named_in (is_same_port (Number own)) number) p.ports (λ port. refl)) ∙ or-false (own == number)
held-one (Named name) p number =
    list_any-agrees (is_named_in (is_same_port (Named name)) number) (λ port. bytes_eq port.name name && (same_proto Tcp port.proto && (number == port.number)))
    (λ port. ap (λ (b : Bool). b && (same_proto Tcp port.proto && (number == port.number))) (bytes-swap name port.name)) p.ports

pub at_pod-added : (before after : PortSet) (named : PortName) (p : PodEnd) (number : ℕ) → ((other : PortName) → has_port after other ≡ (has_port before other || is_same_port named other)) →
    at_pod after p number ≡ (at_pod before p number || is_pod_port named p number)
at_pod-added before after named p number added =
    held-or (has_port before) (is_same_port named) (has_port after) p number added ∙ ap (λ (b : Bool). at_pod before p number || b) (held-one named p number)

-- the empty set leads nowhere
pub at_pod-none : (set : PortSet) (p : PodEnd) (number : ℕ) → ((port : PortName) → has_port set port ≡ false) → at_pod set p number ≡ false
at_pod-none set p number none =
    ap (λ (b : Bool). b || list_any (is_named_in (has_port set) number) p.ports) (none (Number number))
    ∙ list_any-none (is_named_in (has_port set) number) p.ports (λ port. ap (λ (b : Bool). b && (same_proto Tcp port.proto && (number == port.number))) (none (Named port.name)))
