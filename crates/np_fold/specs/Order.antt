-- The order of traits, which are what rules see of a pod: namespace, owner, labels, named ports and blocks.
use Rattle.std.specs.Cmp.{IsTotalOrder, nat_cmp_total, on_total, then_total}
use Rattle.std.specs.Cmp.Lexicographic.{slice_cmp, lists_total, nat_list_cmp_total}
use Rattle.std.specs.Ordering.{nat_cmp, on, ordering_then, then_cmp}
use Rattle.std.specs.declared.cmp.Ordering.{Ordering}
use Rattle.np_base.specs.Texts.{compare_texts}
use Rattle.np_conns.specs.Prelude.{proto_number}
use Rattle.np_fold.specs.Types.{Label, NamedPort, Owner, Traits}

-- by kind, and then by name
abbrev pub compare_owners : Owner → Owner → Ordering
compare_owners = then_cmp (on (λ owner. owner.kind) compare_texts) (on (λ owner. owner.name) compare_texts)

-- by name, then by protocol, and then by number
abbrev pub compare_ports : NamedPort → NamedPort → Ordering
compare_ports = then_cmp (then_cmp (on (λ port. port.name) compare_texts) (on (λ port. proto_number port.proto) nat_cmp)) (on (λ port. port.number) nat_cmp)

-- by key, and then by value
abbrev pub compare_labels : Label → Label → Ordering
compare_labels a b = ordering_then (compare_texts a.key b.key) (compare_texts a.value b.value)

-- field by field: a list goes by its first difference
abbrev pub compare_traits : Traits → Traits → Ordering
compare_traits =
    then_cmp (then_cmp (then_cmp (then_cmp
    (on (λ traits. traits.namespace) compare_texts)
    (on (λ traits. traits.owner) compare_owners))
    (on (λ traits. traits.labels) (slice_cmp compare_labels)))
    (on (λ traits. traits.ports) (slice_cmp compare_ports)))
    (on (λ traits. traits.blocks) (slice_cmp nat_cmp))

-- ---- these orders are total

owners_total : IsTotalOrder compare_owners
owners_total = then_total (on_total (λ (o : Owner). o.kind) nat_list_cmp_total) (on_total (λ (o : Owner). o.name) nat_list_cmp_total)

ports_total : IsTotalOrder compare_ports
ports_total =
    then_total (then_total (on_total (λ (p : NamedPort). p.name) nat_list_cmp_total) (on_total (λ (p : NamedPort). proto_number p.proto) nat_cmp_total))
    (on_total (λ (p : NamedPort). p.number) nat_cmp_total)

labels_total : IsTotalOrder compare_labels
labels_total = then_total (on_total (λ (l : Label). l.key) nat_list_cmp_total) (on_total (λ (l : Label). l.value) nat_list_cmp_total)

pub traits_total : IsTotalOrder compare_traits
traits_total =
    then_total (then_total (then_total (then_total
    (on_total (λ (t : Traits). t.namespace) nat_list_cmp_total)
    (on_total (λ (t : Traits). t.owner) owners_total))
    (on_total (λ (t : Traits). t.labels) (lists_total labels_total)))
    (on_total (λ (t : Traits). t.ports) (lists_total ports_total)))
    (on_total (λ (t : Traits). t.blocks) nat_list_cmp_total)
