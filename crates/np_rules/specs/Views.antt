-- What the ends that the code looks at stand for.
use Rattle.std.specs.Prelude.{[], unwrap_or}
use Rattle.std.specs.Option.{option_copied}
use Rattle.np_rules.specs.model.Ends.{ModelEnd, PodEnd, Contact, pod, address}
use Rattle.np_rules.specs.declared.views.ContactView.{ContactView}
use Rattle.np_rules.specs.declared.views.EndView.{EndView}
use Rattle.np_rules.specs.declared.views.EndView.TheVariants as seen
use Rattle.np_rules.specs.declared.views.PodView.{PodView}

abbrev pub pod_view : PodView → PodEnd
pod_view v = record { namespace = v.namespace.now; namespace_labels = v.namespace_labels.now; labels = v.labels.now; ports = v.ports.now; addresses = unwrap_or (option_copied v.addresses) [] }

abbrev pub end_view : EndView → ModelEnd
end_view (seen.Pod v) = pod (pod_view v)
end_view (seen.At a) = address a

abbrev pub contact_view : ContactView → Contact
contact_view v = record { far = end_view v.far; destination = end_view v.destination; family = v.family; spot = v.spot }
