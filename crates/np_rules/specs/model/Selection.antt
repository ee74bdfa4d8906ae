-- Which pods a policy is about.
use Rattle.std.specs.Prelude.{Bool, ◌&&◌}
use Rattle.std.specs.Str.{bytes_eq}
use Rattle.np_labels.specs.Prelude.{meets_selector}
use Rattle.np_model.specs.declared.admin_policy.Subject.{Subject}
use Rattle.np_rules.specs.Types.{NetPolicy}
use Rattle.np_rules.specs.model.Ends.{PodEnd}

-- A NetworkPolicy selects the pods of its own namespace whose labels meet its subject.
abbrev pub net_selects : NetPolicy → PodEnd → Bool
net_selects policy p = bytes_eq policy.namespace p.namespace && meets_selector policy.subject p.labels

-- An admin policy and the baseline select the pods whose namespace's labels and whose own labels meet the subject.
abbrev pub subject_selects : Subject → PodEnd → Bool
subject_selects subject p = meets_selector subject.namespaces p.namespace_labels && meets_selector subject.pods p.labels
