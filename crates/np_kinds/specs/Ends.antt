-- Ends of packets that no rule tells apart.
use Rattle.std.specs.Prelude.{◌≡◌, ◌⊎◌}
use Rattle.np_kinds.specs.Types.{EstateLists, Pod}
use Rattle.np_fold.specs.Prelude.{IsSameKind}
use Rattle.np_rules.specs.Prelude.{ModelEnd, pod, pod_end}

-- two ends are pods of one kind, in namespaces of the same labels
pub record ArePodsOfOneKind (lists : EstateLists) (one other : ModelEnd) : Type 0 where
  pub first : Pod
  pub second : Pod
  pub one_is : one ≡ pod (pod_end first)
  pub other_is : other ≡ pod (pod_end second)
  pub kind : IsSameKind lists first second
  pub namespace : first.namespace_labels ≡ second.namespace_labels

-- two ends are such pods, or one and the same end
abbrev pub AreOneKind : EstateLists → ModelEnd → ModelEnd → Type 0
AreOneKind lists one other = ArePodsOfOneKind lists one other ⊎ (one ≡ other)
