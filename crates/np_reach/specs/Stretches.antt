-- Pods that stand together.
use Rattle.std.specs.Prelude.{ℕ, ◌≡◌, All, List, Some, length, slice_get, take}
use Rattle.std.specs.List.{flat_map}
use Rattle.np_reach.specs.Namespaces.{AreOfOneNamespace}
use Rattle.np_reach.specs.declared.stretches.Stretch.{Stretch}
use Rattle.np_rules.specs.Prelude.{pod_end}

-- the pods of a stretch are all of one namespace
abbrev pub IsStretch : Stretch → Type 0
IsStretch stretch = All (λ far. AreOfOneNamespace (pod_end stretch.one.now) (pod_end far.now)) stretch.pods.now

-- each begins where those before it end
abbrev pub FollowOneAnother : List Stretch → Type 0
FollowOneAnother stretches = (number : ℕ) (stretch : Stretch) → slice_get stretches number ≡ Some stretch → stretch.from ≡ length (flat_map (λ one. one.pods.now) (take number stretches))
