-- The places of pods by their names.
use Rattle.std.specs.Prelude.{ℕ, List, Bool, ◌&&◌, Option}
use Rattle.std.specs.List.{position}
use Rattle.std.specs.Str.{bytes_eq}
use Rattle.np_model.specs.Types.{Pod}

-- whether a pod is the listed one of that name; one that a template makes is none
abbrev pub is_pod : List ℕ → List ℕ → Pod → Bool
is_pod namespace name pod = pod.listed && (bytes_eq pod.namespace namespace && bytes_eq pod.name name)

abbrev pub place_of_pod : List Pod → List ℕ → List ℕ → Option ℕ
place_of_pod pods namespace name = position (is_pod namespace name) pods
