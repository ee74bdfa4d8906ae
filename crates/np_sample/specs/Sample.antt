-- The sample cluster: a `v1` List of its objects, and its text.
use Rattle.std.specs.Prelude.{ℕ, List, [], ◌∷◌, ◌++◌, codes, map}
use Rattle.std.specs.List.{range_with_len}
use Rattle.serde_json.specs.Data.{Data, string}
use Rattle.serde_json.specs.Written.{compact_text}
use Rattle.np_written.specs.Values.{object_with, list_with}
use Rattle.np_sample.specs.Objects.{namespace_count, sample_admin_policy, sample_namespace, sample_net_policy, sample_pod}

-- the objects of the sample cluster, where it has n pods
abbrev pub sample_objects : ℕ → List Data
sample_objects n =
    map sample_namespace (range_with_len 0 namespace_count) ++ map sample_pod (range_with_len 0 n)
    ++ map sample_net_policy (range_with_len 0 namespace_count) ++ sample_admin_policy ∷ []

-- a `v1` List of these objects
abbrev pub list_object : List Data → Data
list_object objects = object_with (
    (codes "apiVersion", string (codes "v1")) ∷ (codes "items", list_with objects) ∷ (codes "kind", string (codes "List")) ∷ [])

abbrev pub sample_value : ℕ → Data
sample_value n = list_object (sample_objects n)

-- the text of `serde_json`, without spaces
unfoldable pub sample_text : ℕ → List ℕ
sample_text n = compact_text (sample_value n)
