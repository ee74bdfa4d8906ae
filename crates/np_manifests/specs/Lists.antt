-- The texts of policies, and of a `v1` List of them.
use Rattle.std.specs.Prelude.{ℕ, List, [], ◌∷◌, ◌++◌, codes, map}
use Rattle.serde_json.specs.Data.{Data, string}
use Rattle.serde_json.specs.Written.{compact_text}
use Rattle.np_written.specs.Values.{object_with, list_with}
use Rattle.np_manifests.specs.Types.{NetPolicy}
use Rattle.np_manifests.specs.Manifests.{policy}

-- the text of `serde_json`, without spaces
unfoldable pub policy_text : NetPolicy → List ℕ
policy_text one = compact_text (policy one)

-- the List of these policies
abbrev pub list_data : List NetPolicy → Data
list_data policies = object_with (
    (codes "apiVersion", string (codes "v1")) ∷ (codes "items", list_with (map policy policies)) ∷ (codes "kind", string (codes "List")) ∷ [])

-- the text of the List of these policies
unfoldable pub manifest_text : List NetPolicy → List ℕ
manifest_text policies = compact_text (list_data policies)

-- the text of the List of these policies, and a line feed
abbrev pub list_line : List NetPolicy → List ℕ
list_line policies = manifest_text policies ++ codes "\n"
