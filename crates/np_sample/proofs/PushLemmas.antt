-- Objects that are pushed one after another. For `add_namespaces`, `add_net_policies` and `add_pods`.
use Rattle.std.proofs.Common.{◌≡◌, ℕ, ◌+◌, List, [], ◌∷◌, ◌++◌, map, sym, ap, ap₂, ◌∙◌, append_assoc, arith}
use Rattle.std.proofs.lemmas.List.{map-append}
use Rattle.std.proofs.lemmas.List.FromFn.{map-range_with_len_more}
use Rattle.std.specs.List.{range_with_len}
use Rattle.serde_json.specs.Data.{Data}
use Rattle.serde_json.specs.View.{view}
use Rattle.serde_json.specs.declared.value.Value.{Value}

-- one more
pub pushed : (f : ℕ → Data) (before : List Data) (values : List Value) (value : Value) (j : ℕ) → map view values ≡ before ++ map f (range_with_len 0 j) → view value ≡ f j →
    map view (values ++ value ∷ []) ≡ before ++ map f (range_with_len 0 (j + 1))
pushed f before values value j so_far is =
    map-append view values (value ∷ []) ∙ ap₂ (λ (a b : List Data). a ++ b) so_far (ap (λ (d : Data). d ∷ []) is)
    ∙ append_assoc before (map f (range_with_len 0 j)) (f j ∷ []) ∙ ap (λ (more : List Data). before ++ more) (sym (map-range_with_len_more f 0 j j (omega arith)))
