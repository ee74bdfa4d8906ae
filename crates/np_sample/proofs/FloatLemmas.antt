-- No number of the sample is a float. For `sample`.
use Rattle.std.proofs.Common.{◌≡◌, ℕ, List, [], ◌∷◌, false, refl}
use Rattle.std.specs.List.{AllByRecursion}
use Rattle.serde_json.specs.Data.{Data}
use Rattle.serde_json.specs.View.{items_of}
use Rattle.serde_json.specs.Written.{has_float, items_have_float}
use Rattle.np_sample.specs.Prelude.{sample_objects, sample_value}
use Rattle.np_sample.proofs.ObjectLemmas.{all-objects}

no_items_float : (values : List Data) → AllByRecursion (λ (value : Data). has_float value ≡ false) values → items_have_float (items_of values) ≡ false
no_items_float [] all = refl
no_items_float (value ∷ values) all = rw all.0 (no_items_float values all.1)

pub has_float-sample : (n : ℕ) → has_float (sample_value n) ≡ false
has_float-sample n =
    let each = all-objects (λ (value : Data). has_float value ≡ false) n (λ j within. refl) (λ i within. refl) (λ j within. refl) refl in
    rw (no_items_float (sample_objects n) each) refl
