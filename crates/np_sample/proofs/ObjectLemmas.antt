-- What holds of each object of the sample. For FloatLemmas and crates above.
use Rattle.std.proofs.Common.{ℕ, ◌<◌}
use Rattle.std.specs.List.{AllByRecursion}
use Rattle.serde_json.specs.Data.{Data}
use Rattle.np_sample.specs.Prelude.{namespace_count, sample_admin_policy, sample_namespace, sample_net_policy, sample_objects, sample_pod}
use Rattle.np_sample.proofs.ListLemmas.{all-four}

pub all-objects : (P : Data → Type 0) (n : ℕ) → ((j : ℕ) → j < namespace_count → P (sample_namespace j)) → ((i : ℕ) → i < n → P (sample_pod i)) → ((j : ℕ) → j < namespace_count → P (sample_net_policy j)) →
    P sample_admin_policy → AllByRecursion P (sample_objects n)
all-objects P n namespaces pods policies admin = all-four P sample_namespace sample_pod sample_net_policy sample_admin_policy n namespaces pods policies admin
