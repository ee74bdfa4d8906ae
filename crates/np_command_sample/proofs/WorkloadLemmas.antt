-- How many workloads the sample has. For `samples_have_few_workloads`.
use Rattle.std.proofs.Common.{ℕ, ◌≤◌, length, arith}
use Rattle.std.proofs.lemmas.List.FromFn.{length-map-range_with_len}
use Rattle.np_classes.proofs.Relations.{firsts-le-count}
use Rattle.np_command_sample.specs.Prelude.{EstateLists, estate_pod, sample_estate}
use Rattle.np_fold.specs.Prelude.{pods_alike, workload_count}

-- at most as many as pods
workload_count-le-pods : (lists : EstateLists) → workload_count lists ≤ length lists.pods
workload_count-le-pods lists = firsts-le-count (pods_alike lists) (length lists.pods)

pub workload_count-sample : (n : ℕ) → workload_count (sample_estate n) ≤ n
workload_count-sample n = omega (arith, workload_count-le-pods (sample_estate n), length-map-range_with_len estate_pod 0 n)
