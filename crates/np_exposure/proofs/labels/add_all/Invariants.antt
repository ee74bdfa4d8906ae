use Rattle.std.proofs.Common.{◌≡◌, drop, fold}
use Rattle.std.specs.BTreeSet.{insert_key}
use Rattle.std.specs.Cmp.Lexicographic.{slice_cmp}
use Rattle.std.specs.Ordering.{nat_cmp}
use Rattle.np_exposure.proofs.labels.add_all.Given as goal

-- with the texts that are left they are all
abbrev pub invariant-loop-text : goal.invariant-loop-text
invariant-loop-text l = fold (insert_key (slice_cmp nat_cmp)) l.set.keys (drop l.text-index l.texts) ≡ fold (insert_key (slice_cmp nat_cmp)) l.fn.set.keys l.texts
