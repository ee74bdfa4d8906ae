use Rattle.std.proofs.Common.{◌≡◌, drop, filter, fold, map}
use Rattle.std.specs.BTreeSet.{insert_key}
use Rattle.std.specs.Cmp.Lexicographic.{slice_cmp}
use Rattle.std.specs.Ordering.{nat_cmp}
use Rattle.np_exposure.specs.Prelude.{keys_on, same_side}
use Rattle.np_exposure.proofs.labels.keys_on.Given as goal

-- with the keys of the requirements that are left they are all
abbrev pub invariant-loop-mention : goal.invariant-loop-mention
invariant-loop-mention l =
    fold (insert_key (slice_cmp nat_cmp)) l.keys.keys (map (λ one. one.requirement.key) (filter (λ one. same_side one.side l.side) (drop l.mention-index l.mentions))) ≡ keys_on l.side l.mentions
