use Rattle.std.proofs.Common.{◌≡◌, drop, filter, flat_map, fold}
use Rattle.std.specs.BTreeSet.{insert_key}
use Rattle.std.specs.Cmp.Lexicographic.{slice_cmp}
use Rattle.std.specs.Ordering.{nat_cmp}
use Rattle.np_exposure.specs.Prelude.{looks_at, values_at}
use Rattle.np_exposure.proofs.labels.values_at.Given as goal

-- with the values of the requirements that are left they are all
abbrev pub invariant-loop-mention : goal.invariant-loop-mention
invariant-loop-mention l =
    fold (insert_key (slice_cmp nat_cmp)) l.values.keys (flat_map (λ asked. asked.requirement.values) (filter (looks_at l.side l.key) (drop l.mention-index l.mentions)))
    ≡ values_at l.side l.key l.mentions
