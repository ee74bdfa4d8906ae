use Rattle.std.proofs.Common.{◌≡◌, ◌∷◌}
use Rattle.np_objects.specs.Prelude.{HaveSame, distinct_addresses}
use Rattle.np_objects.proofs.distinct_addresses.distinct.Given as goal

-- the addresses so far are kept, each once, and are known
abbrev pub invariant-loop-address : goal.invariant-loop-address
invariant-loop-address l = record {
  kept : l.kept ≡ distinct_addresses (l.fn.first ∷ l.yielded);
  known : HaveSame l.kept l.known.keys;
}
