use Rattle.std.proofs.Common.{◌≡◌, ◌++◌, drop}
use Rattle.np_reading.specs.Prelude.{KnowsLabels, contexts_from, contexts_of}
use Rattle.np_reading.proofs.context.contexts.Given as goal

-- those of the items so far, and those of the items that are left, are those of all; and what is known of namespaces is right
abbrev pub invariant-loop-place : goal.invariant-loop-place
invariant-loop-place l = record {
  contexts : l.made.items ++ contexts_from l.items l.place (drop l.place l.items) ≡ contexts_of l.items;
  known : KnowsLabels l.items l.known;
}
