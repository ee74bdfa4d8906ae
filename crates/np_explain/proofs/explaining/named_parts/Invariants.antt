use Rattle.std.proofs.Common.{◌≡◌, ◌++◌, All, map}
use Rattle.np_explain.proofs.explaining.named_parts.Given as goal
use Rattle.np_explain.specs.Prelude.{IsMarkOf, named_part}

-- the parts made so far and those that will be made of the others are all of them
abbrev pub invariant-loop-entry : goal.invariant-loop-entry
invariant-loop-entry l = record {
  made : l.parts.items ++ map (named_part l.side) l.entry-iterator.rest.items ≡ map (named_part l.side) l.fn.entries;
  marks : All (λ entry. IsMarkOf l.side entry.mark) l.entry-iterator.rest.items;
}
