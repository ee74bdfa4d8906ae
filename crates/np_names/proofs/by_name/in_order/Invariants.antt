use Rattle.std.proofs.Common.{◌≡◌, [], fold, map, take}
use Rattle.std.specs.BTreeSet.{insert_key}
use Rattle.std.specs.List.{range_with_len}
use Rattle.np_names.specs.Counts.{HoldsCounts}
use Rattle.np_names.specs.Names.{compare_named, named}
use Rattle.np_names.proofs.by_name.in_order.Given as goal

-- the wishes so far are counted as given, and their things are in order
abbrev pub invariant-loop-place : goal.invariant-loop-place
invariant-loop-place l = record {
  given : HoldsCounts (take l.place l.wishes) l.given.entries;
  things : l.things.keys ≡ fold (insert_key compare_named) [] (map (named l.wishes) (range_with_len 0 l.place));
}
