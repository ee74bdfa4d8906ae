use Rattle.std.proofs.Common.{◌≡◌, ◌+◌, ℕ, List, map, take, is_some, sum_by, length}
use Rattle.np_frame.proofs.SourcesLemmas.{RoseBy}
use Rattle.np_io.specs.Prelude.{BeganNext}
use Rattle.np_frame.specs.Prelude.{AreTold, HandedOut}
use Rattle.np_frame.specs.declared.sources.TheConstants.{SIZE_LIMIT}
use Rattle.np_frame.proofs.sources.read_all.Given as goal

abbrev pub invariant-loop-name : goal.invariant-loop-name
invariant-loop-name g l = record {
  -- the bytes so far are those told for the names so far
  so_far : (texts : List (List ℕ)) → AreTold (g.I.Inputs.holds l.fn.inputs) (g.I.Inputs.left l.fn.inputs) l.names texts → map (λ text. text.items) l.texts.items ≡ take l.name-index texts;
  -- they take what is no longer room
  counted : l.room + sum_by length (map (λ text. text.items) l.texts.items) ≡ SIZE_LIMIT;
  handed : RoseBy (sum_by length (map (λ text. text.items) l.texts.items)) (g.I.Inputs.handed l.fn.inputs) (g.I.Inputs.handed l.inputs);
  out : HandedOut (g.I.Inputs.handed l.fn.inputs) (g.I.Inputs.handed l.inputs) (sum_by length (map (λ text. text.items) l.texts.items));
  began : BeganNext (g.I.Inputs.began l.fn.inputs) (g.I.Inputs.began l.inputs) (take l.name-index l.names);
  -- and the source stands as it stood
  faults : g.I.Inputs.faults l.inputs ≡ g.I.Inputs.faults l.fn.inputs;
  names : g.I.Inputs.holds l.inputs ≡ g.I.Inputs.holds l.fn.inputs;
  left_told : is_some (g.I.Inputs.left l.inputs) ≡ is_some (g.I.Inputs.left l.fn.inputs);
}
