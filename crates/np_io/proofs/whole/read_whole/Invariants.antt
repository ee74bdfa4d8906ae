use Rattle.std.proofs.Common.{◌≡◌, ◌≤◌, ◌+◌, ◌-◌, ◌^◌, min, vec_len}
use Rattle.std.specs.Io.KnownBytes.{prepend_known}
use Rattle.np_io.proofs.whole.read_whole.Given as goal

-- the bytes were handed out since the name was begun, there was room for them, and no call failed
abbrev pub invariant-loop-bytes : goal.invariant-loop-bytes
invariant-loop-bytes g l = record {
  in_room : vec_len l.bytes ≤ l.room;
  read : g.I.Inputs.left l.initial.inputs ≡ prepend_known l.bytes.items (g.I.Inputs.left l.inputs);
  handed : min (g.I.Inputs.handed l.inputs) (2 ^ 64 - 1) ≡ min (g.I.Inputs.handed l.initial.inputs + vec_len l.bytes) (2 ^ 64 - 1);
  at_most : g.I.Inputs.handed l.inputs ≤ g.I.Inputs.handed l.initial.inputs + vec_len l.bytes;
  no_fault : g.I.Inputs.faults l.inputs ≡ g.I.Inputs.faults l.initial.inputs;
  same_names : g.I.Inputs.holds l.inputs ≡ g.I.Inputs.holds l.initial.inputs;
  same_begun : g.I.Inputs.begun l.inputs ≡ g.I.Inputs.begun l.initial.inputs;
  same_began : g.I.Inputs.began l.inputs ≡ g.I.Inputs.began l.initial.inputs;
}

abbrev pub decreases-loop-bytes : goal.decreases-loop-bytes
decreases-loop-bytes g l = l.room - vec_len l.bytes
