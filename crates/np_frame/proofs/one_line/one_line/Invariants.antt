use Rattle.std.proofs.Common.{◌≡◌, ◌++◌, IsUtf8, string_bytes}
use Rattle.std.specs.Str.Iter.{chars_rest}
use Rattle.np_frame.specs.OneLine.{one_line}
use Rattle.np_frame.proofs.one_line.one_line.Given as goal

abbrev pub invariant-loop-c : goal.invariant-loop-c
invariant-loop-c l = IsUtf8 (chars_rest l.c-iterator) × (string_bytes l.line ++ one_line (chars_rest l.c-iterator) ≡ one_line l.fn.text)
