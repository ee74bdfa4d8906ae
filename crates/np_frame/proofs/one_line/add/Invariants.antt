use Rattle.std.proofs.Common.{◌≡◌, ◌≤◌, ◌++◌, encode_utf8_all, string_bytes}
use Rattle.std.specs.Char.Escape.{escape_default}
use Rattle.std.specs.Char.Iter.{escape_end, escape_rest}
use Rattle.np_frame.proofs.one_line.add.Given as goal

abbrev pub invariant-loop-escaped : goal.invariant-loop-escaped
invariant-loop-escaped l =
    (escape_end l.escaped-iterator ≤ 10)
    × (string_bytes l.line ++ encode_utf8_all (escape_rest l.escaped-iterator) ≡ string_bytes l.fn.line ++ encode_utf8_all (escape_default l.fn.c))
