use Rattle.std.proofs.Common.{◌≡◌, ◌++◌, codes, string_bytes, take}
use Rattle.std.specs.List.{flat_map}
use Rattle.np_addr.specs.Prelude.{cidr_text}
use Rattle.np_report.proofs.spans.joined.Given as goal

-- the blocks before the place stand behind the first, each after a comma
abbrev pub invariant-loop-block : goal.invariant-loop-block
invariant-loop-block l = string_bytes l.text ≡ string_bytes l.initial.text ++ flat_map (λ block. codes "," ++ cidr_text block) (take l.block-index l.others)
