-- `unused`: the rules that decide nothing.
use Rattle.std.specs.Prelude.{ℕ, List, ◌++◌, codes, flat_map}
use Rattle.np_model.specs.declared.lists.EstateLists.{EstateLists}
use Rattle.np_unused.specs.Prelude.{tier_rule_text, unused_of}
use Rattle.np_unused.specs.declared.rule_ref.RuleRef.{RuleRef}

abbrev pub rule_line : EstateLists → RuleRef → List ℕ
rule_line lists rule = tier_rule_text lists rule ++ codes "\n"

-- a line for each of them
unfoldable pub unused_text : EstateLists → List ℕ
unused_text lists = flat_map (rule_line lists) (unused_of lists)
