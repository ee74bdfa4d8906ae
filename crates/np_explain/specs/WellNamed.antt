-- Deciders whose names are such as the policies that are read have.
use Rattle.std.specs.Prelude.{◌^◌, length, Bool, true, false, not, ◌&&◌, ◌==◌, nat_lt, is_some}
use Rattle.std.specs.List.{list_all}
use Rattle.np_model.specs.Prelude.{is_whole_word, option_all}
use Rattle.np_explain.specs.Types.{Admin, Base, Decider, Free, Isolated, Net, NoSide, RuleName}

-- a rule of a policy whose name, or `namespace/name`, is a word and not empty, at a place that 64 bits can say
abbrev pub is_rule_name : RuleName → Bool
is_rule_name rule = is_whole_word rule.policy && nat_lt rule.place (2 ^ 64)

-- whether all rules and policies in it are named so; where it is an isolation, there is one policy at least
abbrev pub is_well_named : Decider → Bool
is_well_named NoSide = true
is_well_named (Admin rule allow) = is_rule_name rule
is_well_named (Net pass rule) = option_all is_rule_name pass && is_rule_name rule
is_well_named (Isolated pass policies) = option_all is_rule_name pass && not (length policies == 0) && list_all is_whole_word policies
is_well_named (Base pass rule allow) = option_all is_rule_name pass && is_rule_name rule
is_well_named (Free pass) = option_all is_rule_name pass

-- whether some rule stands in it: one that decides, or one with Pass that was met
abbrev pub has_rule : Decider → Bool
has_rule NoSide = false
has_rule (Admin rule allow) = true
has_rule (Net pass rule) = true
has_rule (Isolated pass policies) = is_some pass
has_rule (Base pass rule allow) = true
has_rule (Free pass) = is_some pass
