-- Policies that are read again of what is printed of them: those that the Kubernetes API has (Kubernetes API reference,
-- NetworkPolicy).
use Rattle.std.specs.Prelude.{◌^◌, List, Bool, ◌&&◌, ◌||◌, nat_le, nat_lt, is_none, is_some, Option}
use Rattle.std.specs.List.{list_all}
use Rattle.np_addr.specs.Prelude.{first_bad_except}
use Rattle.np_command_flatten.specs.Types.{Block, Cidr, Four, Named, NetPeer, NetPolicy, NetPort, NetRule, Pods, Six, Span}
use Rattle.np_model.specs.Prelude.{is_name, is_well_cidr, is_whole_word, option_all}
use Rattle.np_model.specs.WellPolicies.{is_well_selector}

-- ports from 1 to 65535, of which the last is not below the first, or a name
abbrev pub is_printable_port : NetPort → Bool
is_printable_port (Span proto lo hi) = nat_le 1 lo && nat_le lo hi && nat_le hi 65535
is_printable_port (Named proto name) = is_whole_word name

-- a first address of the family, without host bits
abbrev pub is_printable_block : Cidr → Bool
is_printable_block (Four base len) = nat_lt base (2 ^ 32) && is_well_cidr (Four base len)
is_printable_block (Six base len) = nat_lt base (2 ^ 128) && is_well_cidr (Six base len)

-- at least one selector, or a block and strict parts of it
abbrev pub is_printable_peer : NetPeer → Bool
is_printable_peer (Pods namespaces pods) = (is_some namespaces || is_some pods) && option_all is_well_selector namespaces && option_all is_well_selector pods
is_printable_peer (Block block excepts) = is_printable_block block && list_all is_printable_block excepts && is_none (first_bad_except block excepts)

abbrev pub is_printable_rule : NetRule → Bool
is_printable_rule rule = list_all is_printable_peer rule.peers && list_all is_printable_port rule.ports

-- the rules of a direction that may be missing
abbrev pub are_printable_rules : Option (List NetRule) → Bool
are_printable_rules rules = option_all (λ all. list_all is_printable_rule all) rules

-- Whether the names are names, the selector is well formed, of words, and there is a direction at least, whose rules are
-- such as well.
abbrev pub is_printable : NetPolicy → Bool
is_printable policy =
    is_name policy.namespace && is_name policy.name && is_well_selector policy.subject && (is_some policy.ingress || is_some policy.egress)
    && are_printable_rules policy.ingress && are_printable_rules policy.egress
