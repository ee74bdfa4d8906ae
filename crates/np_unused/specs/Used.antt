-- Which rules are used.
use Rattle.std.specs.Prelude.{◌≡◌, ℕ, ◌<◌, ◌^◌, List, ◌++◌, map, filter, length, Bool, true, false, ◌&&◌, not, Option, Some, None}
use Rattle.std.specs.List.{Contains, list_any, range_with_len}
use Rattle.std.specs.Option.{option_map_or}
use Rattle.np_addr.specs.Prelude.{IsAddress}
use Rattle.np_unused.specs.Types.{At, Decider, End, EstateLists, Family, Four, Free, Isolated, Pod, PortSpot, RuleName, RuleRef, Six, Tier}
use Rattle.np_conns.specs.Prelude.{is_spot}
use Rattle.np_explain.specs.Prelude.{all_spots, are_one_pod, decider_between, packet_families, same_rule}
use Rattle.np_unused.specs.Rules.{all_rules, rule_name}
use Rattle.np_unused.specs.declared.rule_ref.Tier.TheVariants as tier
use Rattle.np_rules.specs.declared.decider.Decider.TheVariants.{Admin, Net, Base}

-- ---- rules in deciders

-- the rule of a tier in a decider: the rule that decides, or the admin rule with Pass that was met
abbrev pub rule_in : Tier → Decider → Option RuleName
rule_in tier.Admin (Admin rule allow) = Some rule
rule_in tier.Admin (Net pass rule) = pass
rule_in tier.Admin (Isolated pass policies) = pass
rule_in tier.Admin (Base pass rule allow) = pass
rule_in tier.Admin (Free pass) = pass
rule_in tier.Net (Net pass rule) = Some rule
rule_in tier.Base (Base pass rule allow) = Some rule
rule_in one other = None

-- whether a rule stands in a decider, as the rule or as the Pass that was met
abbrev pub stands_in : EstateLists → RuleRef → Decider → Bool
stands_in lists rule decider = option_map_or (same_rule (rule_name lists rule)) (rule_in rule.tier decider) false

-- ---- listed ends

-- the first pods
unfoldable pub pod_ends : ℕ → List End
pod_ends count = map Pod (range_with_len 0 count)

-- the first addresses of a family
unfoldable pub four_ends : ℕ → List End
four_ends count = map (λ number. At (Four number)) (range_with_len 0 count)

unfoldable pub six_ends : ℕ → List End
six_ends count = map (λ number. At (Six number)) (range_with_len 0 count)

-- the pods of the estate, and all addresses
unfoldable pub listed_ends : EstateLists → List End
listed_ends lists = pod_ends (length lists.pods) ++ four_ends (2 ^ 32) ++ six_ends (2 ^ 128)

-- ---- use

-- whether a rule stands in the decider, on its side, of some packet of a family between two ends
abbrev pub is_used_in : EstateLists → RuleRef → End → End → Family → Bool
is_used_in lists rule source destination family = list_any (λ spot. stands_in lists rule (decider_between lists rule.direction source destination family spot)) all_spots

-- whether it does of some packet between two ends, which are not one pod
abbrev pub is_used_between : EstateLists → RuleRef → End → End → Bool
is_used_between lists rule source destination = not (are_one_pod source destination) && list_any (is_used_in lists rule source destination) (packet_families lists source destination)

-- whether it does of some packet between listed ends
unfoldable pub is_used : EstateLists → RuleRef → Bool
is_used lists rule = list_any (λ source. list_any (is_used_between lists rule source) (listed_ends lists)) (listed_ends lists)

-- the rules that are not used, in the order of all rules
unfoldable pub unused_of : EstateLists → List RuleRef
unused_of lists = filter (λ rule. not (is_used lists rule)) (all_rules lists)

-- ---- packets

-- the end is a pod of the estate, or an address
abbrev pub IsListedEnd : EstateLists → End → Type 0
IsListedEnd lists (Pod p) = p < length lists.pods
IsListedEnd lists (At a) = IsAddress a

-- a packet between listed ends, by its ends, its family, and its protocol and port
pub record IsListedPacket (lists : EstateLists) (from to : End) (family : Family) (spot : PortSpot) : Type 0 where
  pub source : IsListedEnd lists from
  pub destination : IsListedEnd lists to
  pub apart : are_one_pod from to ≡ false
  pub of_family : Contains (packet_families lists from to) family
  pub at_spot : is_spot spot ≡ true

-- a rule stands in the decider, on its side, of the packet
abbrev pub StandsIn : EstateLists → RuleRef → End → End → Family → PortSpot → Type 0
StandsIn lists rule source destination family spot = rule_in rule.tier (decider_between lists rule.direction source destination family spot) ≡ Some (rule_name lists rule)
