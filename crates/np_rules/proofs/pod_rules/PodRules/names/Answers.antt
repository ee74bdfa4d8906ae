use Rattle.np_rules.proofs.PolicyRulesLemmas.{admin_named, admin_within, base_named, isolating_named, keeps_as, net_named, net_within}
use Rattle.np_rules.proofs.pod_rules.PodRules.names.Goals as goal

pub rule_ids-requires : goal.rule_ids-requires
rule_ids-requires c = rw c.deref.ensures.value (admin_within (keeps_as c.self.invariant c.self.view_is) c.requires.few)

pub rule_ids-requires-2 : goal.rule_ids-requires-2
rule_ids-requires-2 c = rw c.deref-2.ensures.value (net_within (keeps_as c.self.invariant c.self.view_is) c.requires.few)

pub places_of-requires : goal.places_of-requires
places_of-requires c = rw c.deref-3.ensures.value (net_within (keeps_as c.self.invariant c.self.view_is) c.requires.few)

pub returns-clause-admin : goal.returns-clause-admin
returns-clause-admin c = rw (c.in_ok-rule_ids.ensures, c.deref.ensures.value) (admin_named (keeps_as c.self.invariant c.self.view_is))

pub returns-clause-net : goal.returns-clause-net
returns-clause-net c = rw (c.in_ok-rule_ids-2.ensures, c.deref-2.ensures.value) (net_named (keeps_as c.self.invariant c.self.view_is))

pub returns-clause-isolating : goal.returns-clause-isolating
returns-clause-isolating c = rw (c.in_ok-places_of.ensures, c.deref-3.ensures.value) (isolating_named (keeps_as c.self.invariant c.self.view_is))

pub returns-clause-base : goal.returns-clause-base
returns-clause-base c = rw c.in_ok-rule_ids-3.ensures (base_named (keeps_as c.self.invariant c.self.view_is))
