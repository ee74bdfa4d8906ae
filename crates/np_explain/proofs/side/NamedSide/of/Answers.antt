use Rattle.std.proofs.Common.{ap, ◌∙◌}
use Rattle.np_explain.proofs.SideLemmas.{isolating_named, isolating_within}
use Rattle.np_explain.proofs.side.NamedSide.of.Goals as goal
use Rattle.np_explain.specs.Prelude.{EstateLists}

pub net_policy_names-requires : goal.net_policy_names-requires
net_policy_names-requires c =
    isolating_within c.args.side.now c.in_ok-rules.rules.isolating c.items.result.now c.net_policies-policies.result.now
    c.in_ok-rules.ensures.isolating c.items.ensures (c.net_policies-policies.ensures.value ∙ ap (λ (lists : EstateLists). lists.net_policies) c.estate.ensures)

pub invariant_of-result : goal.invariant_of-result
invariant_of-result c = record {
  names = record {
    says = c.requires.says;
    admin = c.in_ok-rules.ensures.admin;
    net = c.in_ok-rules.ensures.net;
    isolating = c.in_ok-rules.ensures.isolating;
    base = c.in_ok-rules.ensures.base;
  };
  isolating = c.in_ok-isolating.ensures ∙ c.in_ok-names.ensures
      ∙ isolating_named c.args.side.now c.in_ok-rules.rules.isolating c.items.result.now c.net_policies-policies.result.now
      c.in_ok-rules.ensures.isolating c.items.ensures (c.net_policies-policies.ensures.value ∙ ap (λ (lists : EstateLists). lists.net_policies) c.estate.ensures);
}
