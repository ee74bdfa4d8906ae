use Rattle.std.proofs.Common.{◌++◌, ap, ◌∙◌}
use Rattle.np_flatten.proofs.ReceiverFacts.{groups-more}
use Rattle.np_flatten.proofs.flat.Flat.ingress_rules.Goals as goal
use Rattle.np_flatten.specs.Prelude.{EstateLists, rules_from_group}

pub loop-sender-preserved : goal.loop-sender-preserved
loop-sender-preserved c =
    let same = c.loop-sender.invariant.same in
    let made = c.in_ok-add_rule_from.ensures.rules ∙ ap (λ (l : EstateLists). c.loop-sender.rules ++ rules_from_group l c.args.group c.loop-sender.sender) same in
    record {
      same = c.in_ok-add_rule_from.ensures.same ∙ same;
      rules = groups-more c.args.self.now c.args.group c.loop-sender.sender c.loop-sender.rules c.add_rule_from.new.rules c.loop-sender.invariant.rules made;
    }
