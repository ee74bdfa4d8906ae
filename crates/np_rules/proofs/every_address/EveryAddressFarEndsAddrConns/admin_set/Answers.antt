use Rattle.std.proofs.Common.{sym, ◌∙◌}
use Rattle.std.proofs.lemmas.Result.{IfOk-weaker}
use Rattle.np_rules.specs.Prelude.{end_view}
use Rattle.np_rules.proofs.AddressLemmas.{admin_at_place, admin_nowhere}
use Rattle.np_rules.proofs.every_address.EveryAddressFarEndsAddrConns.admin_set.Goals as goal

pub returns-then-is_empty : goal.returns-then-is_empty
returns-then-is_empty c = IfOk-weaker c.nothing.result _ _
    (λ made members place within. members place ∙ sym
    (admin_nowhere c.args.rule.now c.args.self.now.direction (end_view c.args.self.now.near) c.in_ok-addresses.addresses c.if-is_empty.ensures.answer
    (rw c.items.ensures at c.in_ok-addresses.ensures) place within))
    c.nothing.ensures.members

pub returns : goal.returns
returns c = IfOk-weaker c.at_addresses.result _ _
    (λ made members place within. members place within
    ∙ admin_at_place c.args.rule.now c.args.self.now.direction (end_view c.args.self.now.near) c.in_ok-addresses.addresses c.in_ok-conns.conns
    (rw c.items.ensures at c.in_ok-addresses.ensures) (rw c.items-2.ensures at c.in_ok-conns.ensures) place within)
    c.at_addresses.ensures
