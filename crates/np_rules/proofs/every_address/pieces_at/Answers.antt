use Rattle.std.proofs.Common.{◌∙◌}
use Rattle.std.proofs.lemmas.Result.{IfOk-weaker}
use Rattle.np_rules.proofs.AddressLemmas.{copied_inside}
use Rattle.np_rules.proofs.every_address.pieces_at.Goals as goal

pub returns : goal.returns
returns g c = IfOk-weaker c.over.result _ _
    (λ made members place. members place ∙ copied_inside _ _ c.args.conns.now c.in_ok-inside.inside c.in_ok-outside.outside place.spot c.in_ok-inside.ensures.equal (c.in_ok-outside.ensures.members place.spot))
    c.over.ensures.members
