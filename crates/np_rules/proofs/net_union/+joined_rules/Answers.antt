use Rattle.std.proofs.lemmas.Result.{IfOk-weaker}
use Rattle.np_rules.proofs.JoinsLemmas.{joins-halves}
use Rattle.np_rules.proofs.net_union.+joined_rules.Goals as goal

pub returns-in_ok-second-in_default : goal.returns-in_ok-second-in_default
returns-in_ok-second-in_default g t c = IfOk-weaker c.join.result _ _
    (λ made members spot within. joins-halves _ c.args.rules.now _ _ _ _ _ _ c.split_at.ensures.front c.split_at.ensures.back (members spot)
    (c.in_ok-first-in_default.ensures spot within) (c.in_ok-second-in_default.ensures spot within))
    c.join.ensures.members
