use Rattle.std.proofs.lemmas.Result.{IfOk-weaker}
use Rattle.np_rules.proofs.JoinsLemmas.{joins-halves}
use Rattle.np_rules.proofs.stranger_rules.+joined_set.Goals as goal

pub returns-in_ok-second-in_default : goal.returns-in_ok-second-in_default
returns-in_ok-second-in_default t c = IfOk-weaker c.join.result _ _
    (λ made members one. joins-halves _ c.args.sets.now _ _ _ _ _ _ c.split_at.ensures.front c.split_at.ensures.back (members one)
    (c.in_ok-first-in_default.ensures one) (c.in_ok-second-in_default.ensures one))
    c.join.ensures.members
