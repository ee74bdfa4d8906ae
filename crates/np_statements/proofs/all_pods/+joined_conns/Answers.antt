use Rattle.np_rules.proofs.JoinsLemmas.{joins-halves}
use Rattle.np_statements.proofs.all_pods.+joined_conns.Goals as goal

pub returns-in_ok-joined-in_default : goal.returns-in_ok-joined-in_default
returns-in_ok-joined-in_default t c = λ spot. joins-halves _ c.args.lines.now _ _ _ _ _ _ c.split_at.ensures.front c.split_at.ensures.back (c.in_ok-joined-in_default.ensures.members spot)
    (c.in_ok-first-in_default.ensures spot) (c.in_ok-second-in_default.ensures spot)
