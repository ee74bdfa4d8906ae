use Rattle.std.proofs.Common.{◌≡◌, rules}
use Rattle.std.proofs.lemmas.Result.{IfOk-weaker}
use Rattle.np_explain.proofs.RightPartsLemmas.{right_is_made}
use Rattle.np_explain.proofs.explaining.explain.Goals as goal
use Rattle.np_explain.specs.Prelude.{AreRightParts, decider_between, parts_of}

pub returns-in-Pod-clause-list : goal.returns-in-Pod-clause-list
returns-in-Pod-clause-list c =
    let flow = c.args.flow.now in
    let decides = decider_between c.args.estate.now c.args.direction flow.source flow.destination flow.family in
    IfOk-weaker c.pod_parts.result (AreRightParts decides) (λ parts. parts ≡ parts_of decides) (right_is_made decides) (search rules)

pub returns-in-At-clause-list : goal.returns-in-At-clause-list
returns-in-At-clause-list c =
    let flow = c.args.flow.now in
    let decides = decider_between c.args.estate.now c.args.direction flow.source flow.destination flow.family in
    IfOk-weaker c.everything.result (AreRightParts decides) (λ parts. parts ≡ parts_of decides) (right_is_made decides) (search rules)
