use Rattle.std.proofs.Common.{ap, ◌∙◌}
use Rattle.std.proofs.lemmas.Result.{IfOk-weaker}
use Rattle.np_rules.specs.Prelude.{side_of}
use Rattle.np_table.specs.Prelude.{EstateLists, rows_of_addresses, side_with_address}
use Rattle.np_table.proofs.known_addresses.KnownAddresses.rows_of.Goals as goal

pub returns-in-Some-clause-rows : goal.returns-in-Some-clause-rows
returns-in-Some-clause-rows c =
    let estate = ap (λ (l : EstateLists). rows_of_addresses (side_with_address (side_of l c.in_ok-pod.pod c.args.direction))) c.requires.estate in
    IfOk-weaker c.share.result _ _ (λ made is. is ∙ c.in-Some.ensures ∙ estate ∙ c.in_ok-pod.ensures.rows) c.share.ensures
