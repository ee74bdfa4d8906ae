use Rattle.std.proofs.Common.{◌∙◌}
use Rattle.np_check.proofs.AddressLemmas.{table_rows}
use Rattle.np_fold.specs.Prelude.{folding_of}
use Rattle.np_kinds.specs.Prelude.{address_allows}
use Rattle.np_check.proofs.addresses.first_with.Goals as goal

pub returns-clause-broken : goal.returns-clause-broken
returns-clause-broken c =
    c.first_broken.ensures (address_allows c.args.checker.now (folding_of c.args.checker.now) c.args.work c.args.direction)
    (c.items.ensures ∙ c.in_ok-rows.ensures.rows ∙ table_rows c.args.checker.now c.args.work c.args.direction)
