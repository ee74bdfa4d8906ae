use Rattle.std.proofs.Common.{ap}
use Rattle.np_addr.specs.Prelude.{AddressRanges}
use Rattle.np_statements.specs.Prelude.{Ends}
use Rattle.np_rules.proofs.AddressLemmas.{set_has-nothing}
use Rattle.np_statements.proofs.AddressSetLemmas.{is-no_address}
use Rattle.np_statements.proofs.ends.works_alone.Goals as goal

pub returns : goal.returns
returns c =
    let with_block : AddressRanges → Ends = λ block. record { works = c.args.works; block = block } in
    ap with_block (is-no_address c.in_ok-nothing.field-0 c.in_ok-nothing.ensures.well (set_has-nothing c.in_ok-nothing.field-0 c.in_ok-nothing.ensures.members))
