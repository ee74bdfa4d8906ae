use Rattle.std.proofs.Common.{rules, sym, ◌∙◌}
use Rattle.np_addr.specs.Prelude.{octet_of}
use Rattle.np_addr.proofs.Ipv4Lemmas.{part_of-numeral}
use Rattle.np_addr.proofs.ipv4.read_part.Goals as goal

pub returns-in_err-read_numeral : goal.returns-in_err-read_numeral
unfolding octet_of
returns-in_err-read_numeral c = search rules

pub returns : goal.returns
returns c = c.ok.ensures.value ∙ part_of-numeral c.args.text.now c.in_ok-read_numeral.field-0 _ (sym c.in_ok-read_numeral.ensures) c.try_from.ensures
