use Rattle.std.proofs.Common.{sym, ◌∙◌, arith}
use Rattle.std.proofs.lemmas.Str.Pattern.{starts_char}
use Rattle.std.proofs.lemmas.Bool.{both_ways}
use Rattle.np_addr.proofs.NumeralLemmas.{numeral_of-long, numeral_of-sign, numeral_of-parsed}
use Rattle.np_addr.proofs.numeral.read_numeral.Goals as goal
use Rattle.np_addr.proofs.numeral.read_numeral.Goals.{then-text-most-via-then-text-most, then-text-most-via-else-text-most+then-starts_with}

pub returns-then-text-most : goal.returns-then-text-most
returns-then-text-most c =
    elim c.then-text-most.branch [
      | then-text-most-via-then-text-most w ↦ sym (numeral_of-long _ _ c.args.text.now (omega arith))
      | then-text-most-via-else-text-most+then-starts_with w ↦
          let signed = starts_char 43 c.args.text.now w.starts_with.result w.starts_with.ensures.cases (omega arith) (omega arith) in
          sym (numeral_of-sign _ _ c.args.text.now c.requires.high (signed.0 w.if-starts_with.true))
    ]

pub returns : goal.returns
returns c =
    let signed = starts_char 43 c.args.text.now c.starts_with.result c.starts_with.ensures.cases (omega arith) (omega arith) in
    c.ok.ensures.value
    ∙ numeral_of-parsed c.args.radix c.args.most c.args.text.now _ c.requires.fits (omega arith) (omega arith)
    (λ first. both_ways _ c.if-starts_with.false (signed.1 first)) c.from_str_radix.ensures.value
