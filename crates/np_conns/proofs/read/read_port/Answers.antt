use Rattle.std.proofs.Common.{◌≡◌, Ok, arith}
use Rattle.std.proofs.lemmas.Grind.{common_steps}
use Rattle.std.proofs.lemmas.Fmt.{parse-decimal}
use Rattle.np_conns.proofs.read.read_port.Goals as goal

pub returns-in_err-number : goal.returns-in_err-number
returns-in_err-number c = λ port low high printed.
    let parsed : c.parse.result ≡ Ok port = parse-decimal 16 port c.args.text.now c.parse.result (omega arith) (omega arith) printed c.parse.ensures.value.0 in grind (arith, common_steps)

pub returns : goal.returns
returns c = λ port low high printed.
    let parsed : c.parse.result ≡ Ok port = parse-decimal 16 port c.args.text.now c.parse.result (omega arith) (omega arith) printed c.parse.ensures.value.0 in grind (arith, common_steps)
