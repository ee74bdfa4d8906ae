use Rattle.std.proofs.Common.{◌≡◌, Err, ap}
use Rattle.std.proofs.lemmas.Result.{err_from_is_err_and}
use Rattle.np_statements.proofs.OneStatement.{arrow_of, colon_of, one_form, parts_are, two_blocks}
use Rattle.np_statements.specs.declared.statement_text.StatementFault.TheVariants.{BadStatement}
use Rattle.np_statements.proofs.grammar.read_statement.Goals as goal

pub returns-in_default-clause-bad : goal.returns-in_default-clause-bad
returns-in_default-clause-bad c = λ bad statement is.
    c.in_default.ensures.only statement.wanted is.source is.destination is.conns (arrow_of c.args.line.now statement is) (colon_of c.args.line.now statement is) is.spelled

pub returns-in_err-source-clause-bad : goal.returns-in_err-source-clause-bad
returns-in_err-source-clause-bad c = λ bad statement is.
    let same = c.in-Some.ensures.only statement.wanted is.source is.destination is.conns (arrow_of c.args.line.now statement is) (colon_of c.args.line.now statement is) is.spelled in
    let parts = parts_are c.args.line.now statement c.in-Some.parts.wanted c.in-Some.parts.source.now c.in-Some.parts.destination.now c.in-Some.parts.conns.now is same in
    let p = err_from_is_err_and c.from_residual.result c.from_residual.ensures.1 in
    let fault : c.in_err-source.field-0.0 ≡ BadStatement = cc in
    c.in_err-source.ensures.bad (ap Err fault) statement.source parts.of_source

pub returns-in_err-destination-clause-bad : goal.returns-in_err-destination-clause-bad
returns-in_err-destination-clause-bad c = λ bad statement is.
    let same = c.in-Some.ensures.only statement.wanted is.source is.destination is.conns (arrow_of c.args.line.now statement is) (colon_of c.args.line.now statement is) is.spelled in
    let parts = parts_are c.args.line.now statement c.in-Some.parts.wanted c.in-Some.parts.source.now c.in-Some.parts.destination.now c.in-Some.parts.conns.now is same in
    let p = err_from_is_err_and c.from_residual-in_err-destination.result c.from_residual-in_err-destination.ensures.1 in
    let fault : c.in_err-destination.field-0.0 ≡ BadStatement = cc in
    c.in_err-destination.ensures.bad (ap Err fault) statement.destination parts.of_destination

pub returns-then-is_address_form-2-clause-bad : goal.returns-then-is_address_form-2-clause-bad
returns-then-is_address_form-2-clause-bad c = λ bad statement is.
    let same = c.in-Some.ensures.only statement.wanted is.source is.destination is.conns (arrow_of c.args.line.now statement is) (colon_of c.args.line.now statement is) is.spelled in
    let parts = parts_are c.args.line.now statement c.in-Some.parts.wanted c.in-Some.parts.source.now c.in-Some.parts.destination.now c.in-Some.parts.conns.now is same in
    two_blocks c.args.line.now statement c.in_ok-source.source c.in_ok-destination.destination is
    (one_form c.in-Some.parts.source.now c.in_ok-source.source statement.source c.in_ok-source.ensures.read parts.of_source)
    (one_form c.in-Some.parts.destination.now c.in_ok-destination.destination statement.destination c.in_ok-destination.ensures.read parts.of_destination)
    (cc) (cc)

pub returns-in_err-conns-clause-bad : goal.returns-in_err-conns-clause-bad
returns-in_err-conns-clause-bad c = λ bad statement is.
    let same = c.in-Some.ensures.only statement.wanted is.source is.destination is.conns (arrow_of c.args.line.now statement is) (colon_of c.args.line.now statement is) is.spelled in
    let parts = parts_are c.args.line.now statement c.in-Some.parts.wanted c.in-Some.parts.source.now c.in-Some.parts.destination.now c.in-Some.parts.conns.now is same in
    let p = err_from_is_err_and c.from_residual-in_err-conns.result c.from_residual-in_err-conns.ensures.1 in
    let fault : c.in_err-conns.field-0.0 ≡ BadStatement = cc in
    c.in_err-conns.ensures.bad (ap Err fault) statement.conns is.well parts.of_conns
