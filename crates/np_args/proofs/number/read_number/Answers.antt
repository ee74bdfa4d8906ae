use Rattle.std.proofs.Common.{◌≡◌, ◌∙◌, ◌&&◌, Bool, ap, arith, lit<, nat_le, sym}
use Rattle.std.proofs.lemmas.Bool.{both_ways}
use Rattle.std.proofs.lemmas.Grind.{common_steps}
use Rattle.std.proofs.lemmas.Str.Pattern.{starts_char}
use Rattle.std.specs.Bool.{then_some}
use Rattle.np_args.proofs.ValueLemmas.{number_to-parsed, number_to-unparsed}
use Rattle.np_args.proofs.number.read_number.Goals as goal
use Rattle.np_args.proofs.number.read_number.Goals.{else-number-ge1, then-number-ge1}

pub returns-in_err-number-clause-value : goal.returns-in_err-number-clause-value
returns-in_err-number-clause-value c =
    let word = c.args.word.now in
    let plus = starts_char 43 word c.starts_with.result c.starts_with.ensures.cases (lit< tt) (lit< tt) in
    c.from_residual.ensures
    ∙ sym (number_to-unparsed c.args.most word c.parse.result (omega arith) c.parse.ensures.value.0 (λ first. both_ways _ c.if-starts_with.false (plus.1 first)) (sym c.in_err-number.ensures.value))

pub returns-clause-value : goal.returns-clause-value
returns-clause-value c =
    let word = c.args.word.now in
    let plus = starts_char 43 word c.starts_with.result c.starts_with.ensures.cases (lit< tt) (lit< tt) in
    let zero = starts_char 48 word c.starts_with-else-starts_with.result c.starts_with-else-starts_with.ensures.cases (lit< tt) (lit< tt) in
    let n = c.in_ok-number.number in
    let inside : c.if-number-ge1.then_some ≡ (nat_le 1 n && nat_le n c.args.most) =
    elim c.if-number-ge1.branch [ then-number-ge1 w ↦ grind (arith, common_steps) | else-number-ge1 w ↦ grind (arith, common_steps) ] in
    c.then_some.ensures
    ∙ ap (λ (chosen : Bool). then_some chosen n) inside
    ∙ sym (number_to-parsed c.args.most word c.parse.result n c.parse.ensures.value.0
    (λ first. both_ways _ c.if-starts_with.false (plus.1 first)) (λ first. both_ways _ c.if-starts_with-2.false (zero.1 first))
    c.in_ok-number.ensures.value)
