use Rattle.std.proofs.Common.{◌∙◌}
use Rattle.std.proofs.lemmas.Result.{IfOk-weaker}
use Rattle.np_names.proofs.CountLemmas.{name_at-counted}
use Rattle.np_names.proofs.numbered.next_name.Goals as goal

pub returns-clause-name : goal.returns-clause-name
returns-clause-name c = IfOk-weaker c.with_number.result _ _ (λ name is_name wishes place within is_wish counts given.
    name_at-counted wishes c.args.wish.now name place c.noted.result c.in_ok-before.before within is_wish
    (c.noted.ensures ∙ counts c.args.wish.now) (c.in_ok-before.ensures.before ∙ given c.args.wish.now) is_name) c.with_number.ensures
