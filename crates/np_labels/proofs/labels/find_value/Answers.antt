use Rattle.std.proofs.Common.{ap, rules, sym, ◌∙◌, Some}
use Rattle.std.proofs.lemmas.Fn.{always_returns_same}
use Rattle.std.specs.Cmp.Lexicographic.{slice_cmp}
use Rattle.std.specs.Ordering.{nat_cmp}
use Rattle.np_labels.proofs.KeyHalves.{value-found, value-not_found}
use Rattle.np_labels.specs.Prelude.{Pair}
use Rattle.np_labels.proofs.labels.find_value.Goals as goal

pub returns-in-Ok : goal.returns-in-Ok
returns-in-Ok c =
    ap Some c.as_str.ensures
    ∙ sym (value-found c.args.pairs.now c.requires c.args.key.now c.in-Ok.place c.index-pairs-place.result c.in-Ok.ensures.bound
    (c.in-Ok.ensures.position (λ (pair : Pair). slice_cmp nat_cmp pair.key c.args.key.now) (always_returns_same _ _ _ (λ a r next called. search rules))))

pub returns-in-Err : goal.returns-in-Err
returns-in-Err c =
    sym (value-not_found c.args.pairs.now c.requires c.args.key.now c.in-Err.field-0
    (c.in-Err.ensures.position (λ (pair : Pair). slice_cmp nat_cmp pair.key c.args.key.now) (always_returns_same _ _ _ (λ a r next called. search rules))))
