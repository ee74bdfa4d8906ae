use Rattle.std.proofs.Common.{◌≡◌, length, arith, sym, ap, ◌∙◌}
use Rattle.np_model.specs.Prelude.{families_of}
use Rattle.np_flatten.specs.Prelude.{EstateLists}
use Rattle.np_flatten.proofs.SplitLemmas.{none_split}
use Rattle.np_flatten.proofs.split.first_split.Goals as goal

pub returns-then-families-lt2 : goal.returns-then-families-lt2
returns-then-families-lt2 c =
    let own : length c.families.result.now ≡ length (families_of c.args.folded.now.pods) = ap length c.families.ensures ∙ ap
    (λ (lists : EstateLists). length (families_of lists.pods)) c.estate.ensures.value in
    sym (none_split c.args.folded.now (omega (arith, own, c.if-families-lt2.true)))
