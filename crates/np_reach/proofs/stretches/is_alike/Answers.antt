use Rattle.std.proofs.Common.{sym, ◌∙◌}
use Rattle.std.specs.Cmp.Lexicographic.{bytes_decides}
use Rattle.np_reach.proofs.StretchLemmas.{same_pairs}
use Rattle.np_reach.proofs.stretches.is_alike.Goals as goal

pub returns-then-eq : goal.returns-then-eq
returns-then-eq c told = record {
  name = sym ((bytes_decides c.args.one.now.namespace c.args.other.now.namespace).0 (sym c.eq.ensures ∙ c.if-eq.true));
  labels = sym (sym c.labels.ensures ∙ sym c.pairs-labels.ensures.value ∙ same_pairs c.pairs-labels.result.now c.pairs-others.result.now (sym c.eq-then-eq.ensures ∙ told)
      ∙ c.pairs-others.ensures.value ∙ c.labels-2.ensures);
}
