use Rattle.std.proofs.lemmas.List.Elements.{All-rest}
use Rattle.np_explain.proofs.PartLemmas.{parts_more}
use Rattle.np_explain.proofs.explaining.named_parts.Goals as goal
use Rattle.np_explain.specs.Prelude.{IsMarkOf}

pub loop-entry-preserved : goal.loop-entry-preserved
loop-entry-preserved c = record {
  made = parts_more c.args.side.now c.loop-entry.parts.items c.push.new.self.items c.in-Some.entry c.next.new.self.rest.items c.loop-entry.entry-iterator.rest.items c.in_ok-decider.decider _
      c.in-Some.ensures.steps.0 c.in_ok-decider.ensures c.in_ok-push.ensures.items c.loop-entry.invariant.made;
  marks = All-rest (λ entry. IsMarkOf c.args.side.now entry.mark) c.in-Some.entry c.next.new.self.rest.items c.loop-entry.entry-iterator.rest.items c.in-Some.ensures.steps.0
      c.loop-entry.invariant.marks;
}
