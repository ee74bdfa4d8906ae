use Rattle.std.proofs.Common.{◌+◌, arith, refl}
use Rattle.std.proofs.lemmas.List.Elements.{All-push}
use Rattle.np_reach.proofs.StretchLemmas.{first_and, follow_more, stretch_more}
use Rattle.np_reach.proofs.stretches.stretches.Goals as goal
use Rattle.np_reach.specs.Prelude.{AreOfOneNamespace, IsStretch}
use Rattle.np_rules.specs.Prelude.{pod_end}

pub loop-from-preserved : goal.loop-from-preserved
loop-from-preserved c =
    let pods = c.args.pods.now in
    let from = c.loop-from.from in
    let count = c.length_alike-count.result in
    let one = c.index-pods-from.result in
    let own = c.split_at-in-loop-from-2.result.0.now in
    let within = c.loop-from-test.true in
    record {
      pods = stretch_more (λ stretch. stretch.pods.now) c.loop-from.made.items c.push.new.self.items _ pods c.split_at.result.1.now own from
          (1 + count) c.in_ok-push.ensures.items refl c.split_at.ensures.back c.split_at-in-loop-from-2.ensures.front c.loop-from.invariant.pods;
      alike = rw c.in_ok-push.ensures.items (All-push IsStretch c.loop-from.made.items _ c.loop-from.invariant.alike
          (first_and (λ far. AreOfOneNamespace (pod_end one.now) (pod_end far.now)) pods c.split_at.result.1.now c.split_at-in-loop-from.result.1.now own from count one within c.index-pods-from.is
          c.split_at.ensures.back c.split_at-in-loop-from.ensures.back c.split_at-in-loop-from-2.ensures.front (record { name = refl; labels = refl }) c.length_alike-count.ensures.alike));
      from = follow_more (λ stretch. stretch.pods.now) (λ stretch. stretch.from) c.loop-from.made.items c.push.new.self.items _ pods from c.in_ok-push.ensures.items refl c.loop-from.invariant.pods
          c.loop-from.invariant.within c.loop-from.invariant.from;
      within = omega (arith, c.length_alike-count.ensures.within, c.split_at-in-loop-from.ensures.back_len, within);
    }
