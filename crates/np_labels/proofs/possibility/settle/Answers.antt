use Rattle.std.proofs.lemmas.Map.Iter.{rest_more}
use Rattle.np_labels.proofs.Settling.{ascending_without, in_turn_without, ascending_with, in_turn_with, clash_at}
use Rattle.np_labels.proofs.possibility.settle.Goals as goal

pub returns-in-Clash : goal.returns-in-Clash
returns-in-Clash c =
    let next = rest_more (λ entry. entry) _ _ _ (c.in-Some.key, c.in-Some.demand) c.in-Some.is c.next.ensures.steps in
    clash_at _ _ _ _ _ next _ c.loop-key.invariant.ascending c.loop-key.invariant.in_turn (rw c.in-Clash.is at c.in_ok-choice.ensures)

pub loop-key-preserved-in-LeftOut-1 : goal.loop-key-preserved-in-LeftOut-1
loop-key-preserved-in-LeftOut-1 c =
    let next = rest_more (λ entry. entry) _ _ _ (c.in-Some.key, c.in-Some.demand) c.in-Some.is c.next.ensures.steps in
    record {
      ascending = ascending_without _ _ _ _ _ next _ c.loop-key.invariant.ascending c.loop-key.invariant.in_turn;
      in_turn = in_turn_without _ _ _ _ _ next _ c.loop-key.invariant.ascending c.loop-key.invariant.in_turn (rw c.in-LeftOut.is at c.in_ok-choice.ensures);
    }

pub loop-key-preserved : goal.loop-key-preserved
loop-key-preserved c =
    let next = rest_more (λ entry. entry) _ _ _ (c.in-Some.key, c.in-Some.demand) c.in-Some.is c.next.ensures.steps in
    rw c.in_ok-push-in-Value.ensures.items (record {
      ascending = ascending_with _ _ _ _ _ next _ c.loop-key.invariant.ascending c.loop-key.invariant.in_turn c.in-Value.value;
      in_turn = in_turn_with _ _ _ _ _ next _ c.loop-key.invariant.ascending c.loop-key.invariant.in_turn c.in-Value.value (rw c.in-Value.is at c.in_ok-choice.ensures);
    })
