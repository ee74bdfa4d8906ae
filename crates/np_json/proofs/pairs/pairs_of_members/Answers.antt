use Rattle.std.proofs.Common.{◌≡◌, ◌∷◌, Some, rules}
use Rattle.serde_json.proofs.Views.{Entry}
use Rattle.serde_json.specs.Find.{as_str}
use Rattle.serde_json.specs.View.{view}
use Rattle.np_json.proofs.PairLemmas.{IsReadUpTo-turn, IsReadUpTo-ordered}
use Rattle.np_json.proofs.pairs.pairs_of_members.Goals as goal

pub loop-key-preserved : goal.loop-key-preserved
loop-key-preserved c =
    let entry : Entry = (c.in-Some.key.now, c.in-Some.value.now) in
    let first : c.loop-key.key-iterator ≡ entry ∷ c.next.new.self = c.in-Some.ensures.steps in
    let text : as_str (view entry.1) ≡ Some c.in-Some-as_str.text.now = search rules in
    rw (c.in_ok-push.ensures.ok, c.in_ok-of.ensures, c.in_ok-of-2.ensures, c.as_str-in-loop-key.ensures.value)
    (IsReadUpTo-turn _ c.loop-key.pairs entry c.next.new.self c.in-Some-as_str.text.now text (rw first at c.loop-key.invariant))

pub returns-clause-ordered : goal.returns-clause-ordered
returns-clause-ordered c = IsReadUpTo-ordered _ _ (rw c.in-None.ensures.steps.0 at c.loop-key.invariant) c.iter-key-items.ensures.ordered
