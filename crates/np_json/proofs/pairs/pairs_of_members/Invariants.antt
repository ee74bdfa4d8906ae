use Rattle.np_json.proofs.PairLemmas.{IsReadUpTo}
use Rattle.np_json.proofs.pairs.pairs_of_members.Given as goal

abbrev pub invariant-loop-key : goal.invariant-loop-key
invariant-loop-key l = IsReadUpTo l.members.entries l.pairs l.key-iterator
