use Rattle.np_flatten.proofs.RefusedLemmas.{alike_differ, alike_is_first, alike_together, nothing_split}
use Rattle.np_flatten.proofs.laws.the_first_alike_are_told.Goals as goal

pub returns : goal.returns
returns c = record {
  nothing_split = λ lists a b c d is c_in d_in. nothing_split lists a b is c d c_in d_in;
  together = alike_together;
  differ = alike_differ;
  first = λ lists a b c d is d_in less together before. alike_is_first lists a b is c d d_in less together before;
}
