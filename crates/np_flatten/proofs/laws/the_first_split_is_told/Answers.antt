use Rattle.np_flatten.proofs.RefusedLemmas.{split_differs, split_is_first}
use Rattle.np_flatten.proofs.laws.the_first_split_is_told.Goals as goal

pub returns : goal.returns
returns c = record {
  differ = split_differs;
  first = λ lists a b c d is c_in d_in before. split_is_first lists a b is c d c_in d_in before;
}
