use Rattle.std.proofs.NetLemmas.Texts.{IsZeroRun-longest_zero_run, longest_zero_run_first}
use Rattle.np_addr.proofs.laws.longest_run_is_first.Goals as goal

pub returns : goal.returns
returns c = record {
  zeros = IsZeroRun-longest_zero_run;
  longest = λ groups start count run. (longest_zero_run_first groups start count run).0;
  first = λ groups start count run. (longest_zero_run_first groups start count run).1;
}
