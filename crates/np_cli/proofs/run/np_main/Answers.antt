use Rattle.np_cli.proofs.HeadlineLemmas.{says_of_inputs}
use Rattle.np_cli.proofs.OutcomesLemmas.{Leaves-caused}
use Rattle.np_cli.proofs.PromisesLemmas.{acknowledges, completes, refuses_too_large, refuses_more, refuses_faults, blames_device, blames_words, usage_ended}
use Rattle.np_cli.proofs.RunsLemmas.{Cause-began, Cause-said}
use Rattle.np_cli.proofs.SampleLemmas.{says_counts}
use Rattle.np_cli.proofs.run.np_main.Goals as goal

pub returns : goal.returns
returns g c =
    let cause = Cause-said _ c.run-outcome.result c.say-said.result c.run-outcome.ensures.ran.0 c.say-said.ensures.kept in
    record {
      promises = record {
        ends = record { outcome = c.say-said.result; left = Leaves-caused _ c.say-said.result cause; said = c.say-said.ensures.said; answered = c.status_of.ensures };
        says = says_of_inputs _ _ c.say-said.result cause c.status_of.ensures;
        refuses_too_large = refuses_too_large _ _ _ c.say-said.result cause c.say-said.ensures.said c.status_of.ensures;
        refuses_more = refuses_more _ _ _ c.say-said.result cause c.say-said.ensures.said c.status_of.ensures;
        words = blames_words _ _ c.say-said.result cause c.status_of.ensures;
        device = blames_device _ _ c.say-said.result cause c.status_of.ensures;
        names = Cause-began _ c.say-said.result cause;
      };
      bytes = record {
        ends = record { outcome = c.say-said.result; cause = cause; said = c.say-said.ensures.said; answered = c.status_of.ensures };
        completes = completes _ _ _ c.say-said.result cause c.say-said.ensures.said c.status_of.ensures;
        acknowledges = acknowledges _ _ c.say-said.result cause c.status_of.ensures;
        refuses_faults = refuses_faults _ _ _ c.say-said.result cause c.say-said.ensures.said c.status_of.ensures;
        counts = says_counts _ _ c.say-said.result cause c.status_of.ensures;
      };
      costs = c.run-outcome.ensures.ran.1;
      usage = λ usage. c.run-outcome.ensures.usage (usage_ended c.run-outcome.result c.say-said.result c.status_of.result c.status_of.ensures usage c.say-said.ensures.kept);
    }
