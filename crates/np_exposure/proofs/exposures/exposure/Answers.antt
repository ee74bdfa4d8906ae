use Rattle.std.proofs.Common.{refl}
use Rattle.np_exposure.proofs.BeginLemmas.{walked-rows_of}
use Rattle.np_exposure.proofs.LeftLemmas.{walked-list}
use Rattle.np_rules.specs.Prelude.{side_of}
use Rattle.np_exposure.proofs.exposures.exposure.Goals as goal

pub returns-clause-rows : goal.returns-clause-rows
returns-clause-rows c =
    walked-rows_of (side_of c.args.estate.now c.args.pod c.args.direction) _ c.in_ok-mentions.mentions.items _ refl c.in_ok-mentions.ensures c.in_ok-rows_of_mentions.ensures

pub returns-clause-list : goal.returns-clause-list
returns-clause-list c =
    walked-list (side_of c.args.estate.now c.args.pod c.args.direction) _ c.in_ok-mentions.mentions.items _ refl c.in_ok-mentions.ensures c.in_ok-rows_of_mentions.ensures
