use Rattle.std.proofs.Common.{ap, ◌∙◌}
use Rattle.std.specs.BTreeSet.{insert_key}
use Rattle.np_fold.proofs.BlockLemmas.{HaveSame-more, compare_starts}
use Rattle.np_fold.proofs.distinct_blocks.starts_of.Goals as goal

pub loop-cidr-preserved : goal.loop-cidr-preserved
loop-cidr-preserved c =
    HaveSame-more c.loop-cidr.starts.keys c.insert.new.self.keys c.args.cidrs.now c.loop-cidr.cidr-index c.cidr-item.result c.loop-cidr-test.true c.cidr-item.is
    (c.in_ok-insert.ensures.keys ∙ ap (insert_key compare_starts c.loop-cidr.starts.keys) c.start_of.ensures) c.loop-cidr.invariant
