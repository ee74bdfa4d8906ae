use Rattle.std.proofs.Common.{◌∙◌}
use Rattle.np_fold.proofs.MemberLemmas.{workload-last}
use Rattle.np_fold.proofs.members.put_last.Goals as goal

pub returns : goal.returns
returns c = workload-last c.args.by_name.now.entries c.insert.new.self.entries c.in_ok-name.name c.args.name.now c.args.members
    (c.in_ok-name.ensures.ok ∙ c.as_str.ensures) c.requires c.in_ok-insert.ensures.entries
