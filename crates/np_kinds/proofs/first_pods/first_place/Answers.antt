use Rattle.std.proofs.Common.{refl}
use Rattle.np_fold.specs.Prelude.{folding_of}
use Rattle.np_kinds.proofs.first_pods.first_place.Goals as goal
use Rattle.np_kinds.proofs.MemberLemmas.{members-some, members-within, source-member}

pub bounds-members-0 : goal.bounds-members-0
bounds-members-0 c = rw (c.members.ensures, c.workloads.ensures.value) (members-some c.args.folded.now (folding_of c.args.folded.now) c.args.workload refl c.requires)

pub returns-clause-within : goal.returns-clause-within
returns-clause-within c =
    let some = members-some c.args.folded.now (folding_of c.args.folded.now) c.args.workload refl c.requires in
    rw (c.members.ensures, c.workloads.ensures.value) (members-within c.args.folded.now (folding_of c.args.folded.now) c.args.workload _ refl c.requires
    (source-member (folding_of c.args.folded.now) c.args.workload some))
