use Rattle.std.proofs.Common.{refl}
use Rattle.np_fold.specs.Prelude.{folding_of}
use Rattle.np_kinds.proofs.MemberLemmas.{members-some, members-within, source-member}
use Rattle.np_kinds.proofs.PairLemmas.{far-within, far_is}
use Rattle.np_table.proofs.pair_sets.rules_of_pair.Goals as goal

pub far_pod-requires-clause-some : goal.far_pod-requires-clause-some
far_pod-requires-clause-some c = rw c.workloads-workloads.ensures.value (members-some c.args.folded.now (folding_of c.args.folded.now) c.args.destination refl c.requires.destination)

pub bounds-members-0 : goal.bounds-members-0
bounds-members-0 c = rw (c.members.ensures, c.workloads-workloads.ensures.value) (members-some c.args.folded.now (folding_of c.args.folded.now) c.args.source refl c.requires.source)

pub of-requires : goal.of-requires
of-requires c =
    let some = members-some c.args.folded.now (folding_of c.args.folded.now) c.args.source refl c.requires.source in
    rw (c.estate-estate.ensures.value, c.members.ensures, c.workloads-workloads.ensures.value)
    (members-within c.args.folded.now (folding_of c.args.folded.now) c.args.source _ refl c.requires.source (source-member (folding_of c.args.folded.now) c.args.source some))

pub of-requires-2 : goal.of-requires-2
of-requires-2 c =
    rw c.estate-estate.ensures.value (far-within c.args.folded.now (folding_of c.args.folded.now) c.args.source c.args.destination c.in-Some.far refl c.requires.destination
    (rw c.workloads-workloads.ensures.value at c.in-Some.ensures))

pub returns-clause-ends : goal.returns-clause-ends
returns-clause-ends c =
    let both = far_is (folding_of c.args.folded.now) c.args.source c.args.destination c.in-Some.far (rw c.workloads-workloads.ensures.value at c.in-Some.ensures) in
    rw (both.0, c.in_ok-sender.ensures, c.in_ok-receiver.ensures, c.members.ensures, c.workloads-workloads.ensures.value, c.estate-estate.ensures.value, both.1) refl
