use Rattle.std.proofs.Common.{refl, sym, ap, ◌∙◌}
use Rattle.std.specs.Str.{bytes_eq}
use Rattle.np_statements.specs.Prelude.{Pod}
use Rattle.np_fold.specs.Prelude.{folding_of}
use Rattle.np_statements.proofs.EndLemmas.{in_namespace-by}
use Rattle.np_kinds.proofs.MemberLemmas.{members-some, members-within, source-member}
use Rattle.np_statements.proofs.ends.is_in_namespace.Goals as goal

pub bounds-members-0 : goal.bounds-members-0
bounds-members-0 c = rw (c.members.ensures, c.workloads.ensures.value) (members-some c.args.folded.now (folding_of c.args.folded.now) c.args.work refl c.requires)

pub bounds-pods-first : goal.bounds-pods-first
bounds-pods-first c =
    let some = members-some c.args.folded.now (folding_of c.args.folded.now) c.args.work refl c.requires in
    rw (c.pods.ensures, c.estate.ensures.value, c.members.ensures, c.workloads.ensures.value)
    (members-within c.args.folded.now (folding_of c.args.folded.now) c.args.work _ refl c.requires (source-member (folding_of c.args.folded.now) c.args.work some))

pub returns : goal.returns
returns c =
    let some = members-some c.args.folded.now (folding_of c.args.folded.now) c.args.work refl c.requires in
    let within = members-within c.args.folded.now (folding_of c.args.folded.now) c.args.work _ refl c.requires (source-member (folding_of c.args.folded.now) c.args.work some) in
    in_namespace-by c.args.folded.now c.args.name.now c.args.work c.members.result.now c.pods.result.now c.index-pods-first.result c.eq.result (c.members.ensures ∙ rw c.workloads.ensures.value refl)
    (c.pods.ensures ∙ rw c.estate.ensures.value refl) within c.index-pods-first.is
    ((rw c.as_str.ensures at c.eq.ensures) ∙ ap (λ (pod : Pod). bytes_eq pod.namespace c.args.name.now) (sym c.index-pods-first.is))
