use Rattle.std.proofs.Common.{List, map, ap, ◌∙◌}
use Rattle.np_kinds.specs.Prelude.{Egress, EstateLists, Ingress}
use Rattle.np_reach.specs.Prelude.{reach_of}
use Rattle.np_rules.specs.Prelude.{PodEnd, pod_end}
use Rattle.np_kinds.proofs.ReachLemmas.{reach-right}
use Rattle.np_kinds.proofs.kind_reach.KindReach.of.Goals as goal

pub returns-clause-sent : goal.returns-clause-sent
returns-clause-sent c =
    rw c.deref.ensures.value at (c.in_ok-sent.ensures ∙ ap (λ (l : EstateLists). reach_of l Egress (map (λ one. pod_end one.now) c.deref.result.now)) c.estate-estate.ensures.value)
    ∙ ap (λ (ends : List PodEnd). reach_of c.args.folded.now Egress ends) c.in_ok-pods.ensures

pub returns-clause-received : goal.returns-clause-received
returns-clause-received c =
    rw c.deref-2.ensures.value at (c.in_ok-received.ensures ∙ ap (λ (l : EstateLists). reach_of l Ingress (map (λ one. pod_end one.now) c.deref-2.result.now)) c.estate-estate.ensures.value)
    ∙ ap (λ (ends : List PodEnd). reach_of c.args.folded.now Ingress ends) c.in_ok-pods.ensures

pub returns-clause-right : goal.returns-clause-right
returns-clause-right c =
    let ends = map (λ one. pod_end one.now) c.in_ok-pods.pods.items in
    record {
      sent = reach-right c.args.folded.now Egress ends c.in_ok-sent.sent c.in_ok-pods.ensures
          (rw c.deref.ensures.value at (c.in_ok-sent.ensures ∙ ap (λ (l : EstateLists). reach_of l Egress (map (λ one. pod_end one.now) c.deref.result.now)) c.estate-estate.ensures.value));
      received = reach-right c.args.folded.now Ingress ends c.in_ok-received.received c.in_ok-pods.ensures
          (rw c.deref-2.ensures.value at (c.in_ok-received.ensures ∙ ap (λ (l : EstateLists). reach_of l Ingress (map (λ one. pod_end one.now) c.deref-2.result.now)) c.estate-estate.ensures.value));
    }
