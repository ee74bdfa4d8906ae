use Rattle.std.proofs.Common.{arith, ap, subst, ◌∙◌}
use Rattle.std.proofs.lemmas.Result.{IfOk-weaker}
use Rattle.np_model.specs.Prelude.{IsLawful}
use Rattle.np_fold.specs.Prelude.{folding_of}
use Rattle.np_routes.proofs.ReachedLemmas.{controller-asked, every_pod-of, send_steps-most, set-of_controller, set-of_other}
use Rattle.np_routes.proofs.routes.Routes.ingress_set.Goals as goal
use Rattle.np_routes.specs.Prelude.{Routing, sender_for}
use Rattle.np_table.proofs.SetLemmas.{IfOk-both}
use Rattle.np_kinds.specs.Prelude.{source_pod}

pub returns-then-eq-clause-set : goal.returns-then-eq-clause-set
returns-then-eq-clause-set g c =
    let same = ap (λ (r : Routing). r.controller) c.self.view_is in
    let is = controller-asked c.args.self.now.controller c.self.inside.controller c.args.workload c.eq.result _ same c.eq.ensures c.if-eq.true in
    IfOk-both c.nothing.result _ _ _ (λ made members well. set-of_controller c.args.self.now.lists c.args.self.now.controller c.args.workload made is well members) c.nothing.ensures.members
    c.nothing.ensures.well

pub returns-clause-set : goal.returns-clause-set
returns-clause-set g c =
    let same = ap (λ (r : Routing). r.controller) c.self.view_is in
    let other = controller-asked c.args.self.now.controller c.self.inside.controller c.args.workload c.eq.result _ same c.eq.ensures c.if-eq.false in
    let stands = c.first_place-place.ensures.value ∙ ap (λ (r : Routing). source_pod (folding_of r.lists) c.args.workload) c.self.view_is in
    let lists = c.self.invariant.0 ∙ ap (λ (r : Routing). r.lists) c.self.view_is in
    let sender = c.self.invariant.1 ∙ ap (λ (r : Routing). sender_for r.lists r.controller) c.self.view_is in
    IfOk-both c.reached_set.result _ _ _ (λ made members well. set-of_other c.args.self.now.lists c.args.self.now.controller c.args.workload c.first_place-place.result c.self.inside.backends
    c.self.inside.sender made other stands lists sender well members) c.reached_set.ensures.members c.reached_set.ensures.well

pub returns-clause-every_pod : goal.returns-clause-every_pod
returns-clause-every_pod g c other =
    let lawful = subst (λ (r : Routing). IsLawful r.lists) c.self.view_is c.first_place-place.ensures.lawful in
    IfOk-weaker c.reached_set.result _ _ (λ made is. every_pod-of c.args.self.now.lists c.args.self.now.controller c.args.workload made lawful c.requires is other) (returns-clause-set g c)

pub returns-clause-most : goal.returns-clause-most
returns-clause-most g c =
    let stands = c.first_place-place.ensures.value ∙ ap (λ (r : Routing). source_pod (folding_of r.lists) c.args.workload) c.self.view_is in
    let lists = c.self.invariant.0 ∙ ap (λ (r : Routing). r.lists) c.self.view_is in
    let sender = c.self.invariant.1 ∙ ap (λ (r : Routing). sender_for r.lists r.controller) c.self.view_is in
    omega (
      arith,
      c.reached_set.ensures.most,
      send_steps-most c.args.self.now.lists c.args.self.now.controller c.args.workload c.first_place-place.result c.self.inside.backends c.self.inside.sender
          stands lists sender,
    )
