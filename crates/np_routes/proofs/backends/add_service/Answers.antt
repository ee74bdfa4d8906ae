use Rattle.std.proofs.Common.{List, ℕ, [], ◌∷◌, ◌++◌, ap, refl, ◌∙◌, if◌then◌else◌}
use Rattle.std.proofs.lemmas.Result.{on_ok_weaker}
use Rattle.std.specs.Str.{bytes_eq}
use Rattle.np_routes.proofs.AnyLemmas.{or-nothing}
use Rattle.np_routes.proofs.AskedLemmas.{asked-none}
use Rattle.np_routes.proofs.TargetLemmas.{service-added}
use Rattle.np_routes.proofs.backends.add_service.Goals as goal
use Rattle.np_routes.specs.Prelude.{targets_in}

pub returns-then-is_empty : goal.returns-then-is_empty
returns-then-is_empty c p number = or-nothing _ _ (asked-none p number c.args.asked.now (c.if-is_empty.ensures refl))

pub returns : goal.returns
returns c =
    on_ok_weaker c.put_last.result (λ put p number.
    service-added (targets_in c.args.by_namespace.now p.namespace) (targets_in c.put_last.new.by_namespace p.namespace) c.in_ok-targets.targets c.args.asked.now p number
    (put p.namespace ∙ ap (λ (text : List ℕ). targets_in c.args.by_namespace.now p.namespace ++ (if bytes_eq text p.namespace then c.in_ok-targets.targets ∷ [] else [])) c.as_str.ensures)
    c.in_ok-targets.ensures.service (c.in_ok-targets.ensures.targets p number)) c.put_last.ensures
