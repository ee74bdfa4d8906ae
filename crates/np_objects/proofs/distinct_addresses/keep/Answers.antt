use Rattle.std.proofs.Common.{true, false, ◌∙◌, sym, subst}
use Rattle.std.proofs.lemmas.Result.{on_ok_weaker}
use Rattle.np_objects.proofs.AddressLemmas.{kept_with-added, HaveSame-more}
use Rattle.np_objects.specs.Prelude.{HaveSame}
use Rattle.np_objects.proofs.distinct_addresses.keep.Goals as goal

pub returns-then-not-branch-clause-kept : goal.returns-then-not-branch-clause-kept
returns-then-not-branch-clause-kept c =
    sym (kept_with-added c.args.kept.now c.args.known.now.keys c.args.address c.in-Some.address c.in_ok-insert.field-0 false c.requires c.in-Some.is c.in_ok-insert.ensures.added c.if-not-branch.true)

pub returns-clause-kept : goal.returns-clause-kept
returns-clause-kept c =
    on_ok_weaker c.push.result (λ put. put ∙ sym (kept_with-added c.args.kept.now c.args.known.now.keys c.args.address c.in-Some.address c.in_ok-insert.field-0 true c.requires c.in-Some.is
    c.in_ok-insert.ensures.added c.if-not-branch.false)) c.push.ensures.ok

pub returns-clause-known : goal.returns-clause-known
returns-clause-known c =
    let keys = c.insert.new.self.keys in
    on_ok_weaker c.push.result (λ put. subst (λ kept. HaveSame kept keys) (sym put)
    (HaveSame-more c.args.kept.now c.args.known.now.keys keys c.in-Some.address c.requires c.in_ok-insert.ensures.updates.0)) c.push.ensures.ok
