use Rattle.std.proofs.Common.{◌≡◌, Err, length, sym, ap, subst, ◌∙◌, arith}
use Rattle.std.specs.Prelude.{IfSome, IsOk}
use Rattle.std.proofs.lemmas.Iterator.Adapters.{YieldsList-from_vec}
use Rattle.std.proofs.lemmas.Iterator.Consumers.{YieldsList-end, YieldsList-turn}
use Rattle.std.proofs.lemmas.List.{length_push}
use Rattle.std.proofs.lemmas.Result.{err_from_is_err_and}
use Rattle.np_statements.proofs.AllPodsLemmas.{settled-left}
use Rattle.np_statements.proofs.AmongLemmas.{known-line, line_unknown, name_unknown, none_broken, one_broken, one_left}
use Rattle.np_statements.proofs.FoundLemmas.{at_turn}
use Rattle.np_statements.specs.Prelude.{EstateLists, HasPlaces, IsAsked, IsWellLine, broken_of, ends_found}
use Rattle.np_statements.proofs.checking.first_broken.Goals as goal

pub returns-in-Some-clause-first : goal.returns-in-Some-clause-first
returns-in-Some-clause-first c =
    let unknown : ends_found c.args.folded.now c.args.statements ≡ Err c.in-Some.name.now = rw c.items.ensures at c.in-Some.ensures in
    name_unknown c.args.folded.now c.args.statements c.in-Some.name.now unknown ∙ ap Err (sym c.in_ok-copy.ensures)

pub loop-line-preserved-then-has : goal.loop-line-preserved-then-has
loop-line-preserved-then-has c =
    let turn = YieldsList-turn (YieldsList-from_vec c.args.statements (c.into_iter-line-iterator.ensures.into_iter_gives.0 ∙ c.into_vec-line-items.ensures)
    (c.into_iter-line-iterator.ensures.into_iter_gives.1 ∙ c.into_vec-line-items.result.ok.0 ∙ ap length c.into_vec-line-items.ensures)) c.loop-line.yielded c.loop-line.line-iterator
    c.loop-line.yielded_by c.next.result c.next.new.self c.in-Some-line.line c.in-Some-line.is c.next.ensures.steps in
    record {
      left = settled-left c.args.folded.now c.in_ok-settled.settled c.args.statements _ _ c.in-Some-line.line turn c.loop-line.invariant.left (rw c.items-2.ensures at c.in_ok-settled.ensures.settled)
          (sym c.has.ensures ∙ c.if-has.true) (length_push c.loop-line.yielded c.in-Some-line.line);
      same = c.loop-line.invariant.same;
    }

pub asked_of-requires : goal.asked_of-requires
asked_of-requires c =
    let turn = YieldsList-turn (YieldsList-from_vec c.args.statements (c.into_iter-line-iterator.ensures.into_iter_gives.0 ∙ c.into_vec-line-items.ensures)
    (c.into_iter-line-iterator.ensures.into_iter_gives.1 ∙ c.into_vec-line-items.result.ok.0 ∙ ap length c.into_vec-line-items.ensures)) c.loop-line.yielded c.loop-line.line-iterator
    c.loop-line.yielded_by c.next.result c.next.new.self c.in-Some-line.line c.in-Some-line.is c.next.ensures.steps in
    at_turn IsWellLine c.args.statements _ c.in-Some-line.line turn c.requires

pub returns-in_err-asked_line-clause-first : goal.returns-in_err-asked_line-clause-first
returns-in_err-asked_line-clause-first c =
    let turn = YieldsList-turn (YieldsList-from_vec c.args.statements (c.into_iter-line-iterator.ensures.into_iter_gives.0 ∙ c.into_vec-line-items.ensures)
    (c.into_iter-line-iterator.ensures.into_iter_gives.1 ∙ c.into_vec-line-items.result.ok.0 ∙ ap length c.into_vec-line-items.ensures)) c.loop-line.yielded c.loop-line.line-iterator
    c.loop-line.yielded_by c.next.result c.next.new.self c.in-Some-line.line c.in-Some-line.is c.next.ensures.steps in
    let answer = err_from_is_err_and c.from_residual-in_err-asked_line.result c.from_residual-in_err-asked_line.ensures.1 in
    rw (answer.1, answer.2) (line_unknown c.args.folded.now c.args.statements _ c.in-Some-line.line c.in_err-asked_line.field-0.0 turn c.loop-line.invariant.left c.in_err-asked_line.ensures)

pub broken_of-requires : goal.broken_of-requires
broken_of-requires c =
    let turn = YieldsList-turn (YieldsList-from_vec c.args.statements (c.into_iter-line-iterator.ensures.into_iter_gives.0 ∙ c.into_vec-line-items.ensures)
    (c.into_iter-line-iterator.ensures.into_iter_gives.1 ∙ c.into_vec-line-items.result.ok.0 ∙ ap length c.into_vec-line-items.ensures)) c.loop-line.yielded c.loop-line.line-iterator
    c.loop-line.yielded_by c.next.result c.next.new.self c.in-Some-line.line c.in-Some-line.is c.next.ensures.steps in
    subst (λ (lists : EstateLists). IsAsked lists c.in_ok-asked_line.asked_line) (sym c.loop-line.invariant.same)
    (known-line c.args.folded.now c.in-Some-line.line c.in_ok-asked_line.asked_line (at_turn IsWellLine c.args.statements _ c.in-Some-line.line turn c.requires) c.in_ok-asked_line.ensures)

pub returns-then-is_some-clause-first : goal.returns-then-is_some-clause-first
returns-then-is_some-clause-first c =
    let turn = YieldsList-turn (YieldsList-from_vec c.args.statements (c.into_iter-line-iterator.ensures.into_iter_gives.0 ∙ c.into_vec-line-items.ensures)
    (c.into_iter-line-iterator.ensures.into_iter_gives.1 ∙ c.into_vec-line-items.result.ok.0 ∙ ap length c.into_vec-line-items.ensures)) c.loop-line.yielded c.loop-line.line-iterator
    c.loop-line.yielded_by c.next.result c.next.new.self c.in-Some-line.line c.in-Some-line.is c.next.ensures.steps in
    let known : IsOk (ends_found c.args.folded.now c.args.statements) = rw c.items.ensures at c.in_default.ensures in
    let broken = c.in_ok-found.ensures.broken ∙ ap (λ (lists : EstateLists). broken_of lists c.in_ok-asked_line.asked_line) c.loop-line.invariant.same in
    one_broken c.args.folded.now c.args.statements _ c.in-Some-line.line c.in_ok-asked_line.asked_line c.in_ok-found.found turn c.loop-line.invariant.left known c.in_ok-asked_line.ensures broken
    (sym c.is_some.ensures ∙ c.if-is_some.true)

pub returns-then-is_some-clause-places : goal.returns-then-is_some-clause-places
returns-then-is_some-clause-places c = subst (λ (lists : EstateLists). IfSome c.in_ok-found.found (HasPlaces lists)) c.loop-line.invariant.same c.in_ok-found.ensures.places

pub loop-line-preserved : goal.loop-line-preserved
loop-line-preserved c =
    let turn = YieldsList-turn (YieldsList-from_vec c.args.statements (c.into_iter-line-iterator.ensures.into_iter_gives.0 ∙ c.into_vec-line-items.ensures)
    (c.into_iter-line-iterator.ensures.into_iter_gives.1 ∙ c.into_vec-line-items.result.ok.0 ∙ ap length c.into_vec-line-items.ensures)) c.loop-line.yielded c.loop-line.line-iterator
    c.loop-line.yielded_by c.next.result c.next.new.self c.in-Some-line.line c.in-Some-line.is c.next.ensures.steps in
    let broken = c.in_ok-found.ensures.broken ∙ ap (λ (lists : EstateLists). broken_of lists c.in_ok-asked_line.asked_line) c.loop-line.invariant.same in
    record {
      left = one_left c.args.folded.now c.args.statements _ _ c.in-Some-line.line c.in_ok-asked_line.asked_line c.in_ok-found.found turn c.loop-line.invariant.left c.in_ok-asked_line.ensures broken
          (sym c.is_some.ensures ∙ c.if-is_some.false) (length_push c.loop-line.yielded c.in-Some-line.line);
      same = c.in_ok-found.ensures.same ∙ c.loop-line.invariant.same;
    }

pub returns-clause-first : goal.returns-clause-first
returns-clause-first c =
    let end = YieldsList-end (YieldsList-from_vec c.args.statements (c.into_iter-line-iterator.ensures.into_iter_gives.0 ∙ c.into_vec-line-items.ensures)
    (c.into_iter-line-iterator.ensures.into_iter_gives.1 ∙ c.into_vec-line-items.result.ok.0 ∙ ap length c.into_vec-line-items.ensures)) c.loop-line.yielded c.loop-line.line-iterator
    c.loop-line.yielded_by c.next.result c.next.new.self c.in-None.is c.next.ensures.steps in
    none_broken c.args.folded.now c.args.statements _ (omega (arith, end.1)) c.loop-line.invariant.left
