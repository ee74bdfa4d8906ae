use Rattle.std.proofs.Common.{◌≡◌, true, arith, refl, rules}
use Rattle.std.proofs.lemmas.Result.{IfOk-weaker}
use Rattle.np_exposure.proofs.DecidedLemmas.{aside-at, filled-none, filled-still, step-at, still-at, still-short}
use Rattle.np_exposure.proofs.SettledLemmas.{aside-stands, case-stands}
use Rattle.np_exposure.proofs.WalkLemmas.{filled-alone, filled-joined, walked-leaf}
use Rattle.np_exposure.specs.Prelude.{AreWalked, StandForAll, are_at}
use Rattle.np_exposure.proofs.walk.+rows_of.Goals as goal

pub loop-first-init : goal.loop-first-init
loop-first-init t c = record {
  state = c.requires.state;
  keys = still-at c.args.requirements.now c.still_asked-more.result.now c.args.case.now.state.items c.deref.result.now c.deref.ensures.value c.still_asked-more.ensures c.requires.keys;
  shorter = still-short c.args.requirements.now c.still_asked-more.result.now c.deref.result.now c.still_asked-more.ensures;
  filled =
      filled-still c.args.rules.now c.args.requirements.now c.still_asked-more.result.now c.args.case.now.state.items c.deref.result.now c.new-pending.result
      (AreWalked c.args.rules.now c.args.requirements.now c.args.case.now.state.items)
      c.requires.state c.requires.keys c.deref.ensures.value c.still_asked-more.ensures
      (filled-none c.args.rules.now c.args.requirements.now c.args.case.now.state.items c.new-pending.result c.new-pending.ensures);
  net = c.requires.net;
}

pub rows_of-requires : goal.rows_of-requires
rows_of-requires t c =
    let keys : are_at c.in-Some-aside.aside.case.state.items c.in-Some.rest.now ≡ true =
    aside-at c.in-Some.first.now c.loop-first.more.now c.in-Some.rest.now c.loop-first.case.state.items c.next_step.new.case.state.items c.in_ok-aside.aside c.in-Some-aside.aside
    c.in-Some.ensures.cases.0 c.in-Some-aside.is c.in_ok-aside.ensures.step c.loop-first.invariant.keys in
    let net : StandForAll c.args.rules.now c.in-Some-aside.aside.case.state.items c.in-Some-aside.aside.case.net =
    aside-stands c.args.rules.now c.in-Some.first.now c.loop-first.case c.next_step.new.case c.in_ok-aside.aside c.in-Some-aside.aside c.namespace.result.now
    c.in-Some-aside.is c.namespace.ensures c.in_ok-aside.ensures.step c.in_ok-aside.ensures.aside_net c.loop-first.invariant.net in
    search rules

pub loop-first-preserved-in-Some-aside : goal.loop-first-preserved-in-Some-aside
loop-first-preserved-in-Some-aside t c =
    let keys : are_at c.next_step.new.case.state.items c.in-Some.rest.now ≡ true =
    step-at c.in-Some.first.now c.loop-first.more.now c.in-Some.rest.now c.loop-first.case.state.items c.next_step.new.case.state.items c.in_ok-aside.aside c.in-Some.ensures.cases.0
    c.in_ok-aside.ensures.step c.loop-first.invariant.keys in
    record {
      state = c.in_ok-aside.ensures.next;
      keys = still-at c.in-Some.rest.now c.still_asked-more-in-Some.result.now c.next_step.new.case.state.items c.deref-in-Some.result.now c.deref-in-Some.ensures.value
          c.still_asked-more-in-Some.ensures keys;
      shorter = omega (
        arith,
        c.in-Some.ensures.cases.1,
        c.loop-first.invariant.shorter,
        still-short c.in-Some.rest.now c.still_asked-more-in-Some.result.now c.deref-in-Some.result.now c.still_asked-more-in-Some.ensures,
      );
      filled =
          filled-still c.args.rules.now c.in-Some.rest.now c.still_asked-more-in-Some.result.now c.next_step.new.case.state.items c.deref-in-Some.result.now c.push.new.self
          (AreWalked c.args.rules.now c.args.requirements.now c.args.case.now.state.items)
          c.in_ok-aside.ensures.next keys c.deref-in-Some.ensures.value c.still_asked-more-in-Some.ensures
          (filled-joined c.args.rules.now c.in-Some.first.now c.loop-first.more.now c.in-Some.rest.now c.loop-first.case.state.items c.next_step.new.case.state.items c.loop-first.pending _
          c.in-Some.ensures.cases.0 c.loop-first.invariant.filled c.in_ok-aside.aside c.in-Some-aside.aside _ c.push.new.self c.in-Some-aside.is c.in_ok-aside.ensures.step
          c.in_ok-push.ensures.ok refl refl c.in_ok-rows.ensures);
      net =
          case-stands c.args.rules.now c.in-Some.first.now c.loop-first.case c.next_step.new.case c.in_ok-aside.aside c.namespace.result.now
          c.namespace.ensures c.in_ok-aside.ensures.step c.in_ok-aside.ensures.net c.loop-first.invariant.net;
    }

pub loop-first-preserved : goal.loop-first-preserved
loop-first-preserved t c =
    let keys : are_at c.next_step.new.case.state.items c.in-Some.rest.now ≡ true =
    step-at c.in-Some.first.now c.loop-first.more.now c.in-Some.rest.now c.loop-first.case.state.items c.next_step.new.case.state.items c.in_ok-aside.aside c.in-Some.ensures.cases.0
    c.in_ok-aside.ensures.step c.loop-first.invariant.keys in
    record {
      state = c.in_ok-aside.ensures.next;
      keys = still-at c.in-Some.rest.now c.still_asked-more-in-Some.result.now c.next_step.new.case.state.items c.deref-in-Some.result.now c.deref-in-Some.ensures.value
          c.still_asked-more-in-Some.ensures keys;
      shorter = omega (
        arith,
        c.in-Some.ensures.cases.1,
        c.loop-first.invariant.shorter,
        still-short c.in-Some.rest.now c.still_asked-more-in-Some.result.now c.deref-in-Some.result.now c.still_asked-more-in-Some.ensures,
      );
      filled =
          filled-still c.args.rules.now c.in-Some.rest.now c.still_asked-more-in-Some.result.now c.next_step.new.case.state.items c.deref-in-Some.result.now c.loop-first.pending
          (AreWalked c.args.rules.now c.args.requirements.now c.args.case.now.state.items)
          c.in_ok-aside.ensures.next keys c.deref-in-Some.ensures.value c.still_asked-more-in-Some.ensures
          (filled-alone c.args.rules.now c.in-Some.first.now c.loop-first.more.now c.in-Some.rest.now c.loop-first.case.state.items c.next_step.new.case.state.items c.loop-first.pending _
          c.in-Some.ensures.cases.0 c.loop-first.invariant.filled c.in_ok-aside.aside c.in_default-aside.is c.in_ok-aside.ensures.step);
      net =
          case-stands c.args.rules.now c.in-Some.first.now c.loop-first.case c.next_step.new.case c.in_ok-aside.aside c.namespace.result.now
          c.namespace.ensures c.in_ok-aside.ensures.step c.in_ok-aside.ensures.net c.loop-first.invariant.net;
    }

pub returns : goal.returns
returns t c =
    IfOk-weaker c.all_joined.result _ _
    (λ rows fills. c.loop-first.invariant.filled c.in_ok-last.last.items rows.items
    (walked-leaf c.args.rules.now c.loop-first.more.now c.loop-first.case.state.items _ c.in_ok-last.last.items c.in_default.ensures.cases refl c.in_ok-last.ensures) fills)
    c.all_joined.ensures
