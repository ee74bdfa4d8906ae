use Rattle.std.proofs.Common.{◌≡◌, length, refl, ap, subst, ◌∙◌, inl, arith, rules, sum_by}
use Rattle.std.proofs.lemmas.List.{take_all}
use Rattle.std.proofs.lemmas.Result.{err_from_is_err_and}
use Rattle.np_io.specs.Prelude.{BeganNext}
use Rattle.np_frame.specs.Prelude.{HandedOut}
use Rattle.np_frame.proofs.SourcesLemmas.{AreTold-length, BeganFront-next, BeganNext-none, Began-next, HandedOut-more, HandedOut-none, bytes_of-more, total_size-more, RoseBy-more, told-next, Unread-next}
use Rattle.np_frame.proofs.sources.read_all.Goals as goal

pub loop-name-init : goal.loop-name-init
loop-name-init g c = record {
  so_far = λ texts told. rw c.new-texts.ensures.items refl;
  counted = rw c.new-texts.ensures.items refl;
  handed = rw c.new-texts.ensures.items (inl (omega arith));
  out = rw c.new-texts.ensures.items (HandedOut-none _);
  began = BeganNext-none _ _ refl;
  faults = refl;
  names = refl;
  left_told = refl;
}

pub loop-name-preserved : goal.loop-name-preserved
loop-name-preserved g c =
    let kept = c.loop-name.invariant in
    record {
      so_far = λ texts told.
          let fewer = AreTold-length _ _ c.args.names.now texts told in
          rw c.in_ok-push.ensures.items (bytes_of-more texts c.loop-name.texts.items c.in_ok-text.text c.loop-name.name-index (omega arith) (kept.so_far texts told)
          (c.in_ok-text.ensures.whole _ (told-next _ _ _ _ c.args.names.now texts c.loop-name.name-index c.name-item.result kept.names kept.left_told c.loop-name-test.true c.name-item.is told)));
      counted =
          let len : length c.in_ok-text.text.items ≡ c.len.result = search rules in
          let fits = c.in_ok-text.ensures.fits in
          let counted = kept.counted in
          rw (c.in_ok-push.ensures.items, total_size-more) (omega arith);
      handed = rw (c.in_ok-push.ensures.items, total_size-more, c.in_ok-text.ensures.handed) (RoseBy-more _ _ _ _ kept.handed);
      out = rw (c.in_ok-push.ensures.items, total_size-more) (HandedOut-more _ _ _ _ _ kept.out c.in_ok-text.ensures.handed);
      began = Began-next _ _ _ c.args.names.now c.loop-name.name-index c.name-item.result c.loop-name-test.true c.name-item.is kept.began c.read_next.ensures.began;
      faults = c.in_ok-text.ensures.ok_faults ∙ kept.faults;
      names = c.read_next.ensures.names ∙ kept.names;
      left_told = c.read_next.ensures.left_told ∙ kept.left_told;
    }

pub returns-clause-told : goal.returns-clause-told
returns-clause-told g c = λ texts told.
    let fewer = AreTold-length _ _ c.args.names.now texts told in
    c.loop-name.invariant.so_far texts told ∙ take_all c.loop-name.name-index texts (omega arith)

pub returns-clause-once : goal.returns-clause-once
returns-clause-once g c =
    let kept = c.loop-name.invariant in
    let most = kept.out.most in
    let counted = kept.counted in
    record {
      unfailed = kept.faults;
      began = subst (BeganNext _ _) (take_all c.loop-name.name-index c.args.names.now (omega arith)) kept.began;
      in_room = omega arith;
      handed = λ texts told.
          let fewer = AreTold-length _ _ c.args.names.now texts told in
          subst (HandedOut _ _) (ap (sum_by length) (kept.so_far texts told ∙ take_all c.loop-name.name-index texts (omega arith))) kept.out;
    }

pub returns-in_err-text-clause-err : goal.returns-in_err-text-clause-err
returns-in_err-text-clause-err g c =
    let p = err_from_is_err_and c.from_residual.result c.from_residual.ensures.1 in
    let kept = c.loop-name.invariant in
    rw (p.1, p.2) (Unread-next _ _ _ _ _ _ c.args.names.now c.loop-name.texts.items c.loop-name.name-index c.loop-name.room c.name-item.result c.in_err-text.field-0.0 kept.names kept.left_told
    kept.faults c.loop-name-test.true c.name-item.is kept.so_far kept.counted kept.handed kept.out kept.began c.read_next.ensures.began c.in_err-text.ensures.err)

pub returns-in_err-push-clause-err : goal.returns-in_err-push-clause-err
returns-in_err-push-clause-err g c =
    let p = err_from_is_err_and c.from_residual-in_err-push.result c.from_residual-in_err-push.ensures.1 in
    let kept = c.loop-name.invariant in
    rw (p.1, p.2) (BeganFront-next _ c.args.names.now c.loop-name.name-index
    (Began-next _ _ _ c.args.names.now c.loop-name.name-index c.name-item.result c.loop-name-test.true c.name-item.is kept.began c.read_next.ensures.began))
