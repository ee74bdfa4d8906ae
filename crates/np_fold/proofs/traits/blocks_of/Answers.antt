use Rattle.std.proofs.Common.{◌≡◌, ◌+◌, ◌++◌, ◌∷◌, [], Bool, cond, take, ap, append-nil, sym, ◌∙◌}
use Rattle.np_fold.specs.Prelude.{blocks_of, is_in}
use Rattle.np_fold.proofs.BlockLemmas.{places-more}
use Rattle.np_fold.proofs.traits.blocks_of.Goals as goal
use Rattle.np_fold.proofs.traits.blocks_of.Goals.{then-some_in+in_ok-push, else-some_in}

pub loop-place-preserved : goal.loop-place-preserved
loop-place-preserved c =
    let place = c.loop-place.place in
    let blocks = c.loop-place.blocks in
    -- the places so far, and this one where the test says so
    let more : (b : Bool) → c.some_in.result ≡ b → blocks ++ cond b (place ∷ []) [] ≡ blocks_of (take (place + 1) c.args.cidrs.now) c.args.addresses.now = λ b is.
    ap (λ (passed : Bool). blocks ++ cond passed (place ∷ []) []) (sym is ∙ c.some_in.ensures)
    ∙ places-more (is_in c.args.addresses.now) c.args.cidrs.now place c.index-cidrs-place.result blocks c.loop-place-test.true c.index-cidrs-place.is c.loop-place.invariant in
    elim c.if-some_in.branch [
      | then-some_in+in_ok-push w ↦ w.blocks-is ∙ w.in_ok-push.ensures.ok ∙ more _ w.if-some_in.true
      | else-some_in w ↦ w.blocks-is ∙ sym (append-nil blocks) ∙ more _ w.if-some_in.false
    ]
