-- What a sink took of bytes that were written one after another, or put behind those that are held.
-- For `BufferedSink::put` and crates above.
use Rattle.std.proofs.Common.{◌≡◌, ◌<◌, ℕ, List, [], ◌++◌, length, Option, Some, None, refl, sym, ap, subst, ◌∙◌, append_assoc, append-nil, arith, length-append}
use Rattle.std.specs.Io.KnownBytes.{append_known}
use Rattle.np_io.specs.Prelude.{TookAllBut, TookFront, TookLess}

-- ---- bytes that are taken one after another

-- no bytes change nothing
pub append_known-nil : (known : Option (List ℕ)) → append_known known [] ≡ known
append_known-nil None = refl
append_known-nil (Some taken) = ap Some (append-nil taken)

-- bytes taken one after another were taken together
pub append_known-append_known : (known : Option (List ℕ)) (first second : List ℕ) → append_known (append_known known first) second ≡ append_known known (first ++ second)
append_known-append_known None first second = refl
append_known-append_known (Some taken) first second = ap Some (append_assoc taken first second)

-- the same of a sink that took them
pub took_together : (old middle new : Option (List ℕ)) (first second : List ℕ) → middle ≡ append_known old first → new ≡ append_known middle second → new ≡ append_known old (first ++ second)
took_together old middle new first second took takes =
    takes ∙ ap (λ (known : Option (List ℕ)). append_known known second) took ∙ append_known-append_known old first second

-- ---- fronts

-- a front of the first bytes is one of those with more behind them
pub TookFront-append : (old new : Option (List ℕ)) (first second : List ℕ) → TookFront old new first → TookFront old new (first ++ second)
TookFront-append old new first second took = record {
  front = took.front;
  rest = took.rest ++ second;
  parts = ap (λ xs. xs ++ second) took.parts ∙ append_assoc took.front took.rest second;
  taken = took.taken;
}

-- a front of the second bytes, behind all of the first ones, is one of both together
pub TookFront-after : (old middle new : Option (List ℕ)) (first second : List ℕ) → middle ≡ append_known old first → TookFront middle new second → TookFront old new (first ++ second)
TookFront-after old middle new first second wrote took = record {
  front = first ++ took.front;
  rest = took.rest;
  parts = ap (λ xs. first ++ xs) took.parts ∙ sym (append_assoc first took.front took.rest);
  taken = took_together old middle new first took.front wrote took.taken;
}

-- ---- fronts that are not the whole

-- a sink that took nothing took less than all
pub TookLess-none : (known : Option (List ℕ)) (bytes : List ℕ) → TookLess known known bytes
TookLess-none known bytes = record { front = []; rest = bytes; parts = refl; taken = sym (append_known-nil known); less = λ some. some }

-- so a sink that took all, and tells it, did not take less
pub TookLess-not_all : (before : List ℕ) (new : Option (List ℕ)) (bytes : List ℕ) → TookLess (Some before) new bytes → new ≡ append_known (Some before) bytes → 0 < length bytes → ⊥
TookLess-not_all before new bytes less all some =
    let known : Some (before ++ bytes) ≡ Some (before ++ less.front) = sym all ∙ less.taken in
    let same : before ++ bytes ≡ before ++ less.front = cc in
    omega (arith, ap length same, length-append before bytes, length-append before less.front, ap length less.parts, length-append less.front less.rest, less.less some)

-- where anything is left, something is left of a piece, or of what stands behind it
some_left : (whole held piece rest held' : List ℕ) → (0 < length whole → 0 < length (held ++ (piece ++ rest))) → (0 < length (held ++ piece) → 0 < length held') →
    0 < length whole → 0 < length (held' ++ rest)
some_left whole held piece rest held' left put some =
    grind (arith, left some, length-append held (piece ++ rest), length-append piece rest, length-append held piece, length-append held' rest)

-- ---- bytes that are put one after another, some of which are held while the sink waits: `bytes` is the whole, and `held`
-- ---- and then `rest` are left of it

-- before the first call all is left
pub TookAllBut-all : (known : Option (List ℕ)) (bytes : List ℕ) → TookAllBut known known bytes bytes
TookAllBut-all known bytes = record { front = []; parts = refl; taken = sym (append_known-nil known); less = λ some. some }

-- the sink took what was held and the first of the bytes, and not the last of them
pub TookAllBut-last : (old middle new : Option (List ℕ)) (held first last : List ℕ) → middle ≡ append_known old held → new ≡ append_known middle first → 0 < length last →
    TookAllBut old new (held ++ (first ++ last)) last
TookAllBut-last old middle new held first last took takes some = record {
  front = held ++ first;
  parts = sym (append_assoc held first last);
  taken = took_together old middle new held first took takes;
  less = λ _. some;
}

-- what it took so far is less than all
pub TookAllBut-less : (old new : Option (List ℕ)) (bytes left : List ℕ) → TookAllBut old new bytes left → TookLess old new bytes
TookAllBut-less old new bytes left took = record { front = took.front; rest = left; parts = took.parts; taken = took.taken; less = took.less }

-- a piece is put: what is then held stands before what is still to come
pub TookAllBut-put : (old middle new : Option (List ℕ)) (bytes held piece held' rest : List ℕ) → TookAllBut old middle bytes (held ++ (piece ++ rest)) → TookAllBut middle new (held ++ piece) held' →
    TookAllBut old new bytes (held' ++ rest)
TookAllBut-put old middle new bytes held piece held' rest took put =
    let left : held ++ (piece ++ rest) ≡ put.front ++ (held' ++ rest) = sym (append_assoc held piece rest) ∙ ap (λ xs. xs ++ rest) put.parts ∙ append_assoc put.front held' rest in
    record {
      front = took.front ++ put.front;
      parts = took.parts ∙ ap (λ xs. took.front ++ xs) left ∙ sym (append_assoc took.front put.front (held' ++ rest));
      taken = took_together old middle new took.front put.front took.taken put.taken;
      less = some_left bytes held piece rest held' took.less put.less;
    }

-- all that is left is taken: the sink took the whole
pub TookAllBut-finish : (old middle new : Option (List ℕ)) (bytes left : List ℕ) → TookAllBut old middle bytes left → new ≡ append_known middle left → new ≡ append_known old bytes
TookAllBut-finish old middle new bytes left took finished =
    took_together old middle new took.front left took.taken finished ∙ ap (append_known old) (sym took.parts)

-- a front of what is held is taken: the sink took a front of the whole
pub TookAllBut-fault : (old middle new : Option (List ℕ)) (bytes held rest : List ℕ) → TookAllBut old middle bytes (held ++ rest) → TookFront middle new held → TookFront old new bytes
TookAllBut-fault old middle new bytes held rest took fault =
    subst (TookFront old new) (sym took.parts) (TookFront-after old middle new took.front (held ++ rest) took.taken (TookFront-append middle new held rest fault))

-- the same of a front of what is held and of the next piece
pub TookAllBut-put_fault : (old middle new : Option (List ℕ)) (bytes held piece rest : List ℕ) → TookAllBut old middle bytes (held ++ (piece ++ rest)) → TookFront middle new (held ++ piece) →
    TookFront old new bytes
TookAllBut-put_fault old middle new bytes held piece rest took fault =
    TookAllBut-fault old middle new bytes (held ++ piece) rest (subst (TookAllBut old middle bytes) (sym (append_assoc held piece rest)) took) fault

-- less than what is held and the next piece is taken: the sink took less than the whole
pub TookAllBut-put_less : (old middle new : Option (List ℕ)) (bytes held piece rest : List ℕ) → TookAllBut old middle bytes (held ++ (piece ++ rest)) → TookLess middle new (held ++ piece) →
    TookLess old new bytes
TookAllBut-put_less old middle new bytes held piece rest took less =
    let put : TookAllBut middle new (held ++ piece) less.rest = record { front = less.front; parts = less.parts; taken = less.taken; less = less.less } in
    TookAllBut-less old new bytes (less.rest ++ rest) (TookAllBut-put old middle new bytes held piece less.rest rest took put)
