use Rattle.std.proofs.Common.{◌≡◌, ◌≢◌, ◌<◌, ◌++◌, ◌∷◌, [], List, ℕ, get_or, length, map, refl, ap, sym, subst, All, ◌∙◌, arith, rules}
use Rattle.std.proofs.lemmas.Iterator.Adapters.{YieldsList-from_vec}
use Rattle.std.proofs.lemmas.Iterator.Consumers.{YieldsList-end, YieldsList-turn}
use Rattle.std.specs.List.{zip}
use Rattle.np_fold.specs.Prelude.{Named, Workload, workload_of, workload_of_entry, workload_of_pair}
use Rattle.np_fold.proofs.MemberLemmas.{entries-so_far, members-count, members-same, next-new, no-workloads, workloads-more}
use Rattle.np_fold.proofs.members.members_by_name.Goals as goal

pub bounds-named-place : goal.bounds-named-place
bounds-named-place c =
    let turn = YieldsList-turn (YieldsList-from_vec {s = c.into_iter-members-iterator.result} c.into_vec-members-items.result.items (search rules) (search rules))
    c.loop-members.yielded c.loop-members.members-iterator c.loop-members.yielded_by c.next.result c.next.new.self c.in-Some.members c.in-Some.is c.next.ensures.steps in
    let count = members-count c.args.numbers.now c.args.named.now c.args.named.now c.into_vec-members-items.result.items (c.into_vec-members-items.ensures ∙ c.in_ok-groups.ensures) refl in
    let within : length c.loop-members.yielded < length c.args.named.now = omega (arith, turn.0, count) in
    let place : c.len-place.result ≡ length c.loop-members.yielded = c.len-place.ensures.len
    ∙ entries-so_far c.args.named.now c.loop-members.yielded c.loop-members.by_name.entries c.loop-members.invariant within in
    omega (arith, within, place)

pub offset_bounds-named-place : goal.offset_bounds-named-place
offset_bounds-named-place c =
    let turn = YieldsList-turn (YieldsList-from_vec {s = c.into_iter-members-iterator.result} c.into_vec-members-items.result.items (search rules) (search rules))
    c.loop-members.yielded c.loop-members.members-iterator c.loop-members.yielded_by c.next.result c.next.new.self c.in-Some.members c.in-Some.is c.next.ensures.steps in
    let count = members-count c.args.numbers.now c.args.named.now c.args.named.now c.into_vec-members-items.result.items (c.into_vec-members-items.ensures ∙ c.in_ok-groups.ensures) refl in
    let within : length c.loop-members.yielded < length c.args.named.now = omega (arith, turn.0, count) in
    let place : c.len-place.result ≡ length c.loop-members.yielded = c.len-place.ensures.len
    ∙ entries-so_far c.args.named.now c.loop-members.yielded c.loop-members.by_name.entries c.loop-members.invariant within in
    let bound : c.len-place.result < length c.args.named.now = omega (arith, within, place) in
    search rules

pub loop-members-init : goal.loop-members-init
loop-members-init c = ap (map workload_of_entry) c.new-by_name.ensures.empty ∙ sym (no-workloads c.args.named.now)

pub put_last-requires : goal.put_last-requires
put_last-requires c =
    let turn = YieldsList-turn (YieldsList-from_vec {s = c.into_iter-members-iterator.result} c.into_vec-members-items.result.items (search rules) (search rules))
    c.loop-members.yielded c.loop-members.members-iterator c.loop-members.yielded_by c.next.result c.next.new.self c.in-Some.members c.in-Some.is c.next.ensures.steps in
    let count = members-count c.args.numbers.now c.args.named.now c.args.named.now c.into_vec-members-items.result.items (c.into_vec-members-items.ensures ∙ c.in_ok-groups.ensures) refl in
    let within : length c.loop-members.yielded < length c.args.named.now = omega (arith, turn.0, count) in
    let place : c.len-place.result ≡ length c.loop-members.yielded = c.len-place.ensures.len
    ∙ entries-so_far c.args.named.now c.loop-members.yielded c.loop-members.by_name.entries c.loop-members.invariant within in
    subst (λ (one : Named). All (λ (other : Workload). other.name ≢ one.name) (map workload_of_entry c.loop-members.by_name.entries)) c.index-named-place.is
    (next-new c.args.named.now c.loop-members.yielded (map workload_of_entry c.loop-members.by_name.entries) c.index-named-place.result c.requires.names c.loop-members.invariant within
    (c.index-named-place.is ∙ ap (λ (i : ℕ). get_or c.args.named.now i c.index-named-place.result) place))

pub loop-members-preserved : goal.loop-members-preserved
loop-members-preserved c =
    let turn = YieldsList-turn (YieldsList-from_vec {s = c.into_iter-members-iterator.result} c.into_vec-members-items.result.items (search rules) (search rules))
    c.loop-members.yielded c.loop-members.members-iterator c.loop-members.yielded_by c.next.result c.next.new.self c.in-Some.members c.in-Some.is c.next.ensures.steps in
    let count = members-count c.args.numbers.now c.args.named.now c.args.named.now c.into_vec-members-items.result.items (c.into_vec-members-items.ensures ∙ c.in_ok-groups.ensures) refl in
    let within : length c.loop-members.yielded < length c.args.named.now = omega (arith, turn.0, count) in
    let place : c.len-place.result ≡ length c.loop-members.yielded = c.len-place.ensures.len
    ∙ entries-so_far c.args.named.now c.loop-members.yielded c.loop-members.by_name.entries c.loop-members.invariant within in
    c.in_ok-put_last.ensures
    ∙ ap (λ (one : Named). map workload_of_entry c.loop-members.by_name.entries ++ workload_of one.name c.in-Some.members ∷ []) (sym c.index-named-place.is)
    ∙ ap (λ (so_far : List Workload). so_far ++ workload_of c.index-named-place.result.name c.in-Some.members ∷ []) c.loop-members.invariant
    ∙ workloads-more c.args.named.now c.loop-members.yielded c.in-Some.members c.index-named-place.result within
    (c.index-named-place.is ∙ ap (λ (i : ℕ). get_or c.args.named.now i c.index-named-place.result) place)

pub returns : goal.returns
returns c =
    let whole = (YieldsList-end (YieldsList-from_vec {s = c.into_iter-members-iterator.result} c.into_vec-members-items.result.items (search rules) (search rules))
    c.loop-members.yielded c.loop-members.members-iterator c.loop-members.yielded_by c.next.result c.next.new.self c.in-None.is c.next.ensures.steps).0 in
    c.loop-members.invariant ∙ ap (λ (members : List (List ℕ)). map workload_of_pair (zip c.args.named.now members)) (sym (members-same c.loop-members.yielded) ∙ whole ∙ c.into_vec-members-items.ensures ∙ c.in_ok-groups.ensures)
