use Rattle.std.proofs.Common.{◌≡◌, ◌<◌, ◌∙◌, ap, Some, length, arith, rules}
use Rattle.np_io.specs.Prelude.{place_of}
use Rattle.np_io.proofs.Counting.{never_falls}
use Rattle.np_io.proofs.Places.{name_at-place_of}
use Rattle.np_io.proofs.mem_inputs.MemInputsInputs.begin.Goals as goal

pub invariant_of-self : goal.invariant_of-self
invariant_of-self c =
    let held = c.self.inside.held.items in
    let found : place_of held c.args.name.now ≡ Some c.in-Some.place = search rules in
    record {
      counted = c.self.invariant.counted;
      begun_held = record {
        placed = search rules;
        first = ap (place_of held) (name_at-place_of held c.args.name.now c.in-Some.place found) ∙ found;
        within = omega arith;
      };
      piece_some = c.self.invariant.piece_some;
    }

pub returns-in-Some-clause-begins : goal.returns-in-Some-clause-begins
returns-in-Some-clause-begins c =
    let held = c.self.inside.held.items in
    let found : place_of held c.args.name.now ≡ Some c.in-Some.place = search rules in
    ap (λ name. Some (Some name)) (name_at-place_of held c.args.name.now c.in-Some.place found)

pub returns-in-Some-2-clause-counts : goal.returns-in-Some-2-clause-counts
returns-in-Some-2-clause-counts c = λ other.
    let counts = c.self.inside.faults.items in
    let placed : c.in-Some.place < length counts = search rules in
    rw (← c.self.view_is) (never_falls counts c.self.inside.other_faults c.in-Some.place c.index_mut.result.now c.count.new.total
    (place_of c.self.inside.held.items other) placed c.index_mut.ensures.value c.count.ensures.never)
