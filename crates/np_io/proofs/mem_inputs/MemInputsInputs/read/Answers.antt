use Rattle.std.proofs.Common.{◌≡◌, ◌<◌, length, take, drop, rules}
use Rattle.np_io.specs.Prelude.{bytes_at, place_of}
use Rattle.np_io.proofs.Counting.{never_falls}
use Rattle.np_io.proofs.HandingOut.{handed_on}
use Rattle.np_io.proofs.mem_inputs.MemInputsInputs.read.Goals as goal

pub returns-then-is_due-clause-counts : goal.returns-then-is_due-clause-counts
returns-then-is_due-clause-counts c = λ other.
    let counts = c.self.inside.faults.items in
    let placed : c.in-Some.begun.place < length counts = search rules in
    rw (← c.self.view_is) (never_falls counts c.self.inside.other_faults c.in-Some.begun.place c.index_mut.result.now c.count.new.total
    (place_of c.self.inside.held.items other) placed c.index_mut.ensures.value c.count.ensures.never)

pub returns-clause-next : goal.returns-clause-next
returns-clause-next c =
    let held = c.self.inside.held.items in
    let begun = c.in-Some.begun in
    let copied : take c.hand_out-n.result c.hand_out-n.new.into ≡ take c.hand_out-n.result (drop begun.at (bytes_at held begun.place)) = search rules in
    rw (← c.self.view_is) (handed_on held c.self.inside.begun begun.place begun.at c.hand_out-n.result c.hand_out-n.new.into c.in-Some.is copied)
