use Rattle.std.proofs.Common.{length, arith, rules, ◌<◌}
use Rattle.std.proofs.lemmas.Iterator.Adapters.{YieldsList-from_vec}
use Rattle.std.proofs.lemmas.Iterator.Consumers.{YieldsList-turn}
use Rattle.np_classes.proofs.NoteSteps.{HoldsClasses-none, held_all, held_among}
use Rattle.np_classes.proofs.classes.Classes.of.Goals as goal

pub loop-key-init : goal.loop-key-init
loop-key-init g c = rw (c.new-firsts.ensures, c.new-numbers.ensures) (HoldsClasses-none g.K.Ord.cmp c.new-known.result c.new-known.ensures.empty)

pub note-requires : goal.note-requires
note-requires g c =
    let turn = YieldsList-turn (YieldsList-from_vec {s = c.into_iter-key-iterator.result} c.args.keys.items (search rules) (search rules))
    c.loop-key.yielded c.loop-key.key-iterator c.loop-key.yielded_by c.next.result c.next.new.self c.in-Some.key c.in-Some.is c.next.ensures.steps in
    let taken : length c.loop-key.yielded < length c.args.keys.items = turn.0 in
    record { few = rw (held_all c.loop-key.invariant) (omega arith); among = held_among c.loop-key.invariant }
