use Rattle.std.proofs.Common.{◌≡◌, ◌∙◌, [], ◌∷◌, ◌++◌, Some, None, refl, ap, rules}
use Rattle.std.specs.List.{slice_get}
use Rattle.std.proofs.lemmas.Option.{slice_get_read}
use Rattle.np_io.specs.declared.held.Held.{Held}
use Rattle.np_io.specs.Prelude.{place_of}
use Rattle.np_io.proofs.Adding.{replaced_here, replaced_others, replaced_faults, pushed_here, pushed_others, pushed_faults}
use Rattle.np_io.proofs.mem_inputs.MemInputs.add.Goals as goal

pub returns-in-Some-clause-held : goal.returns-in-Some-clause-held
returns-in-Some-clause-held c =
    let held = c.self.inside.held.items in
    let found : place_of held c.args.name.now ≡ Some c.in-Some.place = search rules in
    let old = c.index_mut.result.now in
    let at_place : slice_get held c.in-Some.place ≡ Some old = search (rules, slice_get_read) in
    let new : Held = record { name = old.name; bytes = c.from_vec.result } in
    let bytes : c.from_vec.result ≡ c.args.bytes.now = search rules in
    ap Some (replaced_here held c.args.name.now c.in-Some.place old new found at_place refl ∙ bytes)

pub returns-in-Some-clause-others : goal.returns-in-Some-clause-others
returns-in-Some-clause-others c = λ other unlike.
    let held = c.self.inside.held.items in
    let found : place_of held c.args.name.now ≡ Some c.in-Some.place = search rules in
    let old = c.index_mut.result.now in
    let at_place : slice_get held c.in-Some.place ≡ Some old = search (rules, slice_get_read) in
    let new : Held = record { name = old.name; bytes = c.from_vec.result } in
    rw (← c.self.view_is) (ap Some (replaced_others held c.args.name.now c.in-Some.place old new found at_place refl other unlike))

pub returns-in-Some-clause-faults : goal.returns-in-Some-clause-faults
returns-in-Some-clause-faults c = λ other.
    let held = c.self.inside.held.items in
    let old = c.index_mut.result.now in
    let at_place : slice_get held c.in-Some.place ≡ Some old = search (rules, slice_get_read) in
    let new : Held = record { name = old.name; bytes = c.from_vec.result } in
    rw (← c.self.view_is) (replaced_faults held c.in-Some.place old new c.self.inside.faults.items c.self.inside.other_faults at_place refl other)

pub returns-clause-held : goal.returns-clause-held
returns-clause-held c =
    let held = c.self.inside.held.items in
    let h : Held = record { name = c.args.name.now; bytes = c.args.bytes.now } in
    let none : place_of held c.args.name.now ≡ None = search rules in
    let pushed : c.push.new.self.items ≡ held ++ h ∷ [] = search rules in
    rw pushed (ap Some (pushed_here held h none))

pub returns-clause-others : goal.returns-clause-others
returns-clause-others c = λ other unlike.
    let held = c.self.inside.held.items in
    let h : Held = record { name = c.args.name.now; bytes = c.args.bytes.now } in
    let pushed : c.push.new.self.items ≡ held ++ h ∷ [] = search rules in
    rw (pushed, ← c.self.view_is) (ap Some (pushed_others held h other (place_of held other) refl unlike))

pub returns-clause-faults : goal.returns-clause-faults
returns-clause-faults c = λ other.
    let held = c.self.inside.held.items in
    let counts = c.self.inside.faults.items in
    let shared = c.self.inside.other_faults in
    let h : Held = record { name = c.args.name.now; bytes = c.args.bytes.now } in
    let pushed : c.push.new.self.items ≡ held ++ h ∷ [] = search rules in
    let counted : c.push-2.new.self.items ≡ counts ++ shared ∷ [] = search rules in
    rw (pushed, counted, ← c.self.view_is) (pushed_faults held h counts shared c.self.invariant.counted other (place_of held other) refl)
