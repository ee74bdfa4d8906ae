use Rattle.std.proofs.Common.{◌≡◌, ℕ, ◌-◌, ◌≤◌, List, [], ◌∷◌, length, drop, length-drop, Equal, Less, arith, sym, ◌∙◌}
use Rattle.std.proofs.lemmas.List.{drop_all}
use Rattle.std.specs.Cmp.{nat_cmp_is}
use Rattle.std.specs.Cmp.Lexicographic.{slice_cmp}
use Rattle.std.specs.Ordering.{nat_cmp}
use Rattle.np_fold.specs.Order as spec
use Rattle.np_fold.proofs.order.compare_port_lists.Goals as goal
use Rattle.np_fold.specs.Prelude.{NamedPort}

-- where there is no difference, the lengths tell
lengths-tell : (ports others : List NamedPort) (place : ℕ) → place ≤ length others → place ≤ length ports → length ports ≤ place →
    nat_cmp (length ports) (length others) ≡ slice_cmp spec.compare_ports (drop place ports) (drop place others)
lengths-tell ports others place there within passed = rw (drop_all place ports passed) (by (drop place others) (length-drop place others))
  where
    by : (rest : List NamedPort) → length rest ≡ length others - place → nat_cmp (length ports) (length others) ≡ slice_cmp spec.compare_ports [] rest
    by [] none = sym (nat_cmp_is (length ports) (length others) Equal (omega (arith, none, there, within, passed)))
    by (other ∷ rest) more = sym (nat_cmp_is (length ports) (length others) Less (omega (arith, more, there, within, passed)))

pub returns : goal.returns
returns c =
    c.cmp.ensures
    ∙ lengths-tell c.args.ports.now c.args.others.now c.loop-place.place c.loop-place.invariant.there c.loop-place.auto.place-end c.loop-place-test.false
    ∙ c.loop-place.invariant.rest
