use Rattle.std.proofs.Common.{◌≡◌, ◌<◌, ◌-◌, ◌+◌, ◌==◌, ℕ, inl, inr, arith, sym, ap, ◌∙◌, eq-eqb}
use Rattle.std.proofs.lemmas.Bool.{cases_eq, ne_eqb}
use Rattle.np_flatten.specs.Prelude.{EstateLists, group_of}
use Rattle.np_flatten.proofs.FindFacts.{range-none, range-some}
use Rattle.np_flatten.proofs.UnlikeFacts.{number-is, numbers-count}
use Rattle.np_flatten.proofs.flat.Flat.next_like.Goals as goal
use Rattle.np_kinds.specs.Prelude.{number_of_workloads}

pub overflow_step-other : goal.overflow_step-other
overflow_step-other c = omega (arith, c.requires, ap number_of_workloads c.self.view_is, c.self.invariant.2)

pub overflow_cast-other-end : goal.overflow_cast-other-end
overflow_cast-other-end c =
    let count = numbers-count c.self.inside.passing c.items-numbers.result.now c.self.inside.groups.firsts (c.items-numbers.ensures ∙ c.self.invariant.1) c.self.invariant.0 in
    omega (arith, count, c.self.invariant.2)

pub returns-then-numbers-other : goal.returns-then-numbers-other
returns-then-numbers-other c =
    let lists = c.self.inside.passing in
    let count = numbers-count lists c.items-numbers.result.now c.self.inside.groups.firsts (c.items-numbers.ensures ∙ c.self.invariant.1) c.self.invariant.0 in
    let same = ap number_of_workloads c.self.view_is in
    let within : c.loop-other.other < number_of_workloads lists = omega (arith, c.loop-other-test.true, count) in
    let here = sym (number-is lists c.items-numbers.result.now c.self.inside.groups.firsts (c.items-numbers.ensures ∙ c.self.invariant.1) c.self.invariant.0 c.loop-other.other within)
    ∙ c.if-numbers-other.true in
    let there : group_of c.args.self.now c.loop-other.other ≡ c.args.group = ap (λ (l : EstateLists). group_of l c.loop-other.other) (sym c.self.view_is) ∙ here in
    sym (range-some (λ (k : ℕ). group_of c.args.self.now k == c.args.group) (c.args.workload + 1) (number_of_workloads c.args.self.now - (c.args.workload + 1)) c.loop-other.other
    (omega (arith, c.loop-other.auto.other)) (omega (arith, within, same, c.loop-other.auto.other)) (eq-eqb (group_of c.args.self.now c.loop-other.other) c.args.group there)
    (λ k low below. c.loop-other.invariant k (omega arith) below))

pub loop-other-preserved : goal.loop-other-preserved
loop-other-preserved c =
    let lists = c.self.inside.passing in
    let count = numbers-count lists c.items-numbers.result.now c.self.inside.groups.firsts (c.items-numbers.ensures ∙ c.self.invariant.1) c.self.invariant.0 in
    let within : c.loop-other.other < number_of_workloads lists = omega (arith, c.loop-other-test.true, count) in
    let is = number-is lists c.items-numbers.result.now c.self.inside.groups.firsts (c.items-numbers.ensures ∙ c.self.invariant.1) c.self.invariant.0 c.loop-other.other within in
    λ k low below. elim (cases_eq k c.loop-other.other) [
      | inl here ↦ ne_eqb (group_of c.args.self.now k) c.args.group
          (λ same. c.if-numbers-other.false (is ∙ ap (λ (l : EstateLists). group_of l c.loop-other.other) c.self.view_is ∙ ap (group_of c.args.self.now) (sym here) ∙ same))
      | inr apart ↦ c.loop-other.invariant k low (omega arith)
    ]

pub returns : goal.returns
returns c =
    let lists = c.self.inside.passing in
    let count = numbers-count lists c.items-numbers.result.now c.self.inside.groups.firsts (c.items-numbers.ensures ∙ c.self.invariant.1) c.self.invariant.0 in
    let same = ap number_of_workloads c.self.view_is in
    sym (range-none (λ (k : ℕ). group_of c.args.self.now k == c.args.group) (c.args.workload + 1) (number_of_workloads c.args.self.now - (c.args.workload + 1))
    (λ k low high. c.loop-other.invariant k (omega arith) (omega (arith, high, count, same, c.loop-other-test.false, c.requires))))
