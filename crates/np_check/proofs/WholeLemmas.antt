-- The first packet of all, by workloads and by addresses as sources. For `Checker::check`.
use Rattle.std.proofs.Common.{◌≡◌, ℕ, Option, None, map, refl, ap, ◌∙◌}
use Rattle.std.specs.Option.{option_or}
use Rattle.np_check.specs.Prelude.{Address, At, Counterexample, Ends, EstateLists, Question, Wanted, Work, addresses_of, counterexample_between, counterexample_from, counterexample_of, first_given}
use Rattle.np_check.proofs.FirstLemmas.{first_of-append, first_of-map, first_of-none, first_of-same}
use Rattle.np_base.proofs.Options.{option_or-none}
use Rattle.np_conns.specs.Prelude.{Conns}

-- no packet of two addresses is spoken of
between_addresses : (lists : EstateLists) (wanted : Wanted) (conns : Conns) (address other : Address) → counterexample_between lists wanted conns (At address) (At other) ≡ None
unfolding counterexample_between
between_addresses lists wanted conns address other = refl

from-address : (lists : EstateLists) (wanted : Wanted) (conns : Conns) (ends : Ends) (address : Address) →
    counterexample_from lists wanted conns ends (At address) ≡ first_given (λ (work : ℕ). counterexample_between lists wanted conns (At address) (Work work)) ends.works
unfolding counterexample_from
from-address lists wanted conns ends address =
    let gives = counterexample_between lists wanted conns (At address) in
    first_of-append gives (map Work ends.works) (map At (addresses_of ends.block))
    ∙ ap (λ (rest : Option Counterexample). option_or (first_given gives (map Work ends.works)) rest)
    (first_of-map gives At (addresses_of ends.block) ∙ first_of-none (λ (other : Address). gives (At other)) (addresses_of ends.block) (between_addresses lists wanted conns address))
    ∙ option_or-none (first_given gives (map Work ends.works))
    ∙ first_of-map gives Work ends.works

pub of-question : (lists : EstateLists) (question : Question) →
    counterexample_of lists question ≡ option_or (first_given (λ (source : ℕ). counterexample_from lists question.wanted question.conns question.destination (Work source)) question.source.works)
    (first_given (λ (address : Address). first_given (λ (work : ℕ). counterexample_between lists question.wanted question.conns (At address) (Work work)) question.destination.works)
    (addresses_of question.source.block))
unfolding counterexample_of
of-question lists question =
    let gives = counterexample_from lists question.wanted question.conns question.destination in
    first_of-append gives (map Work question.source.works) (map At (addresses_of question.source.block))
    ∙ ap (λ (first : Option Counterexample). option_or first (first_given gives (map At (addresses_of question.source.block)))) (first_of-map gives Work question.source.works)
    ∙ ap (λ (rest : Option Counterexample). option_or (first_given (λ (source : ℕ). gives (Work source)) question.source.works) rest)
    (first_of-map gives At (addresses_of question.source.block)
    ∙ first_of-same (λ (address : Address). gives (At address)) (λ (address : Address). first_given
    (λ (work : ℕ). counterexample_between lists question.wanted question.conns (At address) (Work work)) question.destination.works) (addresses_of question.source.block)
    (from-address lists question.wanted question.conns question.destination))
