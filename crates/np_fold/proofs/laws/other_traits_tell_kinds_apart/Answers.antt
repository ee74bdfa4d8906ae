use Rattle.std.proofs.Common.{refl}
use Rattle.np_fold.specs.Prelude.{cidrs_of_estate}
use Rattle.np_fold.proofs.TraitLemmas.{traits-same_kind}
use Rattle.np_fold.proofs.laws.other_traits_tell_kinds_apart.Goals as goal

pub returns : goal.returns
returns c = λ lists keys same a b owner. traits-same_kind lists keys same (cidrs_of_estate lists) (λ test. refl) a b owner
