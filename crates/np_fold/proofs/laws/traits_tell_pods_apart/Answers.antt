use Rattle.std.proofs.Common.{refl}
use Rattle.np_fold.specs.Prelude.{cidrs_of_estate}
use Rattle.np_fold.proofs.TraitLemmas.{traits-alike}
use Rattle.np_fold.proofs.laws.traits_tell_pods_apart.Goals as goal

pub returns : goal.returns
returns c = λ lists keys same a b. traits-alike lists keys same (cidrs_of_estate lists) (λ test. refl) a b
