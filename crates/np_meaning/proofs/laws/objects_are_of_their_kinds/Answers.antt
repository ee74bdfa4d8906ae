use Rattle.np_meaning.proofs.KindMeant.{object-meant}
use Rattle.np_meaning.proofs.laws.objects_are_of_their_kinds.Goals as goal

pub returns : goal.returns
returns c = object-meant
