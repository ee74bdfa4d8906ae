use Rattle.np_meaning.proofs.TemplatePodLemmas.{template_pods}
use Rattle.np_meaning.proofs.laws.controllers_without_pods_have_template_pods.Goals as goal

pub returns : goal.returns
returns c = λ texts items lists place one read is at. template_pods texts items lists read is place one at
