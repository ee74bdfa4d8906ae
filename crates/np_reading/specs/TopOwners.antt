-- The top owners of pods that no listed controller owns.
use Rattle.std.specs.Prelude.{codes, option_map, unwrap_or}
use Rattle.np_reading.specs.Types.{Owner, PodItem}
use Rattle.np_owners.specs.Prelude.{by_reference}

-- the owner that a pod's owner reference names, or the pod itself where none names one
abbrev pub named_or_itself : PodItem → Owner
named_or_itself pod = unwrap_or (option_map by_reference pod.owner) (record { kind = codes "Pod"; name = pod.name })
