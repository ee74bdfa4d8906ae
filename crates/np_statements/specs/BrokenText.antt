-- The line that says how a statement is broken.
use Rattle.std.specs.Prelude.{ℕ, List, [], ◌∷◌, ◌++◌, codes, decimal}
use Rattle.np_addr.specs.Prelude.{address_text}
use Rattle.np_statements.specs.Types.{At, Broken, EstateLists, Family, PlaceEnd}
use Rattle.np_addr.specs.declared.address.Family.TheVariants.{Four, Six}
use Rattle.np_check.specs.declared.counterexample.PlaceEnd.TheVariants.{Work}
use Rattle.np_model.specs.Prelude.{families_of}
use Rattle.np_fold.specs.Prelude.{folding_of, name_of_workload}
use Rattle.np_rules.specs.Prelude.{said_text}

-- an end of a packet: the name of its workload, or the canonical text of its address
abbrev pub place_text : EstateLists → PlaceEnd → List ℕ
place_text lists (Work work) = name_of_workload (folding_of lists) work
place_text lists (At address) = address_text address

-- the mark of a family, where the list has both
abbrev pub family_mark : List Family → Family → List ℕ
family_mark (one ∷ []) family = []
family_mark families Four = codes " (IPv4)"
family_mark families Six = codes " (IPv6)"

-- the mark of the family of a packet; one with an address has none
abbrev pub mark_between : EstateLists → PlaceEnd → PlaceEnd → Family → List ℕ
mark_between lists (Work source) (Work destination) family = family_mark (families_of lists.pods) family
mark_between lists source destination family = []

-- `line k: source => destination : PROTOCOL port : Allow`, where the mark of a family may follow the destination
unfoldable pub broken_text : EstateLists → Broken → List ℕ
broken_text lists broken =
    codes "line " ++ decimal broken.line ++ codes ": "
    ++ place_text lists broken.packet.source ++ codes " => " ++ place_text lists broken.packet.destination
    ++ mark_between lists broken.packet.source broken.packet.destination broken.packet.family
    ++ codes " : " ++ said_text broken.packet.spot broken.allowed
