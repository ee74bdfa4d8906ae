-- Blocks that are read are well formed. For WellLemmas.
use Rattle.std.proofs.Common.{◌≡◌, ℕ, ◌≤◌, List, Option, Some, None, Ok, refl, sym, subst}
use Rattle.serde_json.specs.Data.{Data}
use Rattle.serde_json.specs.Find.{as_str}
use Rattle.np_addr.proofs.BlockLemmas.{rest_of_cleared}
use Rattle.np_addr.proofs.GrammarLemmas.{cidr_text_iff}
use Rattle.np_addr.specs.Prelude.{IsCidr, block_of, cidr_of, family_of, width_of}
use Rattle.np_addr.specs.declared.address.Address.{Address}
use Rattle.np_addr.specs.declared.address.Address.TheVariants.{Four, Six}
use Rattle.np_policies.specs.Prelude.{BadCidr, Cidr, cidr}
use Rattle.np_json.specs.Prelude.{of_type, or_refuse, ◌>>=◌}

block_of-well : (address : Address) (len : ℕ) → len ≤ width_of (family_of address) → IsCidr (block_of address len)
block_of-well (Four n) len within = (within, rest_of_cleared _ n)
block_of-well (Six n) len within = (within, rest_of_cleared _ n)

cidr_of-well : (text : List ℕ) (block : Cidr) → cidr_of text ≡ Some block → IsCidr block
cidr_of-well text block is =
    let spelled = (cidr_text_iff text block).0 is in
    subst IsCidr (sym spelled.value) (block_of-well spelled.address spelled.len spelled.length_text.within)

pub cidr-well : (value : Data) (block : Cidr) → cidr value ≡ Ok block → IsCidr block
unfolding cidr
cidr-well value block is = by (as_str value) is
  where
    by_block : (found : Option Cidr) (text : List ℕ) → cidr_of text ≡ found → or_refuse BadCidr found ≡ Ok block → IsCidr block
    by_block None text found is = cc
    by_block (Some other) text found is =
        let same : other ≡ block = cc in
        subst IsCidr same (cidr_of-well text other found)

    by : (read : Option (List ℕ)) → (of_type read >>= λ s. or_refuse BadCidr (cidr_of s)) ≡ Ok block → IsCidr block
    by None is = cc
    by (Some text) is = by_block (cidr_of text) text refl is
