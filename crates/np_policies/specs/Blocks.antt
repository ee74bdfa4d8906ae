-- Shapes of blocks of addresses (Kubernetes API reference, IPBlock).
use Rattle.std.specs.Prelude.{ℕ, Option, Some, None, codes, Ok, ⊤}
use Rattle.serde_json.specs.Data.{Data}
use Rattle.np_addr.specs.Prelude.{cidr_of, first_bad_except}
use Rattle.np_policies.specs.Types.{BadCidr, BadExcept, Cidr, Field, IpBlock, Item}
use Rattle.np_json.specs.Prelude.{Read, listed, must_be_object, or_refuse, refuse, required, text, under, ◌>>=◌, ◌>>◌}

-- a text that writes a block of addresses, else BadCidr
unfoldable pub cidr : Data → Read Cidr
cidr value = do or_refuse BadCidr (cidr_of (← text value))

-- BadExcept at the except of that place, if there is one
abbrev pub refuse_except : Option ℕ → Read ⊤
refuse_except None = Ok tt
refuse_except (Some place) = under (Field (codes "except")) (under (Item place) (refuse BadExcept))

-- `ipBlock` of a peer: each except is a strict part of `cidr`
unfoldable pub ip_block : Data → Read IpBlock
ip_block value = must_be_object value >> do
  block ← required (codes "cidr") cidr value
  excepts ← listed (codes "except") cidr value
  refuse_except (first_bad_except block excepts)
  Ok (record { cidr = block; excepts = excepts })
