-- Blocks by the family of their addresses.
use Rattle.std.specs.Prelude.{List, Bool, ◌&&◌}
use Rattle.std.specs.List.{list_any}
use Rattle.np_addr.specs.Prelude.{cidr_has}
use Rattle.np_rules.specs.Types.{Address, Cidr, Family, Four}
use Rattle.np_addr.specs.declared.address.Family.TheVariants.{Six}
use Rattle.np_addr.specs.declared.cidr.Cidr.TheVariants as block
use Rattle.np_model.specs.Prelude.{same_family}

-- whether the addresses of a block are of the family
abbrev pub is_block_of : Family → Cidr → Bool
is_block_of family (block.Four base len) = same_family Four family
is_block_of family (block.Six base len) = same_family Six family

-- whether some block of the family has some of the addresses
abbrev pub some_inside : Family → List Cidr → List Address → Bool
some_inside family cidrs addresses = list_any (λ cidr. is_block_of family cidr && list_any (cidr_has cidr) addresses) cidrs
