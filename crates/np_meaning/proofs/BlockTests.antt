-- The test of a block of addresses holds exactly where the block is well formed. For `well_blocks_are_tested`.
use Rattle.std.proofs.Common.{◌≡◌, ◌↔◌, ◌-◌, ◌%◌, ◌^◌, true, ◌==◌, nat_le, arith}
use Rattle.std.proofs.lemmas.Bool.{and_parts}
use Rattle.std.proofs.lemmas.Bool.Decides.{nat_tests}
use Rattle.np_addr.specs.Prelude.{IsCidr}
use Rattle.np_addr.specs.declared.cidr.Cidr.TheVariants.{Four, Six}
use Rattle.np_meaning.specs.Prelude.{Cidr}
use Rattle.np_model.specs.Prelude.{is_well_cidr}
use Rattle.np_policies.proofs.WellLemmas.{cidr_test}

from_test : (block : Cidr) → is_well_cidr block ≡ true → IsCidr block
from_test (Four base len) is =
    let parts = and_parts (nat_le len 32) (base % 2 ^ (32 - len) == 0) is in
    let left = parts.0 in
    let right = parts.1 in
    (grind (arith, nat_tests), grind (arith, nat_tests))
from_test (Six base len) is =
    let parts = and_parts (nat_le len 128) (base % 2 ^ (128 - len) == 0) is in
    let left = parts.0 in
    let right = parts.1 in
    (grind (arith, nat_tests), grind (arith, nat_tests))

pub cidr_test-iff : (block : Cidr) → (is_well_cidr block ≡ true) ↔ IsCidr block
cidr_test-iff block = (from_test block, cidr_test block)
