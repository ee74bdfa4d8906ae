-- Networks and the addresses of a pod: address by address, and block by block. For `some_address_in` and crates above.
use Rattle.std.proofs.Common.{◌≡◌, List, [], ◌∷◌, Bool, true, false, ◌&&◌, ◌||◌, refl, sym, ap, ◌∙◌, arith}
use Rattle.std.specs.List.{list_any}
use Rattle.std.proofs.Math.Bool.{or-false, and-false}
use Rattle.np_addr.specs.Prelude.{cidr_has, some_block_has}
use Rattle.np_rules.specs.Prelude.{Address, Cidr, Family, is_block_of, some_inside}
use Rattle.np_addr.specs.declared.address.Address.TheVariants as at
use Rattle.np_addr.specs.declared.address.Family.TheVariants as of
use Rattle.np_addr.specs.declared.cidr.Cidr.TheVariants as block
use Rattle.np_model.specs.Prelude.{is_of, same_family}

and_false : (x y : Bool) → (x && false) ≡ (y && false)
and_false true true = refl
and_false true false = refl
and_false false true = refl
and_false false false = refl

-- an address in a block has the family of the block
block_family : (family : Family) (cidr : Cidr) (a : Address) → (is_block_of family cidr && cidr_has cidr a) ≡ (is_of family a && cidr_has cidr a)
block_family family (block.Four base len) (at.Four n) = refl
block_family family (block.Six base len) (at.Six n) = refl
block_family family (block.Four base len) (at.Six n) = and_false (same_family of.Four family) (same_family of.Six family)
block_family family (block.Six base len) (at.Four n) = and_false (same_family of.Six family) (same_family of.Four family)

-- one block more, and one address more
shared : (u h hs t r rs : Bool) → (t && h) ≡ (u && h) → ((u && (h || hs)) || ((t && r) || rs)) ≡ ((t && (h || r)) || ((u && hs) || rs))
shared true true hs true r rs is = grind arith
shared true true hs false r rs is = grind arith
shared false true hs true r rs is = grind arith
shared false true hs false r rs is = grind arith
shared true false hs true r rs is = grind arith
shared true false hs false r rs is = grind arith
shared false false hs true r rs is = grind arith
shared false false hs false r rs is = grind arith

inside_none : (family : Family) (cidrs : List Cidr) → some_inside family cidrs [] ≡ false
inside_none family [] = refl
inside_none family (cidr ∷ cidrs) = by (is_block_of family cidr) (inside_none family cidrs)
  where
    by : (b : Bool) → some_inside family cidrs [] ≡ false → ((b && false) || some_inside family cidrs []) ≡ false
    by true rest = rest
    by false rest = rest

inside_more : (family : Family) (a : Address) (addresses : List Address) (cidrs : List Cidr) →
    ((is_of family a && some_block_has cidrs a) || some_inside family cidrs addresses) ≡ some_inside family cidrs (a ∷ addresses)
inside_more family a addresses [] = or-false (is_of family a && false) ∙ and-false (is_of family a)
inside_more family a addresses (cidr ∷ cidrs) =
    shared (is_of family a) (cidr_has cidr a) (some_block_has cidrs a) (is_block_of family cidr) (list_any (cidr_has cidr) addresses) (some_inside family cidrs addresses) (block_family family cidr a)
    ∙ ap (λ b. (is_block_of family cidr && (cidr_has cidr a || list_any (cidr_has cidr) addresses)) || b) (inside_more family a addresses cidrs)

-- address by address, and block by block
pub by_blocks : (family : Family) (cidrs : List Cidr) (addresses : List Address) → list_any (λ a. is_of family a && some_block_has cidrs a) addresses ≡ some_inside family cidrs addresses
by_blocks family cidrs [] = sym (inside_none family cidrs)
by_blocks family cidrs (a ∷ addresses) =
    ap (λ b. (is_of family a && some_block_has cidrs a) || b) (by_blocks family cidrs addresses) ∙ inside_more family a addresses cidrs
