use Rattle.std.proofs.Common.{◌≡◌, ◌-◌, ◌^◌, ap, arith}
use Rattle.std.proofs.lemmas.Nat.{pow_pos}
use Rattle.std.proofs.lemmas.Nat.Bits.{ones_shr}
use Rattle.np_addr.proofs.cidr.low_bits.Goals as goal

pub returns-else-bits-eq0 : goal.returns-else-bits-eq0
returns-else-bits-eq0 c =
    let bits = c.args.bits in
    let back : 2 ^ (128 - (128 - bits)) ≡ 2 ^ bits = ap (λ n. 2 ^ n) (omega arith) in
    omega (arith, ones_shr 128 (128 - bits) (omega arith), back, pow_pos bits)
