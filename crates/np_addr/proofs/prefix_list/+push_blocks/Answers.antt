use Rattle.std.proofs.Common.{◌+◌, ◌-◌, ◌^◌, ◌<◌, ◌≤◌, ◌⊎◌, sym, inl, inr, append-nil, arith}
use Rattle.std.proofs.lemmas.Nat.{pow_pos}
use Rattle.std.proofs.lemmas.Result.{on_ok_weaker}
use Rattle.np_addr.proofs.PrefixLemmas.{blocks_in-outside, one_block, IsCut-from, both_halves}
use Rattle.np_addr.proofs.prefix_list.+push_blocks.Goals as goal

pub returns-then-range-base : goal.returns-then-range-base
returns-then-range-base t c =
    let apart : (c.args.range.hi < c.args.base) ⊎ (c.args.base + 2 ^ c.args.free ≤ c.args.range.lo) = elim c.then-range-base.either [
      | inl past ↦ inl past
      | inr before ↦ inr (omega (arith, before, c.low_bits.ensures))
    ] in
    rw (blocks_in-outside c.args.family c.args.range c.args.base c.args.free apart) (sym (append-nil c.args.blocks.now.items))

pub returns-then-last-range-2 : goal.returns-then-last-range-2
returns-then-last-range-2 t c =
    one_block c.args.family c.args.range c.args.base c.args.free c.block_at.result c.args.blocks.now.items c.push.new.self.items c.if-range-base-2.true
    (omega (arith, c.if-last-range-2.true, c.low_bits.ensures)) c.block_at.ensures c.in_ok-push.ensures.items

pub overflow_add-second : goal.overflow_add-second
overflow_add-second t c =
    let cut = IsCut-from c.args.family c.args.range c.args.base c.args.free (c.args.base + c.low_bits.result) c.requires.short c.requires.fits
    (omega (arith, c.low_bits.ensures)) c.if-range-base.false c.if-last-range.false (λ above below. omega (arith, c.else-range-base-2.either)) in
    omega (arith, cut.fits, cut.small, c.low_bits-2.ensures)

pub overflow_add-second-2 : goal.overflow_add-second-2
overflow_add-second-2 t c =
    let cut = IsCut-from c.args.family c.args.range c.args.base c.args.free (c.args.base + c.low_bits.result) c.requires.short c.requires.fits
    (omega (arith, c.low_bits.ensures)) c.if-range-base.false c.if-last-range.false (λ above below. omega (arith, c.else-range-base-2.either)) in
    omega (arith, cut.fits, cut.small, c.low_bits-2.ensures, pow_pos (c.args.free - 1))

pub push_blocks-requires : goal.push_blocks-requires
push_blocks-requires t c =
    let cut = IsCut-from c.args.family c.args.range c.args.base c.args.free (c.args.base + c.low_bits.result) c.requires.short c.requires.fits
    (omega (arith, c.low_bits.ensures)) c.if-range-base.false c.if-last-range.false (λ above below. omega (arith, c.else-range-base-2.either)) in
    omega (arith, cut.halved, cut.short, cut.fits)

pub push_blocks-requires-2 : goal.push_blocks-requires-2
push_blocks-requires-2 t c =
    let cut = IsCut-from c.args.family c.args.range c.args.base c.args.free (c.args.base + c.low_bits.result) c.requires.short c.requires.fits
    (omega (arith, c.low_bits.ensures)) c.if-range-base.false c.if-last-range.false (λ above below. omega (arith, c.else-range-base-2.either)) in
    omega (arith, cut.halved, cut.short, cut.fits, c.low_bits-2.ensures)

pub returns : goal.returns
returns t c =
    let cut = IsCut-from c.args.family c.args.range c.args.base c.args.free (c.args.base + c.low_bits.result) c.requires.short c.requires.fits
    (omega (arith, c.low_bits.ensures)) c.if-range-base.false c.if-last-range.false (λ above below. omega (arith, c.else-range-base-2.either)) in
    on_ok_weaker c.push_blocks-2.result
    (both_halves c.args.family c.args.range c.args.base (c.args.base + c.low_bits-2.result + 1) c.args.free
    (c.args.free - 1) c.args.blocks.now.items c.push_blocks.new.blocks.items c.push_blocks-2.new.blocks.items cut.halved (omega (arith, c.low_bits-2.ensures)) cut.out c.in_ok-push_blocks.ensures)
    c.push_blocks-2.ensures
