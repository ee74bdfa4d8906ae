use Rattle.std.proofs.Common.{List, ℕ, [], ◌∷◌, ◌-◌, ◌^◌, sym, ap, ◌∙◌}
use Rattle.np_addr.specs.Prelude.{AddressRanges}
use Rattle.np_flatten.specs.Prelude.{Range, ranges_of_span}
use Rattle.np_flatten.proofs.ReceiverFacts.{no-ranges}
use Rattle.np_flatten.proofs.address_rules.set_of_span.Goals as goal

pub returns-in_ok-nothing-in-Four : goal.returns-in_ok-nothing-in-Four
returns-in_ok-nothing-in-Four c =
    let first : List (Range ℕ) → AddressRanges = λ ranges. record { first = ranges; second = c.in_ok-nothing-in-Four.field-0 } in
    let second : List (Range ℕ) → AddressRanges = λ ranges. record { first = c.in-Four.range ∷ []; second = ranges } in
    ap first c.in_ok-of_range-in-Four.ensures.ranges
    ∙ ap second (no-ranges 0 (2 ^ 128 - 1) c.in_ok-nothing-in-Four.field-0 c.in_ok-nothing-in-Four.ensures.well c.in_ok-nothing-in-Four.ensures.members)
    ∙ sym (ap ranges_of_span c.in-Four.is)

pub returns-in_ok-of_range-in-Six : goal.returns-in_ok-of_range-in-Six
returns-in_ok-of_range-in-Six c =
    let first : List (Range ℕ) → AddressRanges = λ ranges. record { first = ranges; second = c.in_ok-of_range-in-Six.field-0 } in
    let second : List (Range ℕ) → AddressRanges = λ ranges. record { first = []; second = ranges } in
    ap first (no-ranges 0 (2 ^ 32 - 1) c.in_ok-nothing-in-Six.field-0 c.in_ok-nothing-in-Six.ensures.well c.in_ok-nothing-in-Six.ensures.members)
    ∙ ap second c.in_ok-of_range-in-Six.ensures.ranges
    ∙ sym (ap ranges_of_span c.in-Six.is)
