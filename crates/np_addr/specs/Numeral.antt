-- Numbers in a text.
use Rattle.std.specs.Prelude.{ℕ, List, length, Option, Some, None, ◌&&◌, nat_lt, nat_le, if◌then◌else◌}
use Rattle.std.specs.List.{list_all}
use Rattle.std.specs.Char.{is_digit}
use Rattle.std.specs.Str.Parse.{digits_value}

-- one to `most` digits of the radix, without a sign: the number that they write
unfoldable pub numeral_of : ℕ → ℕ → List ℕ → Option ℕ
numeral_of radix most text = if nat_lt 0 (length text) && nat_le (length text) most && list_all (λ c. is_digit c radix) text
    then Some (digits_value radix text) else None
