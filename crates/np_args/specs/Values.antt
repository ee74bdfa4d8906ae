-- The values of options: what each reader makes of a word.
use Rattle.std.specs.Prelude.{ℕ, ◌==◌, ◌&&◌, nat_le, not, List, [], ◌∷◌, Option, Some, None, option_map, codes, slice_index, if◌then◌else◌}
use Rattle.std.specs.Char.{is_digit}
use Rattle.std.specs.List.{list_all, list_any}
use Rattle.std.specs.Map.{lookup}
use Rattle.std.specs.Str.{bytes_eq}
use Rattle.std.specs.Str.Parse.{digits_value}
use Rattle.np_addr.specs.Prelude.{address_of}
use Rattle.np_args.specs.Types.{At, Csv, Destination, Either, EndWord, FocusSide, Format, Json, Named, One, Plain, Report, Source, Two}

abbrev pub Word : Type 0
Word = List ℕ

-- `--format`
abbrev pub format_of : Word → Option Format
format_of word = lookup (bytes_eq word) ((codes "text", Plain) ∷ (codes "csv", Csv) ∷ (codes "json", Json) ∷ [])

-- `--report`
abbrev pub report_of : Word → Option Report
report_of word = lookup (bytes_eq word) ((codes "1", One) ∷ (codes "2", Two) ∷ [])

-- `--side`
abbrev pub focus_side_of : Word → Option FocusSide
focus_side_of word = lookup (bytes_eq word) ((codes "either", Either) ∷ (codes "from", Source) ∷ (codes "to", Destination) ∷ [])

-- `--from` and `--to` of a packet: a word with a `/` (47) in it is a name, and any other must be an address.
abbrev pub packet_end_of : Word → Option EndWord
packet_end_of word = if list_any (λ c. c == 47) word then Some (Named word) else option_map At (address_of word)

-- a number from 1 to `most` in decimal, without a sign or a leading zero (48 is `0`)
abbrev pub number_to : ℕ → Word → Option ℕ
number_to most word = let number = digits_value 10 word in
    if list_all (λ c. is_digit c 10) word && not (slice_index word 0 == 48) && nat_le 1 number && nat_le number most
    then Some number else None
