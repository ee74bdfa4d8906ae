-- The definitions and types of this crate that its proofs and the crates above speak of, one import line a file.
pub use Rattle.np_addr.specs.AddressGrammar.{block_between, block_of, block_of_pieces, cleared}
unfoldable pub use Rattle.np_addr.specs.AddressGrammar.{address_of, cidr_of, length_of}
pub use Rattle.np_addr.specs.AddressText.{address_text, cidr_text, group_at, group_text, groups_text, ipv4_text, ipv6_text, low_groups}
unfoldable pub use Rattle.np_addr.specs.AddressText.{shortened_text}
pub use Rattle.np_addr.specs.Addresses.{IsAddress, IsCidr, cidr_has, family_of, width_of}
pub use Rattle.np_addr.specs.Blocks.{AddressRanges, IsAddressSet, base_of, bits_of, block_has, first_bad_except, is_strict_part, set_has}
pub use Rattle.np_addr.specs.Groups.{at_most_eight}
pub use Rattle.np_addr.specs.Ipv4Grammar.{dotted_of}
unfoldable pub use Rattle.np_addr.specs.Ipv4Grammar.{ipv4_of, octet_of, octets_of}
pub use Rattle.np_addr.specs.Ipv6Grammar.{around_gap, filled_of, halves_of, hex_group, number_of_groups, number_of_sides, side_groups}
unfoldable pub use Rattle.np_addr.specs.Ipv6Grammar.{ipv6_of, last_groups}
pub use Rattle.np_addr.specs.Laws.{IsStrictSubset, IsZeroRun, SharesFirstBits}
pub use Rattle.np_addr.specs.Numbers.{AreNumbersOf, is_covered, number_in}
unfoldable pub use Rattle.np_addr.specs.Numeral.{numeral_of}
pub use Rattle.np_addr.specs.Pieces.{pieces}
pub use Rattle.np_addr.specs.Prefixes.{AreDisjoint, IsRightPrefixList, LiesIn, StandsBefore, block_at, is_inside, prefixes_of, range_prefixes, some_block_has}
unfoldable pub use Rattle.np_addr.specs.Prefixes.{blocks_in}
pub use Rattle.np_addr.specs.Steps.{◌>>=◌}
pub use Rattle.np_addr.specs.TextForms.{AreGroups, IsAddressText, IsCidrText, IsColonHex, IsDotted, IsGapped, IsGroup, IsLength, IsPart, IsSide, Writes}
pub use Rattle.np_addr.specs.Types.{Address, Cidr, Family, Four, Range, Six}
