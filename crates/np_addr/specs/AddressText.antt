-- The one canonical text of each address (RFC 5952, section 4), and of each block.
use Rattle.std.specs.Prelude.{ℕ, zero, suc, ◌+◌, ◌*◌, ◌/◌, ◌%◌, ◌^◌, false, List, [], ◌∷◌, ◌++◌, take, drop, codes, decimal, nat_lt, if◌then◌else◌}
use Rattle.std.specs.Fmt.{digits}
use Rattle.std.specs.Int.{w32, to_be_bytes}
use Rattle.std.specs.List.{join_by}
use Rattle.std.specs.Net.Text.{longest_zero_run}
use Rattle.np_addr.specs.Types.{Address, Cidr, Four, Six}
use Rattle.np_addr.specs.Blocks.{base_of, bits_of}

-- an IPv4 address: its bytes in decimal without leading zeros, the highest first, with a dot between each two
abbrev pub ipv4_text : ℕ → List ℕ
ipv4_text n = join_by decimal (codes ".") (to_be_bytes w32 n)

-- the group of 16 bits with so many groups below it
abbrev pub group_at : ℕ → ℕ → ℕ
group_at n below = n / 2 ^ (16 * below) % 2 ^ 16

-- the lowest groups, so many of them, the highest of them first
abbrev pub low_groups : ℕ → ℕ → List ℕ
low_groups zero n = []
low_groups (suc below) n = group_at n below ∷ low_groups below n

-- the groups of an IPv6 address
abbrev pub groups_of : ℕ → List ℕ
groups_of n = low_groups 8 n

-- a group in lower-case hexadecimal without leading zeros
abbrev pub group_text : ℕ → List ℕ
group_text group = digits 16 false group

-- groups with a colon between each two
abbrev pub groups_text : List ℕ → List ℕ
groups_text groups = join_by group_text (codes ":") groups

-- The longest run of zero groups, of two as long the first, as `::` where it has two groups or more.
unfoldable pub shortened_text : List ℕ → List ℕ
shortened_text groups = let run = longest_zero_run groups in if nat_lt 1 run.1
    then groups_text (take run.0 groups) ++ codes "::" ++ groups_text (drop (run.0 + run.1) groups) else groups_text groups

-- an IPv6 address
abbrev pub ipv6_text : ℕ → List ℕ
ipv6_text n = shortened_text (groups_of n)

-- an address
abbrev pub address_text : Address → List ℕ
address_text (Four n) = ipv4_text n
address_text (Six n) = ipv6_text n

-- a block: its first address, `/`, and how many first bits its addresses have in common
abbrev pub cidr_text : Cidr → List ℕ
cidr_text block = address_text (base_of block) ++ codes "/" ++ decimal (bits_of block)
