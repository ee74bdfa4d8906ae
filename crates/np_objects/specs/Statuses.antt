-- Statuses of pods.
use Rattle.std.specs.Prelude.{◌≡◌, ℕ, List, [], ◌∷◌, ◌++◌, fold, codes, Bool, false, ◌||◌, ◌==◌, if◌then◌else◌, Option, Some, None, Ok}
use Rattle.std.specs.List.{list_any}
use Rattle.std.specs.Option.{option_flatten, option_map_or}
use Rattle.std.specs.Str.{bytes_eq}
use Rattle.serde_json.specs.Data.{Data}
use Rattle.np_addr.specs.Prelude.{address_of}
use Rattle.np_objects.specs.Types.{Address, BadAddress, Four, PodStatus, Six}
use Rattle.np_json.specs.Prelude.{Read, given, listed, must_be_object, optional, or_refuse, text, ◌>>=◌, ◌>>◌}
use Rattle.np_objects.specs.Lists.{unless_empty}

-- the address of a text, and none of the empty text
abbrev pub address_by : Option (List ℕ) → Read (Option Address)
address_by None = Ok None
address_by (Some s) = given (or_refuse BadAddress (address_of s))

-- a text that is empty or an address
unfoldable pub address : Data → Read (Option Address)
address value = do address_by (unless_empty (← text value))

-- an object with an address
unfoldable pub pod_ip : Data → Read (Option Address)
pod_ip value = must_be_object value >> do Ok (option_flatten (← optional (codes "ip") address value))

abbrev pub is_same_address : Address → Address → Bool
is_same_address (Four a) (Four b) = a == b
is_same_address (Six a) (Six b) = a == b
is_same_address a b = false

abbrev pub has_address : List Address → Address → Bool
has_address addresses address = list_any (λ other. is_same_address other address) addresses

-- the addresses so far and one more, unless it is among them
abbrev pub with_found_address : List Address → Address → List Address
with_found_address kept address = if has_address kept address then kept else kept ++ address ∷ []

-- the addresses so far and one more, if there is one
abbrev pub kept_with : List Address → Option Address → List Address
kept_with kept found = option_map_or (with_found_address kept) found kept

-- the addresses that are there, each once, where it stands first
abbrev pub distinct_addresses : List (Option Address) → List Address
distinct_addresses found = fold kept_with [] found

-- whether two lists have the same addresses
pub record HaveSame (kept known : List Address) : Type 0 where
  pub same : (address : Address) → has_address known address ≡ has_address kept address

-- whether all containers of the pod have ended
abbrev pub is_finished : Option (List ℕ) → Bool
is_finished found = option_map_or (λ phase. bytes_eq phase (codes "Succeeded") || bytes_eq phase (codes "Failed")) found false

-- the status of a pod
unfoldable pub pod_status : Data → Read PodStatus
pod_status value = must_be_object value >> do
  phase ← optional (codes "phase") text value
  first ← optional (codes "podIP") address value
  Ok (record { finished = is_finished phase; addresses = distinct_addresses (option_flatten first ∷ (← listed (codes "podIPs") pod_ip value)) })

-- what a pod without a status has
abbrev pub no_status : PodStatus
no_status = record { finished = false; addresses = [] }
