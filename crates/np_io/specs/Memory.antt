-- What contracts see of the source and the sink in memory.
use Rattle.std.specs.Prelude.{◌≡◌, ℕ, ◌<◌, ◌≤◌, List, [], Bool, Option, Some, None, max, length, drop, slice_get, slice_index}
use Rattle.std.specs.Option.{option_map, option_map_or}
use Rattle.std.specs.List.{position_from}
use Rattle.std.specs.Str.{bytes_eq}
use Rattle.std.proofs.Common.{refl}
use Rattle.np_io.specs.declared.mem_inputs.Begun.{Begun}
use Rattle.np_io.specs.declared.held.Held.{Held}

-- a sink in memory
pub record SinkState : Type 0 where
  -- the bytes that it took, and how many it has room for
  pub taken : List ℕ
  pub room : ℕ
  -- how many bytes a call takes at most
  pub piece : ℕ
  -- the numbers of the calls that fail, from 1 on, and how many calls there were
  pub failing : List ℕ
  pub calls : ℕ
  -- how many calls failed
  pub faults : ℕ

-- a sink that took nothing, with room for so many bytes, of which a call takes a piece at most
abbrev pub empty_sink : ℕ → ℕ → SinkState
empty_sink room piece = record {
  taken = [];
  room = room;
  piece = max piece 1;
  failing = [];
  calls = 0;
  faults = 0;
}

-- a source in memory
pub record SourceState : Type 0 where
  -- the names that it holds with their bytes, their counts of faults, and the count of all other names
  pub held : List Held
  pub faults : List ℕ
  pub other_faults : ℕ
  -- how many bytes a read hands out at most
  pub piece : ℕ
  -- the numbers of the calls of `begin` and of `read` that fail, from 1 on, and how many calls there were
  pub failing_begins : List ℕ
  pub failing_reads : List ℕ
  pub begins : ℕ
  pub reads : ℕ
  -- the names that were begun so far, while the memory for them sufficed
  pub began : Option (List (List ℕ))
  -- which name is begun, and how many bytes were handed out in all
  pub begun : Option Begun
  pub handed : ℕ

-- a source that holds no name, of which a read hands out a piece at most
abbrev pub empty_source : ℕ → SourceState
empty_source piece = record {
  held = [];
  faults = [];
  other_faults = 0;
  piece = max piece 1;
  failing_begins = [];
  failing_reads = [];
  begins = 0;
  reads = 0;
  began = Some [];
  begun = None;
  handed = 0;
}

-- whether this is held under the name
abbrev pub is_named : List ℕ → Held → Bool
is_named name held = bytes_eq held.name name

-- the place of a name, where it is held
abbrev pub place_of : List Held → List ℕ → Option ℕ
place_of held name = position_from (is_named name) 0 held

-- the name at a place
abbrev pub name_at : List Held → ℕ → List ℕ
name_at held place = option_map_or (λ h. h.name) (slice_get held place) []

-- the bytes at a place
abbrev pub bytes_at : List Held → ℕ → List ℕ
bytes_at held place = option_map_or (λ h. h.bytes) (slice_get held place) []

-- the bytes of a name, none where it is not held
abbrev pub bytes_of : List Held → List ℕ → List ℕ
bytes_of held name = option_map_or (bytes_at held) (place_of held name) []

-- the count of faults of a name
abbrev pub faults_of : SourceState → List ℕ → ℕ
faults_of source name = option_map_or (slice_index source.faults) (place_of source.held name) source.other_faults

-- the name that is begun
abbrev pub begun_name : SourceState → Option (List ℕ)
begun_name source = option_map (λ begun. name_at source.held begun.place) source.begun

-- the bytes that are left of the begun name
abbrev pub bytes_left : SourceState → List ℕ
bytes_left source = option_map_or (λ begun. drop begun.at (bytes_at source.held begun.place)) source.begun []

-- the place is the first of its name, and so many bytes of it were handed out
pub record IsBegunAt (held : List Held) (place at : ℕ) : Type 0 where
  pub placed : place < length held
  pub first : place_of held (name_at held place) ≡ Some place
  pub within : at ≤ length (bytes_at held place)

-- the begun name is held, and no more than its bytes were handed out
abbrev pub IsHeldBegun : List Held → Option Begun → Type 0
IsHeldBegun held None = Unit {0}
IsHeldBegun held (Some begun) = IsBegunAt held begun.place begun.at

-- what is true of every source in memory
pub record IsSound (held : List Held) (faults : List ℕ) (piece : ℕ) (begun : Option Begun) : Type 0 where
  pub counted : length faults ≡ length held
  pub piece_some : 1 ≤ piece
  pub begun_held : IsHeldBegun held begun

-- while no name is begun, nothing is left
pub none_left : (source : SourceState) → Some (begun_name source) ≡ Some None → bytes_left source ≡ []
none_left source none_begun = none_left_at source.begun none_begun
  where
    none_left_at : (begun : Option Begun) → Some (option_map (λ b. name_at source.held b.place) begun) ≡ Some None → option_map_or (λ b. drop b.at (bytes_at source.held b.place)) begun [] ≡ []
    none_left_at None none_begun = refl
    none_left_at (Some b) none_begun = cc
