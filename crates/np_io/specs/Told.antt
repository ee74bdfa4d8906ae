-- What is told of devices of the system.
use Rattle.std.specs.Prelude.{◌≡◌, ℕ, List, [], Option, Some, None, ⊤}
use Rattle.std.specs.Option.{option_map}
use Rattle.std.specs.Io.KnownBytes.{IsAtEnd}

-- what a device tells now, if it told something from the first
abbrev pub told_since : Option (List ℕ) → Option (List ℕ) → Option (List ℕ)
told_since None now = None
told_since (Some first) now = now

-- the bytes that a name holds, where it is told what each name holds
abbrev pub held : Option (List ℕ → List ℕ) → List ℕ → Option (List ℕ)
held names name = option_map (λ bytes_of. bytes_of name) names

-- what was opened by a name has all bytes of the name left, where it is told what each name holds
abbrev pub HasAll : Option (List ℕ → List ℕ) → List ℕ → Option (List ℕ) → Type 0
HasAll None name left = ⊤
HasAll (Some bytes_of) name left = left ≡ Some (bytes_of name)

-- the bytes that are left of what is begun, where it is told what each name holds
abbrev pub left_begun : {Stream : Type 0} → Option (List ℕ → List ℕ) → (Stream → Option (List ℕ)) → Option Stream → Option (List ℕ)
left_begun None left begun = None
left_begun (Some bytes_of) left None = Some []
left_begun (Some bytes_of) left (Some stream) = left stream

-- which name is begun, where this is not told
abbrev pub untold : Option (Option (List ℕ))
untold = None

-- it is not told then that no name is begun
pub none_told : (left : Option (List ℕ)) → untold ≡ Some None → IsAtEnd left
none_told left none = cc
