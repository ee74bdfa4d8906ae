-- What the inputs of a job tell, how they are read, and why they are not.
use Rattle.std.specs.Prelude.{◌≡◌, ◌<◌, ◌≤◌, ◌+◌, ◌-◌, ◌^◌, min, ℕ, List, [], ◌∷◌, ◌++◌, Bool, true, Option, length, sum_by, nat_lt, take}
use Rattle.np_io.specs.Prelude.{BeganNext, IsTold, Rose}
use Rattle.np_frame.specs.declared.sources.TheConstants.{SIZE_LIMIT}
use Rattle.np_frame.specs.declared.sources.SourceFault.{SourceFault}
use Rattle.np_frame.specs.declared.sources.SourceFault.TheVariants.{CannotRead, TooLarge, NoMemory}

-- ---- what is told

abbrev pub is_too_large : List (List ℕ) → Bool
is_too_large texts = nat_lt SIZE_LIMIT (sum_by length texts)

-- the source tells these bytes for these names, one after another
abbrev pub AreTold : (List ℕ → Option (List ℕ)) → Option (List ℕ) → List (List ℕ) → List (List ℕ) → Type 0
AreTold holds left [] [] = Unit {0}
AreTold holds left (name ∷ names) (text ∷ texts) = IsTold holds left name text × AreTold holds left names texts
AreTold holds left names texts = ⊥

-- ---- what a call did to a source

-- what a source tells, and its counts and the names begun before a call and after it
pub record SourceTrace : Type 0 where
  pub holds : List ℕ → Option (List ℕ)
  pub left : Option (List ℕ)
  pub faults_before : List ℕ → ℕ
  pub faults_after : List ℕ → ℕ
  pub handed_before : ℕ
  pub handed_after : ℕ
  pub began_before : Option (List (List ℕ))
  pub began_after : Option (List (List ℕ))

-- the record of a call, by what contracts see of a source before it and after it
abbrev pub sourced : {I : Type 0} → (I → List ℕ → Option (List ℕ)) → (I → Option (List ℕ)) → (I → List ℕ → ℕ) → (I → ℕ) → (I → Option (List (List ℕ))) → I → I → SourceTrace
sourced holds left faults handed began old new = record {
  holds = holds old;
  left = left old;
  faults_before = faults old;
  faults_after = faults new;
  handed_before = handed old;
  handed_after = handed new;
  began_before = began old;
  began_after = began new;
}

-- names of a list were begun in their order, each once, from the first on: no other name, and none behind the last one
pub record BeganFront (source : SourceTrace) (names : List (List ℕ)) : Type 0 where
  pub front : List (List ℕ)
  pub rest : List (List ℕ)
  pub order : names ≡ front ++ rest
  pub began : BeganNext source.began_before source.began_after front

-- no call was made
pub record IsUntouched (source : SourceTrace) : Type 0 where
  pub faults : source.faults_after ≡ source.faults_before
  pub handed : source.handed_after ≡ source.handed_before
  pub began : source.began_after ≡ source.began_before

-- so many bytes were handed out: the count rose by them, at most to its end
pub record HandedOut (old new count : ℕ) : Type 0 where
  pub exact : min new (2 ^ 64 - 1) ≡ min (old + count) (2 ^ 64 - 1)
  pub most : new ≤ old + count

-- The inputs of these names were read, each once and in its turn: no call failed, no other name was begun, and the bytes
-- that were handed out are those of the texts, and no more than inputs may have.
pub record ReadOnce (source : SourceTrace) (names : List (List ℕ)) : Type 0 where
  pub unfailed : source.faults_after ≡ source.faults_before
  pub began : BeganNext source.began_before source.began_after names
  pub in_room : source.handed_after ≤ source.handed_before + SIZE_LIMIT
  pub handed : (texts : List (List ℕ)) → AreTold source.holds source.left names texts → HandedOut source.handed_before source.handed_after (sum_by length texts)

-- The reading of the inputs of these names ended at this one, since a call for it failed. It was begun last.
pub record FailedAt (source : SourceTrace) (names : List (List ℕ)) (name : List ℕ) : Type 0 where
  pub earlier : List (List ℕ)
  pub later : List (List ℕ)
  pub order : names ≡ earlier ++ name ∷ later
  pub began : BeganNext source.began_before source.began_after (earlier ++ name ∷ [])
  pub in_room : source.handed_after ≤ source.handed_before + SIZE_LIMIT
  pub rose : Rose (source.faults_before name) (source.faults_after name)

-- More bytes were handed out than inputs may have, but at most one piece more, of 8,192 bytes, and no call failed. The input
-- with which they became too many was begun last: those before it fit.
pub record OverLimit (source : SourceTrace) (names : List (List ℕ)) : Type 0 where
  pub earlier : List (List ℕ)
  pub name : List ℕ
  pub later : List (List ℕ)
  pub order : names ≡ earlier ++ name ∷ later
  pub began : BeganNext source.began_before source.began_after (earlier ++ name ∷ [])
  pub past : Rose (source.handed_before + SIZE_LIMIT) source.handed_after
  pub most : source.handed_after ≤ source.handed_before + SIZE_LIMIT + 8192
  pub unfailed : source.faults_after ≡ source.faults_before
  pub large : (texts : List (List ℕ)) → AreTold source.holds source.left names texts → is_too_large texts ≡ true
  pub fits : (texts : List (List ℕ)) → AreTold source.holds source.left names texts → sum_by length (take (length earlier) texts) ≤ SIZE_LIMIT

-- why the inputs of these names were not read to their ends
abbrev pub Unread : SourceTrace → List (List ℕ) → SourceFault → Type 0
Unread source names (CannotRead name) = FailedAt source names name
Unread source names TooLarge = OverLimit source names
Unread source names NoMemory = BeganFront source names

-- why the next input was not read to its end, with room for so many bytes
abbrev pub NextUnread : SourceTrace → List ℕ → ℕ → SourceFault → Type 0
NextUnread source asked room (CannotRead name) = (name ≡ asked) × Rose (source.faults_before asked) (source.faults_after asked)
    × (source.handed_after ≤ source.handed_before + room)
NextUnread source asked room TooLarge = Rose (source.handed_before + room) source.handed_after
    × (source.handed_after ≤ source.handed_before + room + 8192)
    × (source.faults_after ≡ source.faults_before)
    × ((bytes : List ℕ) → IsTold source.holds source.left asked bytes → room < length bytes)
NextUnread source asked room NoMemory = Unit {0}

-- the fault names this input, or the name could not be kept
abbrev pub NamesInput : List ℕ → SourceFault → Type 0
NamesInput asked (CannotRead name) = name ≡ asked
NamesInput asked TooLarge = ⊥
NamesInput asked NoMemory = Unit {0}
