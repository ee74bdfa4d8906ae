-- What a call did to a sink.
use Rattle.std.specs.Prelude.{◌≡◌, ℕ, ◌⊎◌, List, Option}
use Rattle.std.specs.Io.KnownBytes.{append_known}
use Rattle.np_io.specs.Prelude.{Rose, TookFront}

-- what a sink took, and its count of faults, before a call and after it
pub record SinkTrace : Type 0 where
  pub before : Option (List ℕ)
  pub after : Option (List ℕ)
  pub faults_before : ℕ
  pub faults_after : ℕ

-- the record of a call, by what contracts see of a sink before it and after it
abbrev pub sunk : {O : Type 0} → (O → Option (List ℕ)) → (O → ℕ) → O → O → SinkTrace
sunk taken faults old new = record { before = taken old; after = taken new; faults_before = faults old; faults_after = faults new }

-- the sink took nothing, and no call on it failed
pub record IsKept (sink : SinkTrace) : Type 0 where
  pub taken : sink.after ≡ sink.before
  pub faults : sink.faults_after ≡ sink.faults_before

-- the sink took these bytes whole, and no call on it failed
pub record TookWhole (sink : SinkTrace) (bytes : List ℕ) : Type 0 where
  pub taken : sink.after ≡ append_known sink.before bytes
  pub faults : sink.faults_after ≡ sink.faults_before

-- The sink took the bytes whole, or a front of them where its count of faults rose.
abbrev pub Said : SinkTrace → List ℕ → Type 0
Said sink bytes = TookWhole sink bytes ⊎ (TookFront sink.before sink.after bytes × Rose sink.faults_before sink.faults_after)
