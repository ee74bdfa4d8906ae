-- What a call leaves that puts bytes behind those that are held.
use Rattle.std.specs.Prelude.{◌≡◌, ℕ, List, ◌++◌, Result, Ok, Err, ⊤}
use Rattle.np_command.specs.Sinks.{SinkTrace}
use Rattle.np_command.specs.Written.{Writes}
use Rattle.np_command.specs.Types.{WriteFault}
use Rattle.np_io.specs.Prelude.{TookAllBut}

-- The sink took all of what was held and of the bytes, but what is held now, and no call on it failed.
pub record PutAll (out : SinkTrace) (held left bytes : List ℕ) : Type 0 where
  pub taken : TookAllBut out.before out.after (held ++ bytes) left
  pub faults : out.faults_after ≡ out.faults_before

-- So it did, or as little as where what was held and the bytes are not written whole.
abbrev pub Puts : SinkTrace → List ℕ → List ℕ → List ℕ → Result ⊤ WriteFault → Type 0
Puts out held left bytes (Ok done) = PutAll out held left bytes
Puts out held left bytes (Err fault) = Writes out (held ++ bytes) (Err fault)
