-- Writing the rows of a table one after another. For PuttingLemmas and crates above.
use Rattle.std.proofs.Common.{◌≡◌, ℕ, List, [], ◌++◌, Option, Ok, Err, refl, sym, subst, ◌∙◌, append-nil}
use Rattle.std.specs.Io.KnownBytes.{append_known}
use Rattle.np_io.specs.Prelude.{Rose, TookAllBut, TookFront}
use Rattle.np_io.proofs.TakenLemmas.{TookAllBut-all, TookAllBut-fault, TookAllBut-finish, TookAllBut-less, TookAllBut-put, TookAllBut-put_fault}
use Rattle.np_command.specs.Prelude.{SinkTrace, Writes}
use Rattle.np_command.specs.declared.write_fault.WriteFault.TheVariants.{SinkFailed, NoMemory}

abbrev pub between : Option (List ℕ) → Option (List ℕ) → ℕ → ℕ → SinkTrace
between before after faults_before faults_after = record { before = before; after = after; faults_before = faults_before; faults_after = faults_after }

-- the sink took all of a text but what is held and what is still to come, and no write failed
pub record HasLeft (before after : Option (List ℕ)) (faults_before faults_after : ℕ) (whole held rest : List ℕ) : Type 0 where
  pub taken : TookAllBut before after whole (held ++ rest)
  pub faults : faults_after ≡ faults_before

-- nothing was put yet
pub HasLeft-all : (before : Option (List ℕ)) (faults : ℕ) (whole : List ℕ) → HasLeft before before faults faults whole [] whole
HasLeft-all before faults whole = record { taken = TookAllBut-all before whole; faults = refl }

-- the next text was put too
pub HasLeft-next : (before middle after : Option (List ℕ)) (faults_before faults_middle faults_after : ℕ) (whole held held' text rest : List ℕ) →
    HasLeft before middle faults_before faults_middle whole held (text ++ rest) → TookAllBut middle after (held ++ text) held' → faults_after ≡ faults_middle →
    HasLeft before after faults_before faults_after whole held' rest
HasLeft-next before middle after faults_before faults_middle faults_after whole held held' text rest has put faults = record {
  taken = TookAllBut-put before middle after whole held text held' rest has.taken put;
  faults = faults ∙ has.faults;
}

-- a fault at the next text is one of the whole
pub HasLeft-fault : (before middle after : Option (List ℕ)) (faults_before faults_middle faults_after : ℕ) (whole held text rest : List ℕ) →
    HasLeft before middle faults_before faults_middle whole held (text ++ rest) → TookFront middle after (held ++ text) → Rose faults_middle faults_after →
    Writes (between before after faults_before faults_after) whole (Err SinkFailed)
HasLeft-fault before middle after faults_before faults_middle faults_after whole held text rest has took rose =
    (TookAllBut-put_fault before middle after whole held text rest has.taken took, subst (λ (n : ℕ). Rose n faults_after) has.faults rose)

-- where memory is refused, less than all was taken
pub HasLeft-memory : (before after : Option (List ℕ)) (faults_before faults_after : ℕ) (whole held rest : List ℕ) → HasLeft before after faults_before faults_after whole held rest →
    Writes (between before after faults_before faults_after) whole (Err NoMemory)
HasLeft-memory before after faults_before faults_after whole held rest has = TookAllBut-less before after whole (held ++ rest) has.taken

-- the last text has nothing behind it
pub HasLeft-last : (before after : Option (List ℕ)) (faults_before faults_after : ℕ) (whole held text : List ℕ) → HasLeft before after faults_before faults_after whole held text →
    HasLeft before after faults_before faults_after whole held (text ++ [])
HasLeft-last before after faults_before faults_after whole held text has = subst (HasLeft before after faults_before faults_after whole held) (sym (append-nil text)) has

-- what is held is handed on at the end
pub HasLeft-finish : (before middle after : Option (List ℕ)) (faults_before faults_middle faults_after : ℕ) (whole held : List ℕ) → HasLeft before middle faults_before faults_middle whole held [] →
    after ≡ append_known middle held → faults_after ≡ faults_middle → Writes (between before after faults_before faults_after) whole (Ok tt)
HasLeft-finish before middle after faults_before faults_middle faults_after whole held has finished faults =
    record { taken = TookAllBut-finish before middle after whole held (subst (TookAllBut before middle whole) (append-nil held) has.taken) finished; faults = faults ∙ has.faults }

-- a fault at that is one of the whole
pub HasLeft-finish_fault : (before middle after : Option (List ℕ)) (faults_before faults_middle faults_after : ℕ) (whole held rest : List ℕ) →
    HasLeft before middle faults_before faults_middle whole held rest → TookFront middle after held → Rose faults_middle faults_after →
    Writes (between before after faults_before faults_after) whole (Err SinkFailed)
HasLeft-finish_fault before middle after faults_before faults_middle faults_after whole held rest has took rose =
    (TookAllBut-fault before middle after whole held rest has.taken took, subst (λ (n : ℕ). Rose n faults_after) has.faults rose)

-- ---- rows that are still to come
