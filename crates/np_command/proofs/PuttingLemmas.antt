-- Putting texts one after another behind those that are held. For crates above.
use Rattle.std.proofs.Common.{◌≡◌, ◌<◌, ◌≤◌, ◌+◌, ℕ, suc, List, [], ◌∷◌, ◌++◌, length, drop, get_or, flat_map, Option, Err, arith, refl, ap, subst, sym, ◌∙◌, append-nil}
use Rattle.std.proofs.Math.Seq.{drop-cons}
use Rattle.std.proofs.lemmas.List.{drop_all}
use Rattle.np_command.proofs.LeftLemmas.{HasLeft, HasLeft-next, between}
use Rattle.np_command.specs.Prelude.{PutAll, SinkFailed, WriteFault, Writes}
use Rattle.np_command.specs.declared.write_fault.WriteFault.TheVariants.{NoMemory}
use Rattle.np_io.proofs.TakenLemmas.{TookAllBut-all, TookAllBut-put_fault, TookAllBut-put_less}
use Rattle.np_io.specs.Prelude.{Rose, TookAllBut}

-- ---- texts

-- the text of the next item stands before those of the others
pub flat_map-next : {X : Type 0} (f : X → List ℕ) (items : List X) (i : ℕ) (item : X) → i < length items → item ≡ get_or items i item
    → flat_map f (drop i items) ≡ f item ++ flat_map f (drop (i + 1) items)
flat_map-next {X} f items i item within is =
    let next : suc i ≡ i + 1 = omega arith in
    ap (flat_map f) (drop-cons items i item within ∙ ap (λ (k : ℕ). get_or items i item ∷ drop k items) next)
    ∙ ap (λ (one : X). f one ++ flat_map f (drop (i + 1) items)) (sym is)

-- behind the last item there is none
pub flat_map-none : {X : Type 0} (f : X → List ℕ) (items : List X) (i : ℕ) → length items ≤ i → flat_map f (drop i items) ≡ []
flat_map-none f items i past = ap (flat_map f) (drop_all i items past)

-- ---- calls

-- nothing was put yet, and something is held
pub HasLeft-held : (before : Option (List ℕ)) (faults : ℕ) (held text : List ℕ) → HasLeft before before faults faults (held ++ text) held text
HasLeft-held before faults held text = record { taken = TookAllBut-all before (held ++ text); faults = refl }

-- a call put the next text
pub HasLeft-call : (before middle after : Option (List ℕ)) (faults_before faults_middle faults_after : ℕ) (whole held held' text rest : List ℕ)
    → HasLeft before middle faults_before faults_middle whole held (text ++ rest) → PutAll (between middle after faults_middle faults_after) held held' text
    → HasLeft before after faults_before faults_after whole held' rest
HasLeft-call before middle after faults_before faults_middle faults_after whole held held' text rest has put =
    HasLeft-next before middle after faults_before faults_middle faults_after whole held held' text rest has put.taken put.faults

-- where a call does not put the next text, the whole is not written
pub HasLeft-call_fault : (before middle after : Option (List ℕ)) (faults_before faults_middle faults_after : ℕ) (whole held text rest : List ℕ) (fault : WriteFault)
    → HasLeft before middle faults_before faults_middle whole held (text ++ rest) → Writes (between middle after faults_middle faults_after) (held ++ text) (Err fault)
    → Writes (between before after faults_before faults_after) whole (Err fault)
HasLeft-call_fault before middle after faults_before faults_middle faults_after whole held text rest SinkFailed has wrote =
    (TookAllBut-put_fault before middle after whole held text rest has.taken wrote.0, subst (λ (n : ℕ). Rose n faults_after) has.faults wrote.1)
HasLeft-call_fault before middle after faults_before faults_middle faults_after whole held text rest NoMemory has wrote =
    TookAllBut-put_less before middle after whole held text rest has.taken wrote

-- all was put
pub HasLeft-put : (before after : Option (List ℕ)) (faults_before faults_after : ℕ) (held left text : List ℕ)
    → HasLeft before after faults_before faults_after (held ++ text) left [] → PutAll (between before after faults_before faults_after) held left text
HasLeft-put before after faults_before faults_after held left text has = record {
  taken = subst (TookAllBut before after (held ++ text)) (append-nil left) has.taken;
  faults = has.faults;
}
