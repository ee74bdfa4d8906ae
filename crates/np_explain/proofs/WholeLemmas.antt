-- One part of everything. For `everything`.
use Rattle.std.proofs.Common.{◌≡◌, ◌↔◌, IsTrue, Bool, true, false, [], ◌∷◌, ◌||◌, ap, ◌∙◌, refl, arith}
use Rattle.std.proofs.lemmas.List.Elements.{All-cons, All-nil}
use Rattle.np_conns.specs.Prelude.{Conns, IsConns, has_spot, is_spot}
use Rattle.np_explain.specs.Prelude.{AreRightParts, Decider, PortSpot, Tcp}

-- where one decider decides each spot
pub whole_is_right : (decider : Decider) (conns : Conns) → IsConns conns → ((spot : PortSpot) → has_spot conns spot ≡ is_spot spot) →
    AreRightParts (λ _. decider) (record { decider = decider; conns = conns } ∷ [])
whole_is_right decider conns well members = record {
  spots = All-cons (λ part. (spot : PortSpot) → is_spot spot ≡ true → IsTrue (has_spot part.conns spot) ↔ (decider ≡ part.decider)) (record { decider = decider; conns = conns }) []
      (λ spot inside. (λ has. refl, λ same. members spot ∙ inside)) (All-nil (λ part. (spot : PortSpot) → is_spot spot ≡ true → IsTrue (has_spot part.conns spot) ↔ (decider ≡ part.decider)));
  all = λ spot inside. ap (λ (b : Bool). b || false) (members spot ∙ inside);
  distinct = λ i j d earlier within. absurd (omega arith);
  filled = All-cons (λ part. (spot : PortSpot) × (has_spot part.conns spot ≡ true)) (record { decider = decider; conns = conns }) []
      (record { proto = Tcp; port = 1 }, members (record { proto = Tcp; port = 1 })) (All-nil (λ part. (spot : PortSpot) × (has_spot part.conns spot ≡ true)));
  well = All-cons (λ part. IsConns part.conns) (record { decider = decider; conns = conns }) [] well (All-nil (λ part. IsConns part.conns));
  ordered = λ i j d earlier within. absurd (omega arith);
}
