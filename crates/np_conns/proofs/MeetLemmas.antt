-- What is met with everything. For `ConnSetCells::meet`.
use Rattle.std.proofs.Common.{◌≡◌, ◌&&◌, Bool, true, false, ap, refl, sym, ◌∙◌}
use Rattle.std.proofs.lemmas.Bool.{and_right}
use Rattle.np_conns.specs.Prelude.{Conns, IsConns, PortSpot, has_spot, is_spot}
use Rattle.np_conns.specs.Spots.{has_spot-is_spot}

-- a set has only spots of the space
pub met_all : (set all : Conns) (spot : PortSpot) → IsConns set → has_spot all spot ≡ is_spot spot → has_spot set spot ≡ (has_spot set spot && has_spot all spot)
met_all set all spot well everything = go (has_spot set spot) (has_spot-is_spot set spot well) ∙ ap (λ (b : Bool). has_spot set spot && b) (sym everything)
  where
    go : (held : Bool) → (held ≡ true → is_spot spot ≡ true) → held ≡ (held && is_spot spot)
    go true within = sym (within refl)
    go false within = refl

pub all_met : (set all : Conns) (spot : PortSpot) → IsConns set → has_spot all spot ≡ is_spot spot → has_spot set spot ≡ (has_spot all spot && has_spot set spot)
all_met set all spot well everything = go (has_spot set spot) (has_spot-is_spot set spot well) ∙ ap (λ (b : Bool). b && has_spot set spot) (sym everything)
  where
    go : (held : Bool) → (held ≡ true → is_spot spot ≡ true) → held ≡ (is_spot spot && held)
    go true within = sym (ap (λ (b : Bool). b && true) (within refl))
    go false within = sym (and_right (is_spot spot) false refl)
