-- What a list of rows is to say of all hypothetical pods.
use Rattle.std.specs.Prelude.{◌≡◌, List, [], ◌∷◌, find, Bool, Some, not, ◌&&◌, IsTrue}
use Rattle.np_exposure.specs.Strangers.{IsExposure, meets_all}
use Rattle.np_exposure.specs.Types.{ExposureRow, Stranger}
use Rattle.np_rules.specs.Prelude.{PodSide}

-- the first row that a stranger meets has exactly the spots of its exposure
pub record FirstRowTells (side : PodSide) (rows : List ExposureRow) (s : Stranger) : Type 0 where
  pub row : ExposureRow
  pub first : find (λ other. meets_all other.requirements s) rows ≡ Some row
  pub exposure : IsExposure side s row.conns

-- each row is the first that some of these strangers meets
abbrev pub IsEachFirst : (Stranger → Bool) → List ExposureRow → Type 0
IsEachFirst among [] = Unit {0}
IsEachFirst among (row ∷ rows) = ((s : Stranger) × IsTrue (among s && meets_all row.requirements s)) × IsEachFirst (λ s. among s && not (meets_all row.requirements s)) rows
