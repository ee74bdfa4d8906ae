-- The numbers behind equal names.
use Rattle.std.specs.Prelude.{◌≡◌, ℕ, ◌<◌, List, ◌++◌, codes, decimal}
use Rattle.np_names.specs.Names.{name_at, wish_at}

-- Behind the names of two things stand `#` and a number, and the first thing has the lower one.
pub record AreNumbered (wishes : List (List ℕ)) (first second : ℕ) : Type 0 where
  pub lower : ℕ
  pub higher : ℕ
  pub order : lower < higher
  pub first_name : name_at wishes first ≡ wish_at wishes first ++ (codes "#" ++ decimal lower)
  pub second_name : name_at wishes second ≡ wish_at wishes second ++ (codes "#" ++ decimal higher)
