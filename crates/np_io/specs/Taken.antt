-- What a sink took of bytes that were to be written.
use Rattle.std.specs.Prelude.{◌≡◌, ◌<◌, ℕ, List, ◌++◌, length, Option}
use Rattle.std.specs.Io.KnownBytes.{append_known}

-- The sink took a front of the bytes, where it tells what it took, and not the rest.
pub record TookFront (old new : Option (List ℕ)) (bytes : List ℕ) : Type 0 where
  pub front : List ℕ
  pub rest : List ℕ
  pub parts : bytes ≡ front ++ rest
  pub taken : new ≡ append_known old front

-- The sink took a front of the bytes, where it tells what it took, and not all of them, unless there are none.
pub record TookLess (old new : Option (List ℕ)) (bytes : List ℕ) : Type 0 where
  pub front : List ℕ
  pub rest : List ℕ
  pub parts : bytes ≡ front ++ rest
  pub taken : new ≡ append_known old front
  pub less : 0 < length bytes → 0 < length rest

-- The sink took all of the bytes but the last ones, `left`, where it tells what it took. There are such, unless there are no
-- bytes at all.
pub record TookAllBut (old new : Option (List ℕ)) (bytes left : List ℕ) : Type 0 where
  pub front : List ℕ
  pub parts : bytes ≡ front ++ left
  pub taken : new ≡ append_known old front
  pub less : 0 < length bytes → 0 < length left
