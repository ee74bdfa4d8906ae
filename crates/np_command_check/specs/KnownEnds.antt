-- Which ends that statements name are there.
use Rattle.std.specs.Prelude.{ℕ, ◌≡◌, List, [], ◌∷◌, ◌++◌, All, flat_map}
use Rattle.np_command_check.specs.Types.{EndForm, EstateLists, StatementLine}
use Rattle.np_statements.specs.declared.statement_text.EndForm.TheVariants.{Work}
use Rattle.np_statements.specs.Prelude.{IsNamedPod}

-- some pod is of the workload that a form names; any other form names what is there
abbrev pub IsKnown : EstateLists → EndForm → Type 0
IsKnown lists (Work name) = (place : ℕ) × IsNamedPod lists (Work name) place
IsKnown lists other = Unit {0}

-- the forms of statements: the source of each, and then its destination
abbrev pub forms_of : List StatementLine → List EndForm
forms_of lines = flat_map (λ line. line.statement.source ∷ line.statement.destination ∷ []) lines

-- The name is that of no workload, and stands first: all forms before it are known.
pub record IsFirstUnknown (lists : EstateLists) (lines : List StatementLine) (name : List ℕ) : Type 0 where
  pub before : List EndForm
  pub behind : List EndForm
  pub place : forms_of lines ≡ before ++ Work name ∷ behind
  pub earlier : All (IsKnown lists) before
  pub unknown : IsKnown lists (Work name) → ⊥
