-- The rows at a requirement, from those behind it. For `rows_of`.
use Rattle.std.proofs.Common.{◌≡◌, List, [], ◌∷◌, ◌++◌, Bool, true, false, not, Option, Some, None, sym, subst, length, arith}
use Rattle.std.proofs.lemmas.Bool.{false≢true, true≢false}
use Rattle.np_exposure.proofs.FillLemmas.{Fills-last}
use Rattle.np_exposure.specs.Prelude.{AreJoinedAt, AreWalked, Aside, Choices, ExposureRow, Fills, IsJoined, IsJoinedBy, IsLeaf, IsStepTo, Pending, SidedRequirement, can_be, narrowed}
use Rattle.np_rules.specs.Prelude.{PodSide}

module _ (asked : SidedRequirement) (Met Unmet : List ExposureRow → Type 0) (rows : List ExposureRow) where
  only-met : (can_meet can_miss : Bool) → can_meet ≡ true → can_miss ≡ false → Met rows → AreJoinedAt asked can_meet can_miss Met Unmet rows
  only-met true true meet miss walked = absurd (true≢false miss)
  only-met true false meet miss walked = walked
  only-met false can_miss meet miss walked = absurd (false≢true meet)

  only-missed : (can_meet can_miss : Bool) → can_meet ≡ false → Unmet rows → AreJoinedAt asked can_meet can_miss Met Unmet rows
  only-missed true can_miss meet walked = absurd (true≢false meet)
  only-missed false can_miss meet walked = walked

  both-cases : (can_meet can_miss : Bool) (met unmet : List ExposureRow) → can_meet ≡ true → can_miss ≡ true → Met met → Unmet unmet → IsJoined asked met unmet rows →
      AreJoinedAt asked can_meet can_miss Met Unmet rows
  both-cases true true met unmet meet miss first second joined = (met, unmet, first, second, joined)
  both-cases true false met unmet meet miss first second joined = absurd (false≢true miss)
  both-cases false can_miss met unmet meet miss first second joined = absurd (false≢true meet)

module _ (asked : SidedRequirement) (can : Bool → Bool) (Rows : Bool → List ExposureRow → Type 0) (rows : List ExposureRow) where
  one-case : (wanted : Bool) → can wanted ≡ true → can (not wanted) ≡ false → Rows wanted rows → AreJoinedAt asked (can true) (can false) (Rows true) (Rows false) rows
  one-case true here there walked = only-met asked (Rows true) (Rows false) rows (can true) (can false) here there walked
  one-case false here there walked = only-missed asked (Rows true) (Rows false) rows (can true) (can false) there walked

  two-cases : (wanted : Bool) (known others : List ExposureRow) → can true ≡ true → can false ≡ true → Rows wanted known → Rows (not wanted) others → IsJoinedBy asked wanted known others rows →
      AreJoinedAt asked (can true) (can false) (Rows true) (Rows false) rows
  two-cases true known others meet miss first second joined = both-cases asked (Rows true) (Rows false) rows (can true) (can false) known others meet miss first second joined
  two-cases false known others meet miss first second joined = both-cases asked (Rows true) (Rows false) rows (can true) (can false) others known meet miss second first joined

module _ (side : PodSide) (asked : SidedRequirement) (rest : List SidedRequirement) (state next : List Choices) where
  -- where it cannot be otherwise, the rows are those of the one case
  pub walked-alone : (rows : List ExposureRow) → IsStepTo asked state next None → AreWalked side rest next rows → AreWalked side (asked ∷ rest) state rows
  unfolding AreWalked
  walked-alone rows step walked =
      one-case asked (λ wanted. can_be wanted asked state) (λ wanted. AreWalked side rest (narrowed wanted asked state)) rows step.0 step.1 step.2
      (subst (λ (s : List Choices). AreWalked side rest s rows) step.3 walked)

  -- else they are those of both, joined
  walked-joined : (aside : Aside) (known others rows : List ExposureRow) → IsStepTo asked state next (Some aside) → AreWalked side rest aside.case.state.items known → AreWalked side rest next others →
      IsJoinedBy asked aside.wanted known others rows → AreWalked side (asked ∷ rest) state rows
  unfolding AreWalked
  walked-joined aside known others rows step first second joined =
      two-cases asked (λ wanted. can_be wanted asked state) (λ wanted. AreWalked side rest (narrowed wanted asked state)) rows aside.wanted known others step.0 step.1
      (subst (λ (s : List Choices). AreWalked side rest s known) step.2 first) (subst (λ (s : List Choices). AreWalked side rest s others) step.3 second) joined

-- ---- the rows that wait

-- what those that wait make of the rows of these requirements, all make
abbrev pub IsFilled : PodSide → List Pending → List SidedRequirement → List Choices → (List ExposureRow → Type 0) → Type 0
IsFilled side pending left state All = (rows made : List ExposureRow) → AreWalked side left state rows → Fills pending rows made → All made

module _ (side : PodSide) (asked : SidedRequirement) (left rest : List SidedRequirement) (state next : List Choices) (pending : List Pending) (All : List ExposureRow → Type 0)
    (left_is : left ≡ asked ∷ rest) (filled : IsFilled side pending left state All) where
  pub filled-alone : (aside : Option Aside) → aside ≡ None → IsStepTo asked state next aside → IsFilled side pending rest next All
  filled-alone aside none step rows made walked fills =
      filled rows made
      (subst (λ (all : List SidedRequirement). AreWalked side all state rows) (sym left_is)
      (walked-alone side asked rest state next rows (subst (IsStepTo asked state next) none step) walked)) fills

  pub filled-joined : (aside : Option Aside) (put : Aside) (waits : Pending) (more : List Pending) → aside ≡ Some put → IsStepTo asked state next aside → more ≡ pending ++ waits ∷ [] →
      waits.requirement.now ≡ asked → waits.wanted ≡ put.wanted → AreWalked side rest put.case.state.items waits.rows.items → IsFilled side more rest next All
  filled-joined aside put waits more some step pushed asked_is wanted_is known rows made walked fills =
      let last = Fills-last pending waits rows made (subst (λ (all : List Pending). Fills all rows made) pushed fills) in
      let joined = subst (λ (wanted : Bool). IsJoinedBy asked wanted waits.rows.items rows last.0) wanted_is
      (subst (λ (a : SidedRequirement). IsJoinedBy a waits.wanted waits.rows.items rows last.0) asked_is last.1) in
      filled last.0 made
      (subst (λ (all : List SidedRequirement). AreWalked side all state last.0) (sym left_is)
      (walked-joined side asked rest state next put waits.rows.items rows last.0 (subst (IsStepTo asked state next) some step) known walked joined)) last.2

-- where none is left, they are those of a leaf
pub walked-leaf : (side : PodSide) (left : List SidedRequirement) (state seen : List Choices) (rows : List ExposureRow) → length left ≡ 0 → seen ≡ state → IsLeaf side seen rows →
    AreWalked side left state rows
unfolding AreWalked
walked-leaf side [] state seen rows none is leaf = subst (λ (s : List Choices). IsLeaf side s rows) is leaf
walked-leaf side (asked ∷ left) state seen rows none is leaf = absurd (omega arith)
