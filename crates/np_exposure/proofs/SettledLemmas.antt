-- What is known of each hypothetical pod with labels among the choices. For `KeyChoices::are`, `KeyChoices::meet` and 7 more.
use Rattle.std.proofs.Common.{◌≡◌, ℕ, zero, suc, ◌+◌, ◌<◌, ◌≤◌, List, [], ◌∷◌, ◌++◌, length, get_or, map, take, filter, Bool, true, false, not, ◌&&◌, ◌||◌, Option, Some, None, IfSome, if◌then◌else◌, ◌⊎◌, refl, sym, ap, ◌∙◌, subst, inl, inr, arith}
use Rattle.std.specs.List.{AllByRecursion, list_all, list_any}
use Rattle.std.specs.Str.{bytes_eq}
use Rattle.std.specs.Cmp.Lexicographic.{bytes_decides}
use Rattle.std.proofs.lemmas.Bool.{and_parts, false≢true}
use Rattle.std.proofs.lemmas.List.Folds.{list_all-map, list_all_more, list_any-append, list_any_more}
use Rattle.std.proofs.lemmas.List.{take_all}
use Rattle.std.proofs.Math.Bool.{or-false, or_assoc}
use Rattle.np_base.proofs.Bools.{or-last}
use Rattle.np_conns.specs.Prelude.{has_spot}
use Rattle.np_exposure.specs.Prelude.{Aside, Case, Choices, IsChosen, IsRight, IsSettled, IsStepTo, IsWitness, OpenRule, OpenRules, PermitSame, PortSpot, Side, SidedRequirement, StandForAll, Stranger, labels_at, narrowed, permits, rule_matches, same_side, suits}
use Rattle.np_exposure.proofs.ListLemmas.{All-at, list_all-at, list_any-at}
use Rattle.np_exposure.proofs.SameLemmas.{same_side-equal}
use Rattle.np_labels.specs.Prelude.{value_of}
use Rattle.np_rules.specs.Prelude.{IsAmong, PodSide, kept_reaches, near_pod, pod, stranger_end}

-- ---- the choices at a key

among-get : {X : Type 0} (xs : List X) (i : ℕ) (x : X) → i < length xs → x ≡ get_or xs i x → IsAmong x xs
among-get [] i x within is = absurd (omega arith)
among-get (y ∷ xs) zero x within is = inl is
among-get (y ∷ xs) (suc i) x within is = inr (among-get xs i x (omega arith) is)

-- what a witness has at a key is among the choices there
pub witness-at : (state : List Choices) (i : ℕ) (choices : Choices) (side : Side) (key : List ℕ) → i < length state → choices ≡ get_or state i choices
    → (same_side choices.side side && bytes_eq choices.key key) ≡ true
    → (s : Stranger) → IsWitness state s → IsAmong (value_of (labels_at side s) key) choices.found
witness-at state i choices side key within is at s witness =
    let parts = and_parts (same_side choices.side side) (bytes_eq choices.key key) at in
    let chosen : IsAmong (value_of (labels_at choices.side s) choices.key) choices.found =
    All-at (IsChosen s) choices state (among-get state i choices within is) witness.chosen in
    subst (λ (one : Side). IsAmong (value_of (labels_at one s) key) choices.found) (same_side-equal choices.side side parts.0)
    (subst (λ (one : List ℕ). IsAmong (value_of (labels_at choices.side s) one) choices.found) ((bytes_decides choices.key key).0 parts.1) chosen)

module _ {A B : Type 0} (test : B → Bool) (f : A → B) (items seen : List A) (found : List B) (seen_is : seen ≡ items) (found_is : map f items ≡ found) where
  pub all-choices : (all : Bool) → all ≡ list_all (λ x. test (f x)) seen → all ≡ true → (y : B) → IsAmong y found → true ≡ test y
  all-choices all is holds y among =
      sym (list_all-at test y found among (ap (list_all test) (sym found_is) ∙ list_all-map test f items ∙ ap (list_all (λ x. test (f x))) (sym seen_is) ∙ sym is ∙ holds))

  pub no-choice : (some : Bool) → some ≡ list_any (λ x. test (f x)) seen → some ≡ false → (y : B) → IsAmong y found → false ≡ test y
  no-choice some is none y among = by (test y) refl
    where
      images : (xs : List A) → list_any test (map f xs) ≡ list_any (λ x. test (f x)) xs
      images [] = refl
      images (x ∷ xs) = ap (λ b. test (f x) || b) (images xs)

      by : (b : Bool) → test y ≡ b → false ≡ b
      by false never = refl
      by true here =
          let found_some : list_any (λ x. test (f x)) seen ≡ true =
          ap (list_any (λ x. test (f x))) seen_is ∙ sym (images items) ∙ ap (list_any test) found_is ∙ list_any-at test y found among here in
          absurd (false≢true (sym none ∙ is ∙ found_some))

-- ---- one thing more of all, and of some

module _ {X : Type 0} (state : List Choices) (asks : X → Stranger → Bool) (items : List X) (i : ℕ) (x : X) (within : i < length items) (is : x ≡ get_or items i x)
    (so_far here made : Option Bool) where
  pub all-next : ((a b : Bool) → IsRight a so_far → IsRight b here → IsRight (a && b) made)
      → IsSettled state (λ s. list_all (λ y. asks y s) (take i items)) so_far → IsSettled state (asks x) here
      → IsSettled state (λ s. list_all (λ y. asks y s) (take (i + 1) items)) made
  all-next both known next s witness =
      subst (λ b. IsRight b made) (ap (λ y. list_all (λ z. asks z s) (take i items) && asks y s) is ∙ sym (list_all_more (λ y. asks y s) items i x within))
      (both (list_all (λ y. asks y s) (take i items)) (asks x s) (known s witness) (next s witness))

  pub any-next : ((a b : Bool) → IsRight a so_far → IsRight b here → IsRight (a || b) made)
      → IsSettled state (λ s. list_any (λ y. asks y s) (take i items)) so_far → IsSettled state (asks x) here
      → IsSettled state (λ s. list_any (λ y. asks y s) (take (i + 1) items)) made
  any-next either known next s witness =
      subst (λ b. IsRight b made) (ap (λ y. list_any (λ z. asks z s) (take i items) || asks y s) is ∙ sym (list_any_more (λ y. asks y s) items i x within))
      (either (list_any (λ y. asks y s) (take i items)) (asks x s) (known s witness) (next s witness))

-- ---- one rule more

pub any-pushed : {X : Type 0} (test : X → Bool) (xs new : List X) (x : X) → new ≡ xs ++ x ∷ [] → list_any test new ≡ (list_any test xs || test x)
any-pushed test xs new x is = ap (list_any test) is ∙ list_any-append test xs (x ∷ []) ∙ ap (λ b. list_any test xs || b) (or-false (test x))

module _ (namespace : List ℕ) (s : Stranger) (spot : PortSpot) (settled : Bool) (items : List OpenRule) (i : ℕ) (x : OpenRule) (within : i < length items) (is : x ≡ get_or items i x) where
  with_next : ((settled || list_any (rule_matches namespace s spot) (take i items)) || rule_matches namespace s spot x)
      ≡ (settled || list_any (rule_matches namespace s spot) (take (i + 1) items))
  with_next =
      or_assoc settled (list_any (rule_matches namespace s spot) (take i items)) (rule_matches namespace s spot x)
      ∙ ap (λ b. settled || b)
      (ap (λ y. list_any (rule_matches namespace s spot) (take i items) || rule_matches namespace s spot y) is ∙ sym (list_any_more (rule_matches namespace s spot) items i x within))

  module _ (state : List Choices) (answer : Option Bool) (witness : IsWitness state s)
      (known : IsSettled state (λ s. kept_reaches namespace (pod (stranger_end s)) x.kept.now) answer) (sets opens : Bool)
      (so_far : (sets || opens) ≡ (settled || list_any (rule_matches namespace s spot) (take i items))) where
    answered : (b : Bool) → answer ≡ Some b → rule_matches namespace s spot x ≡ (b && has_spot x.kept.now.conns spot)
    answered b said =
        let right : b ≡ kept_reaches namespace (pod (stranger_end s)) x.kept.now =
        subst (λ (told : Option Bool). IsRight (kept_reaches namespace (pod (stranger_end s)) x.kept.now) told) said (known s witness) in
        ap (λ reach. reach && has_spot x.kept.now.conns spot) (sym right)

    -- a rule that matches all is among the settled ones
    pub met-next : (now : Bool) → answer ≡ Some true → now ≡ (sets || has_spot x.kept.now.conns spot)
        → (now || opens) ≡ (settled || list_any (rule_matches namespace s spot) (take (i + 1) items))
    met-next now said is_now =
        ap (λ b. b || opens) is_now ∙ or-last sets (has_spot x.kept.now.conns spot) opens
        ∙ ap (λ b. (sets || opens) || b) (sym (answered true said)) ∙ ap (λ b. b || rule_matches namespace s spot x) so_far ∙ with_next

    -- one that matches none is gone
    pub missed-next : answer ≡ Some false → (sets || opens) ≡ (settled || list_any (rule_matches namespace s spot) (take (i + 1) items))
    missed-next said =
        sym (or-false (sets || opens)) ∙ ap (λ b. (sets || opens) || b) (sym (answered false said)) ∙ ap (λ b. b || rule_matches namespace s spot x) so_far ∙ with_next

    -- any other stays
    pub open-next : (now : Bool) → now ≡ (opens || rule_matches namespace s spot x) → (sets || now) ≡ (settled || list_any (rule_matches namespace s spot) (take (i + 1) items))
    open-next now is_now =
        ap (λ b. sets || b) is_now ∙ sym (or_assoc sets opens (rule_matches namespace s spot x)) ∙ ap (λ b. b || rule_matches namespace s spot x) so_far ∙ with_next

-- all rules
pub all-rules : (namespace : List ℕ) (s : Stranger) (spot : PortSpot) (rules : OpenRules) (items : List OpenRule) (i : ℕ) (made : Bool) → items ≡ rules.open.items → length items ≤ i
    → made ≡ (has_spot rules.settled spot || list_any (rule_matches namespace s spot) (take i items)) → made ≡ permits namespace rules s spot
all-rules namespace s spot rules items i made same within is =
    is ∙ ap (λ (all : List OpenRule). has_spot rules.settled spot || list_any (rule_matches namespace s spot) all) (take_all i items within ∙ same)

-- ---- fewer choices

among-unfiltered : {X : Type 0} (test : X → Bool) (x : X) (xs : List X) → IsAmong x (filter test xs) → IsAmong x xs
among-unfiltered test x [] among = among
among-unfiltered {X} test x (y ∷ xs) among = by (test y) (among-unfiltered test x xs) among
  where
    by : (b : Bool) → (IsAmong x (filter test xs) → IsAmong x xs) → IsAmong x (if b then y ∷ filter test xs else filter test xs) → (x ≡ y) ⊎ IsAmong x xs
    by true behind (inl same) = inl same
    by true behind (inr rest) = inr (behind rest)
    by false behind rest = inr (behind rest)

chosen-wider : (wanted : Bool) (asked : SidedRequirement) (s : Stranger) (state : List Choices) → AllByRecursion (IsChosen s) (narrowed wanted asked state) → AllByRecursion (IsChosen s) state
chosen-wider wanted asked s [] chosen = tt
chosen-wider wanted asked s (choices ∷ state) chosen =
    (among-unfiltered (suits wanted asked choices) (value_of (labels_at choices.side s) choices.key) choices.found chosen.0, chosen-wider wanted asked s state chosen.1)

-- rules that stand for those of all witnesses stand for those of the witnesses of fewer choices
stand-narrowed : (side : PodSide) (rules : OpenRules) (wanted : Bool) (asked : SidedRequirement) (state next : List Choices) → next ≡ narrowed wanted asked state
    → StandForAll side state rules → StandForAll side next rules
stand-narrowed side rules wanted asked state next is stand s witness =
    let fewer : IsWitness (narrowed wanted asked state) s = subst (λ (choices : List Choices). IsWitness choices s) is witness in
    stand s (record { named = fewer.named; chosen = chosen-wider wanted asked s state fewer.chosen })

stand-next : (side : PodSide) (rules : OpenRules) (asked : SidedRequirement) (state next : List Choices) (aside : Option Aside) → IsStepTo asked state next aside
    → StandForAll side state rules → StandForAll side next rules
stand-next side rules asked state next None step stand = stand-narrowed side rules step.0 asked state next step.3 stand
stand-next side rules asked state next (Some put) step stand = stand-narrowed side rules (not put.wanted) asked state next step.3 stand

stand-aside : (side : PodSide) (rules : OpenRules) (asked : SidedRequirement) (state next : List Choices) (aside : Option Aside) (put : Aside) → aside ≡ Some put
    → IsStepTo asked state next aside → StandForAll side state rules → StandForAll side put.case.state.items rules
stand-aside side rules asked state next aside put some step stand =
    let forked = subst (IsStepTo asked state next) some step in
    stand-narrowed side rules put.wanted asked state put.case.state.items forked.2 stand

-- so do rules that permit the witnesses the same
stand-same : (side : PodSide) (rules : OpenRules) (case : Case) (namespace : List ℕ) → namespace ≡ (near_pod side).namespace → PermitSame namespace rules case
    → StandForAll side case.state.items rules → StandForAll side case.state.items case.net
stand-same side rules case namespace named same stand s witness spot within =
    ap (λ (name : List ℕ). permits name case.net s spot) (sym named)
    ∙ same s witness spot
    ∙ ap (λ (name : List ℕ). permits name rules s spot) named
    ∙ stand s witness spot within

-- what is left behind a requirement stands for what stood before
pub case-stands : (side : PodSide) (asked : SidedRequirement) (case next : Case) (aside : Option Aside) (namespace : List ℕ) → namespace ≡ (near_pod side).namespace
    → IsStepTo asked case.state.items next.state.items aside → PermitSame namespace case.net next → StandForAll side case.state.items case.net
    → StandForAll side next.state.items next.net
case-stands side asked case next aside namespace named step same stand =
    stand-same side case.net next namespace named same (stand-next side case.net asked case.state.items next.state.items aside step stand)

pub aside-stands : (side : PodSide) (asked : SidedRequirement) (case next : Case) (aside : Option Aside) (put : Aside) (namespace : List ℕ) → aside ≡ Some put
    → namespace ≡ (near_pod side).namespace → IsStepTo asked case.state.items next.state.items aside → IfSome aside (λ one. PermitSame namespace case.net one.case)
    → StandForAll side case.state.items case.net → StandForAll side put.case.state.items put.case.net
aside-stands side asked case next aside put namespace some named step same stand =
    stand-same side case.net put.case namespace named (subst (λ (one : Option Aside). IfSome one (λ one. PermitSame namespace case.net one.case)) some same)
    (stand-aside side case.net asked case.state.items next.state.items aside put some step stand)
