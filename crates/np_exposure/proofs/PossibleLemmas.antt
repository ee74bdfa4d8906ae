-- The test of what is assumed tells whether some hypothetical pod meets it. For `possible_assumptions_are_told`.
use Rattle.std.proofs.Common.{◌≡◌, List, [], ◌∷◌, ◌++◌, map, Bool, true, false, refl, sym, ap, ◌∙◌, subst, inl, inr, ◌⊎◌}
use Rattle.std.specs.List.{AllByRecursion, list_all}
use Rattle.std.proofs.lemmas.Bool.{and_from}
use Rattle.np_base.proofs.Each.{All-weaker}
use Rattle.np_exposure.proofs.BeginLemmas.{Stands-first}
use Rattle.np_exposure.proofs.FirstLemmas.{IsState-first}
use Rattle.np_exposure.proofs.FirstStrangerLemmas.{IsWitness-first_stranger}
use Rattle.np_exposure.proofs.LeftLemmas.{all-left, left-narrowed}
use Rattle.np_exposure.proofs.ListLemmas.{All-from, list_any-at}
use Rattle.np_exposure.proofs.StandsLemmas.{HasLike, IsDecided, Stands, Stands-more, answered, witness-assumed}
use Rattle.np_exposure.proofs.StateLemmas.{apart-narrowed, named-narrowed}
use Rattle.np_exposure.specs.Prelude.{Choices, IsPossible, IsState, SidedRequirement, Stranger, can_be_assumed, choices_at_first, choices_left, first_stranger, has_choice, is_apart, is_named_at, is_open, narrowed, negated}
use Rattle.np_rules.specs.Prelude.{IsAmong}

-- ---- a requirement that is mentioned, or the negation of one

pub record IsAnswer (all : List SidedRequirement) (asked : SidedRequirement) : Type 0 where
  pub wanted : Bool
  pub of : SidedRequirement
  pub among : IsAmong of all
  pub is : asked ≡ answered wanted of

among-parts : {X : Type 0} (x : X) (xs ys : List X) → IsAmong x (xs ++ ys) → IsAmong x xs ⊎ IsAmong x ys
among-parts x [] ys among = inr among
among-parts x (y ∷ xs) ys (inl same) = inl (inl same)
among-parts {X} x (y ∷ xs) ys (inr among) = by (among-parts x xs ys among)
  where
    by : IsAmong x xs ⊎ IsAmong x ys → ((x ≡ y) ⊎ IsAmong x xs) ⊎ IsAmong x ys
    by (inl here) = inl (inr here)
    by (inr there) = inr there

among-negated : (asked : SidedRequirement) (all : List SidedRequirement) → IsAmong asked (map negated all) → (one : SidedRequirement) × IsAmong one all × (asked ≡ negated one)
among-negated asked [] among = absurd among
among-negated asked (one ∷ all) (inl same) = (one, inl refl, same)
among-negated asked (one ∷ all) (inr among) =
    let rest = among-negated asked all among in
    (rest.0, inr rest.1, rest.2)

IsAnswer-of : (all : List SidedRequirement) (asked : SidedRequirement) → IsAmong asked (all ++ map negated all) → IsAnswer all asked
IsAnswer-of all asked among = by (among-parts asked all (map negated all) among)
  where
    by : IsAmong asked all ⊎ IsAmong asked (map negated all) → IsAnswer all asked
    by (inl here) = record { wanted = true; of = asked; among = here; is = refl }
    by (inr there) =
        let one = among-negated asked all there in
        record { wanted = false; of = one.0; among = one.1; is = one.2 }

-- ---- the choices that are left

module _ (all : List SidedRequirement) where
  -- they are those of what is assumed, whatever of all is left to be asked
  record IsLeftBy (assumed : List SidedRequirement) : Type 0 where
    stands : Stands all all assumed (choices_left all assumed)
    apart : is_apart (choices_left all assumed) ≡ true
    named : list_all is_named_at (choices_left all assumed) ≡ true

  left-first : IsLeftBy []
  left-first =
      let first : choices_left all [] ≡ choices_at_first all = all-left (choices_at_first all) in
      let stands = Stands-first all in
      let is = IsState-first all in
      record {
        stands = subst (λ (state : List Choices). Stands all all [] state) (sym first) (record {
          complete = stands.complete;
          sound = stands.sound;
          covers = stands.covers;
          known = refl;
          within = All-from _ all (λ asked among. among);
          decided = All-from _ all (λ asked among. inl among);
        });
        apart = ap is_apart first ∙ is.apart;
        named = ap (λ (state : List Choices). list_all is_named_at state) first ∙ is.named;
      }

  -- one that was asked before may be asked again
  asked-again : (assumed : List SidedRequirement) (state : List Choices) (asked : SidedRequirement) → IsAmong asked all → Stands all all assumed state → Stands all (asked ∷ all) assumed state
  asked-again assumed state asked among stands = record {
    complete = stands.complete;
    sound = stands.sound;
    covers = stands.covers;
    known = stands.known;
    within = (among, stands.within);
    decided = All-weaker (λ one. IsAmong one all ⊎ IsDecided assumed one) (λ one. IsAmong one (asked ∷ all) ⊎ IsDecided assumed one) later all stands.decided;
  }
    where
      later : (one : SidedRequirement) → IsAmong one all ⊎ IsDecided assumed one → IsAmong one (asked ∷ all) ⊎ IsDecided assumed one
      later one (inl here) = inl (inr here)
      later one (inr decided) = inr decided

  left-more : (assumed : List SidedRequirement) (wanted : Bool) (asked : SidedRequirement) → IsAmong asked all → IsLeftBy assumed → IsLeftBy (answered wanted asked ∷ assumed)
  left-more assumed wanted asked among left =
      let more : choices_left all (answered wanted asked ∷ assumed) ≡ narrowed wanted asked (choices_left all assumed) = left-narrowed all assumed asked wanted in
      record {
        stands = subst (λ (state : List Choices). Stands all all (answered wanted asked ∷ assumed) state) (sym more)
            (Stands-more all all assumed (choices_left all assumed) wanted asked (asked-again assumed (choices_left all assumed) asked among left.stands));
        apart = ap is_apart more ∙ apart-narrowed wanted asked (choices_left all assumed) ∙ left.apart;
        named = ap (λ (state : List Choices). list_all is_named_at state) more ∙ named-narrowed wanted asked (choices_left all assumed) left.named;
      }

  IsLeftBy-all : (assumed : List SidedRequirement) → AllByRecursion (λ asked. IsAmong asked (all ++ map negated all)) assumed → IsLeftBy assumed
  IsLeftBy-all [] among = left-first
  IsLeftBy-all (asked ∷ assumed) among =
      let answer = IsAnswer-of all asked among.0 in
      subst (λ (one : SidedRequirement). IsLeftBy (one ∷ assumed)) (sym answer.is) (left-more assumed answer.wanted answer.of answer.among (IsLeftBy-all assumed among.1))

likes-open : (all : List SidedRequirement) (s : Stranger) (state : List Choices) → AllByRecursion (HasLike all s) state → is_open state ≡ true
likes-open all s [] likes = refl
likes-open all s (choices ∷ state) likes =
    and_from (has_choice choices) (is_open state) (list_any-at (λ found. true) likes.0.0 choices.found likes.0.1 refl) (likes-open all s state likes.1)

pub assumed-possible : (all assumed : List SidedRequirement) → AllByRecursion (λ asked. IsAmong asked (all ++ map negated all)) assumed →
    (can_be_assumed all assumed ≡ true → IsPossible assumed) × (IsPossible assumed → can_be_assumed all assumed ≡ true)
assumed-possible all assumed among =
    let left = IsLeftBy-all all assumed among in
    let state = choices_left all assumed in (
      λ can.
          let is : IsState state = record { «open» = can; apart = left.apart; named = left.named } in
          (first_stranger state, witness-assumed all all assumed state (first_stranger state) left.stands (IsWitness-first_stranger state is)),
      λ possible. likes-open all possible.0 state (left.stands.complete possible.0 possible.1),
    )
