-- Steps of the search: what was known stays known. For `SameKinds::left`, `is_same_before` and 9 more.
use Rattle.std.proofs.Common.{◌≡◌, ℕ, ◌+◌, ◌<◌, ◌≤◌, List, Bool, true, false, below_more, length, get_or, slice_get, Some, sym, ◌∙◌, arith}
use Rattle.std.proofs.lemmas.Option.{get_or_from_slice_get, slice_get-get_or, slice_get_within}
use Rattle.np_unused.specs.Prelude.{AllEnds, AreRulesOf, Direction, EstateLists, Family, Grows, IsSound, KindPod, Knows, KnowsAll, KnowsBefore, KnowsFar, KnowsKind, KnowsLeft, KnowsPods, KnowsSide, LayerRules, Left, OneKind, Searched, Tier, UsedRules, all_known, is_known}
use Rattle.np_conns.specs.Prelude.{is_spot}
use Rattle.np_model.specs.Prelude.{IsLawful}
use Rattle.np_unused.proofs.SearchLemmas.{knows_side}
use Rattle.np_rules.specs.Prelude.{Contact, PodSide, is_address_spot, side_of, with_addresses, with_pod}

-- ---- one step after another

-- what is known of each place so far
abbrev pub Below : (ℕ → UsedRules → Type 0) → ℕ → UsedRules → Type 0
Below Found count used = (k : ℕ) → k < count → Found k used

module _ (lists : EstateLists) (direction : Direction) where
  pub not_searched : (Found : UsedRules → Type 0) (used : UsedRules) → Found used → Searched lists direction Found used used
  not_searched Found used finds = record { grows = λ tier policy place known. known; sound = λ sound. sound; finds = finds }

  pub searched_as : (First Found : UsedRules → Type 0) (old new : UsedRules) → (First new → Found new) → Searched lists direction First old new → Searched lists direction Found old new
  searched_as First Found old new gives searched = record { grows = searched.grows; sound = searched.sound; finds = gives searched.finds }

  pub searched_both : (First Second Found : UsedRules → Type 0) (old middle new : UsedRules) → (Grows middle new → First middle → Second new → Found new) →
      Searched lists direction First old middle → Searched lists direction Second middle new → Searched lists direction Found old new
  searched_both First Second Found old middle new gives one other = record {
    grows = λ tier policy place known. other.grows tier policy place (one.grows tier policy place known);
    sound = λ sound. other.sound (one.sound sound);
    finds = gives other.grows one.finds other.finds;
  }

  pub none_searched : (Found : ℕ → UsedRules → Type 0) (used : UsedRules) → Searched lists direction (Below Found 0) used used
  none_searched Found used = not_searched (Below Found 0) used (λ k low. absurd (omega arith))

  pub more_searched : (Found : ℕ → UsedRules → Type 0) → ((k : ℕ) (a b : UsedRules) → Grows a b → Found k a → Found k b) → (count : ℕ) (old middle new : UsedRules) →
      Searched lists direction (Below Found count) old middle → Searched lists direction (Found count) middle new → Searched lists direction (Below Found (count + 1)) old new
  more_searched Found stays count old middle new one other =
      searched_both (Below Found count) (Found count) (Below Found (count + 1)) old middle new
      (λ grows before here. below_more (λ k. Found k new) count (λ k low. stays k middle new grows (before k low)) here)
      one other

-- ---- what is known grows

pub knows_all_grows : {Spot : Type 0} (in_space : Spot → Bool) (side : PodSide) (looks_at : PodSide → Spot → Contact) (old new : UsedRules) → Grows old new → KnowsAll in_space side looks_at old →
    KnowsAll in_space side looks_at new
unfolding Knows
knows_all_grows in_space side looks_at old new grows knows spot inside tier policy place valid stands = grows tier policy place (knows spot inside tier policy place valid stands)

pub knows_far_grows : (side : PodSide) (kinds : List KindPod) (near : ℕ) (family : Family) (kind : ℕ) (old new : UsedRules) → Grows old new → KnowsFar side kinds near family kind old →
    KnowsFar side kinds near family kind new
knows_far_grows side kinds near family kind old new grows knows far at asked = knows_all_grows is_spot side (with_pod far.pod family) old new grows (knows far at asked)

pub knows_pods_grows : (side : PodSide) (kinds : List KindPod) (near : ℕ) (family : Family) (old new : UsedRules) → Grows old new → KnowsPods side kinds near family old →
    KnowsPods side kinds near family new
unfolding KnowsPods
knows_pods_grows side kinds near family old new grows knows kind = knows_far_grows side kinds near family kind old new grows (knows kind)

pub knows_kind_grows : (lists : EstateLists) (direction : Direction) (kinds : List KindPod) (near : ℕ) (old new : UsedRules) → Grows old new → KnowsKind lists direction kinds near old →
    KnowsKind lists direction kinds near new
knows_kind_grows lists direction kinds near old new grows knows one at =
    let side = side_of lists one.pod direction in record {
      addresses = knows_all_grows is_address_spot side with_addresses old new grows (knows one at).addresses;
      pods = λ family of_family. knows_pods_grows side kinds near family old new grows ((knows one at).pods family of_family);
    }

pub knows_before_grows : (lists : EstateLists) (direction : Direction) (kinds : List KindPod) (near : ℕ) (old new : UsedRules) → Grows old new → KnowsBefore lists direction kinds near old →
    KnowsBefore lists direction kinds near new
knows_before_grows lists direction kinds near old new grows before kind low = knows_kind_grows lists direction kinds kind old new grows (before kind low)

-- ---- where all rules of a side are known

module _ (side : PodSide) (lawful : IsLawful side.lists) (rules : LayerRules) (are : AreRulesOf side rules) (kinds : List KindPod) (near : ℕ) (used : UsedRules) (answer : Bool)
    (is : answer ≡ all_known used rules) (all : answer ≡ true) where
  pub all_pods_known : (family : Family) → KnowsPods side kinds near family used
  unfolding KnowsPods
  all_pods_known family kind far at asked spot inside = knows_side side lawful rules are used (sym is ∙ all) (with_pod far.pod family side spot)

  all_known_of : KnowsSide side kinds near used
  all_known_of = record {
    addresses = λ place inside. knows_side side lawful rules are used (sym is ∙ all) (with_addresses side place);
    pods = λ family of_family. all_pods_known family;
  }

  pub all_left_known : (left : Left) → KnowsLeft side kinds near left used
  all_left_known AllEnds = all_known_of
  all_left_known (OneKind kind) = λ family of_family far at asked spot inside. knows_side side lawful rules are used (sym is ∙ all) (with_pod far.pod family side spot)

-- ---- lists that were gone through

-- what is known of a kind, by its number
pub all_kinds : (side : PodSide) (kinds : List KindPod) (near : ℕ) (family : Family) (used : UsedRules) (count : ℕ) → length kinds ≤ count → Below (KnowsFar side kinds near family) count used →
    KnowsPods side kinds near family used
unfolding KnowsPods
all_kinds side kinds near family used count all known kind far at asked = known kind (omega (arith, slice_get_within kinds kind far at)) far at asked

-- what is known of one kind in a family, by the family's place in a list
abbrev pub KnowsOneIn : PodSide → List KindPod → ℕ → ℕ → List Family → ℕ → UsedRules → Type 0
KnowsOneIn side kinds near kind families k used = (family : Family) → slice_get families k ≡ Some family → KnowsFar side kinds near family kind used

-- what is known of a family, by its place in a list
abbrev pub KnowsFamily : PodSide → List KindPod → ℕ → List Family → ℕ → UsedRules → Type 0
KnowsFamily side kinds near families k used = (family : Family) → slice_get families k ≡ Some family → KnowsPods side kinds near family used

-- at first nothing is known
pub nothing_sound : (lists : EstateLists) (direction : Direction) (used : UsedRules) → ((tier : Tier) (policy place : ℕ) → is_known used tier policy place ≡ false) → IsSound lists direction used
unfolding IsSound
nothing_sound lists direction used none tier policy place valid known = cc (none tier policy place, known)

-- ---- the pod that stands for a kind

abbrev pub pod_of_kind : List KindPod → ℕ → KindPod
pod_of_kind kinds kind = get_or kinds kind (record { pod = 0; is_shared = false })

pub kind_at : (kinds : List KindPod) (kind : ℕ) → kind < length kinds → slice_get kinds kind ≡ Some (pod_of_kind kinds kind)
kind_at kinds kind within = slice_get-get_or kinds kind _ within

pub kind_is : (kinds : List KindPod) (kind : ℕ) (one : KindPod) → slice_get kinds kind ≡ Some one → pod_of_kind kinds kind ≡ one
kind_is kinds kind one at = get_or_from_slice_get kinds kind one _ at
