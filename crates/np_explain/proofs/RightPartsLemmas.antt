-- The parts that are made from what decides each spot are right. For `explain` and `right_parts_are_these`.
use Rattle.std.proofs.Common.{◌≡◌, ◌≢◌, ◌↔◌, zero, suc, ◌<◌, List, [], ◌∷◌, Bool, true, false, not, IsTrue, get_or, map, filter, All, AllPairs, refl, sym, ap, ◌∙◌, arith, if◌then◌else◌}
use Rattle.std.proofs.lemmas.Bool.{or_left, or_right}
use Rattle.std.proofs.lemmas.Bool.Decides.{Decides-not}
use Rattle.std.proofs.lemmas.List.Elements.{All-cons, All-contains, All-filter, All-map, All-nil, All-weaker, filter_passes}
use Rattle.std.proofs.lemmas.List.Kept.{AllPairs-cons, AllPairs-filter}
use Rattle.std.specs.List.{Contains, list_any}
use Rattle.np_base.proofs.Lists.{AllPairs-head, AllPairs-tail, Contains-later}
use Rattle.np_addr.proofs.Pairs.{AllPairs-nil}
use Rattle.np_conns.specs.Prelude.{IsConns, has_spot, has_spot-is_spot, is_spot}
use Rattle.np_explain.specs.Prelude.{AreRightParts, Decider, Part, PortSpot, StartsBefore, all_spots, each_decider_once, part_of, parts_of, same_decider, spot_number}
use Rattle.np_conns.proofs.ConnLemmas.{conns_of-has, conns_of-well}
use Rattle.np_explain.proofs.OneListLemmas.{one_is_right}
use Rattle.np_explain.proofs.PartLemmas.{AllPairs-map}
use Rattle.np_explain.proofs.SameDecider.{same_decider-Decides}
use Rattle.np_explain.proofs.SpotLemmas.{IsBefore, all_spots-are_spots, all_spots-ascend, all_spots-has}

-- ---- lists

Contains-filter : {X : Type 0} (test : X → Bool) (x : X) (xs : List X) → Contains xs x → test x ≡ true → Contains (filter test xs) x
Contains-filter test x [] (k, within, is) passes = absurd (omega arith)
Contains-filter test x (y ∷ ys) (zero, within, is) passes = rw (ap test is ∙ passes) (zero, omega arith, is)
Contains-filter {X} test x (y ∷ ys) (suc k, within, is) passes = go (test y) (Contains-filter test x ys (k, omega arith, is) passes)
  where
    go : (b : Bool) → Contains (filter test ys) x → Contains (if b then y ∷ filter test ys else filter test ys) x
    go true later = Contains-later x y (filter test ys) later
    go false later = later

-- a test that passes at an image of an item passes at some image
list_any-map : {X Y : Type 0} (test : Y → Bool) (f : X → Y) (x : X) (xs : List X) → Contains xs x → test (f x) ≡ true → list_any test (map f xs) ≡ true
list_any-map test f x [] (k, within, is) passes = absurd (omega arith)
list_any-map test f x (y ∷ ys) (zero, within, is) passes = or_left _ _ (ap (λ z. test (f z)) is ∙ passes)
list_any-map test f x (y ∷ ys) (suc k, within, is) passes = or_right _ _ (list_any-map test f x ys (k, omega arith, is) passes)

-- ---- the deciders of some spots, each once

module _ (decides : PortSpot → Decider) where
  -- some spot that one decides comes before all that another decides
  record LeadsIn (spots : List PortSpot) (one other : Decider) : Type 0 where
    pub spot : PortSpot
    pub within : Contains spots spot
    pub is : decides spot ≡ one
    pub first : (later : PortSpot) → Contains spots later → decides later ≡ other → spot_number spot < spot_number later

  differs : (a b : Decider) → not (same_decider a b) ≡ true → a ≢ b
  differs a b = (Decides-not (same_decider a b) (same_decider-Decides a b)).0

  once_ordered : (spots : List PortSpot) → AllPairs IsBefore spots → AllPairs (LeadsIn spots) (each_decider_once (map decides spots))
  unfolding each_decider_once
  once_ordered [] ascend = AllPairs-nil (LeadsIn [])
  once_ordered (spot ∷ spots) ascend =
      AllPairs-cons (LeadsIn (spot ∷ spots)) (decides spot) (filter other_test others)
      (All-weaker (λ other. other_test other ≡ true) (LeadsIn (spot ∷ spots) (decides spot)) (λ other passes. leads other (differs (decides spot) other passes)) (filter other_test others)
      (filter_passes other_test others))
      (λ i j d earlier below. onto _ _ (AllPairs-filter (LeadsIn spots) other_test others (once_ordered spots (AllPairs-tail IsBefore spot spots ascend)) i j d earlier below)
      (differs (decides spot) _ (filter_passes other_test others j d below)))
    where
      others : List Decider
      others = each_decider_once (map decides spots)

      other_test : Decider → Bool
      other_test other = not (same_decider (decides spot) other)

      leads : (other : Decider) → decides spot ≢ other → LeadsIn (spot ∷ spots) (decides spot) other
      leads other apart = record {
        spot = spot;
        within = (zero, omega arith, refl);
        is = refl;
        first = first;
      }
        where
          first : (later : PortSpot) → Contains (spot ∷ spots) later → decides later ≡ other → spot_number spot < spot_number later
          first later (zero, within, is) same = absurd (apart (ap decides is ∙ same))
          first later (suc k, within, is) same = All-contains (λ s. spot_number spot < spot_number s) spots later (AllPairs-head IsBefore spot spots ascend) (k, omega arith, is)

      onto : (one other : Decider) → LeadsIn spots one other → decides spot ≢ other → LeadsIn (spot ∷ spots) one other
      onto one other lead apart = record {
        spot = lead.spot;
        within = Contains-later lead.spot spot spots lead.within;
        is = lead.is;
        first = first;
      }
        where
          first : (later : PortSpot) → Contains (spot ∷ spots) later → decides later ≡ other → spot_number lead.spot < spot_number later
          first later (zero, within, is) same = absurd (apart (ap decides is ∙ same))
          first later (suc k, within, is) same = lead.first later (k, omega arith, is) same

  -- what decides some spot of the list is among them
  once_has : (spots : List PortSpot) (spot : PortSpot) → Contains spots spot → Contains (each_decider_once (map decides spots)) (decides spot)
  unfolding each_decider_once
  once_has [] spot (k, within, is) = absurd (omega arith)
  once_has (next ∷ spots) spot (zero, within, is) = (zero, omega arith, ap decides is)
  once_has (next ∷ spots) spot (suc k, within, is) = go (same_decider (decides next) (decides spot)) refl (once_has spots spot (k, omega arith, is))
    where
      go : (b : Bool) → same_decider (decides next) (decides spot) ≡ b → Contains (each_decider_once (map decides spots)) (decides spot) →
          Contains (decides next ∷ filter (λ other. not (same_decider (decides next) other)) (each_decider_once (map decides spots))) (decides spot)
      go true same has = (zero, omega arith, (same_decider-Decides (decides next) (decides spot)).0 same)
      go false other has = Contains-later (decides spot) (decides next) _ (Contains-filter (λ d. not (same_decider (decides next) d)) (decides spot) (each_decider_once (map decides spots)) has (ap not other))

  -- and each of them decides some spot of the list
  once_decide : (spots : List PortSpot) → All (λ decider. (spot : PortSpot) × Contains spots spot × (decides spot ≡ decider)) (each_decider_once (map decides spots))
  unfolding each_decider_once
  once_decide [] = All-nil _
  once_decide (next ∷ spots) =
      All-cons (λ decider. (spot : PortSpot) × Contains (next ∷ spots) spot × (decides spot ≡ decider)) (decides next) _
      (next, (zero, omega arith, refl), refl)
      (All-filter _ (λ decider. (spot : PortSpot) × Contains (next ∷ spots) spot × (decides spot ≡ decider)) (each_decider_once (map decides spots))
      (All-weaker (λ decider. (spot : PortSpot) × Contains spots spot × (decides spot ≡ decider)) (λ decider. (spot : PortSpot) × Contains (next ∷ spots) spot × (decides spot ≡ decider))
      (λ decider found. (found.0, Contains-later found.0 next spots found.1, found.2)) (each_decider_once (map decides spots)) (once_decide spots)))

-- ---- the parts

module _ (decides : PortSpot → Decider) where
  -- a decider's part has exactly the spots that it decides
  part_spots : (decider : Decider) (spot : PortSpot) → is_spot spot ≡ true → IsTrue (has_spot (part_of decides decider).conns spot) ↔ (decides spot ≡ decider)
  part_spots decider spot inside =
      let has = conns_of-has (λ s. same_decider (decides s) decider) spot inside in
      let tells = same_decider-Decides (decides spot) decider in (
        λ is. tells.0 (sym has ∙ is),
        λ same. has ∙ tells.1 same,
      )

  part_well : (decider : Decider) → IsConns (part_of decides decider).conns
  part_well decider = conns_of-well (λ spot. same_decider (decides spot) decider)

  deciders : List Decider
  deciders = each_decider_once (map decides all_spots)

  starts : (one other : Decider) → LeadsIn decides all_spots one other → StartsBefore (part_of decides one).conns (part_of decides other).conns
  starts one other lead = record {
    spot = lead.spot;
    has = (part_spots one lead.spot (all_spots-are_spots lead.spot lead.within)).1 lead.is;
    first = λ later has.
        let inside = has_spot-is_spot (part_of decides other).conns later (part_well other) has in
        lead.first later (all_spots-has later inside) ((part_spots other later inside).0 has);
  }

  pub made_are_right : AreRightParts decides (parts_of decides)
  unfolding parts_of deciders
  made_are_right = record {
    spots = All-map (λ part. (spot : PortSpot) → is_spot spot ≡ true → IsTrue (has_spot part.conns spot) ↔ (decides spot ≡ part.decider)) (part_of decides) deciders
        (λ k d within. part_spots (get_or deciders k d));
    all = λ spot inside. list_any-map (λ part. has_spot part.conns spot) (part_of decides) (decides spot) deciders (once_has decides all_spots spot (all_spots-has spot inside))
        ((part_spots (decides spot) spot inside).1 refl);
    distinct = AllPairs-map (λ a b. a.decider ≢ b.decider) (part_of decides) deciders
        (λ i j d earlier below same.
        let lead = leads i j d earlier below in
        absurd (omega (arith, lead.first lead.spot lead.within (lead.is ∙ same))));
    filled = All-map (λ part. (spot : PortSpot) × (has_spot part.conns spot ≡ true)) (part_of decides) deciders
        (All-weaker (λ decider. (spot : PortSpot) × Contains all_spots spot × (decides spot ≡ decider)) (λ decider. (spot : PortSpot) × (has_spot (part_of decides decider).conns spot ≡ true))
        (λ decider found. (found.0, (part_spots decider found.0 (all_spots-are_spots found.0 found.1)).1 found.2)) deciders (once_decide decides all_spots));
    well = All-map (λ part. IsConns part.conns) (part_of decides) deciders (λ k d within. part_well (get_or deciders k d));
    ordered = AllPairs-map (λ a b. StartsBefore a.conns b.conns) (part_of decides) deciders (λ i j d earlier below. starts _ _ (leads i j d earlier below));
  }
    where
      leads : AllPairs (LeadsIn decides all_spots) deciders
      leads = once_ordered decides all_spots all_spots-ascend

  -- and no other list is
  pub right_is_made : (parts : List Part) → AreRightParts decides parts → parts ≡ parts_of decides
  right_is_made parts right = one_is_right decides parts (parts_of decides) right made_are_right
