-- The first rules of lists, and of their halves. For `handed_down`, `parts_with_spots` and `rules_with_spots`.
use Rattle.std.proofs.Common.{◌≡◌, ◌⊎◌, ℕ, zero, suc, ◌+◌, ◌<◌, List, [], ◌∷◌, ◌++◌, Bool, true, false, ◌&&◌, ◌||◌, not, Option, Some, None, is_some, length, get_or, take, refl, sym, ap, ◌∙◌, inl, inr, if◌then◌else◌, add-one, arith, find}
use Rattle.std.specs.List.{list_any, position_from, slice_get}
use Rattle.std.specs.Option.{option_and_then, option_map, option_map_or, option_or}
use Rattle.np_unused.specs.Prelude.{Action, AdminPart, Allow, Deny, Pass, RuleId, RuleSpots, first_at, first_rule, hands_down, is_pass}
use Rattle.np_tiers.specs.Prelude.{admin_allows}
use Rattle.np_model.specs.Prelude.{action_says}

-- ---- two lists

or_choice : (b : Bool) (id : RuleId) (first second : Option RuleId) → (if b then Some id else option_or first second) ≡ option_or (if b then Some id else first) second
or_choice true id first second = refl
or_choice false id first second = refl

pub first_rule-append : {S : Type 0} (at : S → Bool) (front back : List (RuleSpots S)) → first_rule at (front ++ back) ≡ option_or (first_rule at front) (first_rule at back)
first_rule-append at [] back = refl
first_rule-append at (one ∷ front) back =
    ap (λ (later : Option RuleId). if at one.set.now then Some one.rule else later) (first_rule-append at front back) ∙ or_choice (at one.set.now) one.rule (first_rule at front) (first_rule at back)

-- some set has the spot where there is a first one
pub any-first_rule : {S : Type 0} (at : S → Bool) (rules : List (RuleSpots S)) → list_any (λ rule. at rule.set.now) rules ≡ is_some (first_rule at rules)
any-first_rule at [] = refl
any-first_rule {S} at (one ∷ rules) = by (at one.set.now) (any-first_rule at rules)
  where
    by : (b : Bool) → list_any (λ (rule : RuleSpots S). at rule.set.now) rules ≡ is_some (first_rule at rules) →
        (b || list_any (λ (rule : RuleSpots S). at rule.set.now) rules) ≡ is_some (if b then Some one.rule else first_rule at rules)
    by true later = refl
    by false later = later

-- ---- one part more

nothing_named : (has : Bool) (named : Option RuleId) → named ≡ None → None ≡ (if has then named else None)
nothing_named true named is = sym is
nothing_named false named is = refl

pub first_at-more : {P : Type 0} (at : P → Bool) (parts : List P) (ids : List RuleId) (i : ℕ) (d : P) → i < length parts →
    first_at at (take (suc i) parts) ids ≡ option_or (first_at at (take i parts) ids) (if at (get_or parts i d) then slice_get ids i else None)
first_at-more at [] ids i d within = absurd (omega arith)
first_at-more at (part ∷ parts) [] zero d within = nothing_named (at part) (slice_get [] zero) refl
first_at-more at (part ∷ parts) [] (suc i) d within = nothing_named (at (get_or parts i d)) (slice_get [] (suc i)) refl
first_at-more at (part ∷ parts) (id ∷ ids) zero d within = refl
first_at-more at (part ∷ parts) (id ∷ ids) (suc i) d within =
    ap (λ (later : Option RuleId). if at part then Some id else later) (first_at-more at parts ids i d (omega arith)) ∙ or_choice (at part) id (first_at at (take i parts) ids) _

or_nothing : (first second : Option RuleId) → second ≡ None → first ≡ option_or first second
or_nothing None second is = sym is
or_nothing (Some id) second is = refl

module _ {S P : Type 0} (at : S → Bool) (set_of : P → S) (parts : List P) (ids : List RuleId) (i : ℕ) (part : P) (within : i < length parts) (is : part ≡ get_or parts i part)
    (so_far : List (RuleSpots S)) (before : first_rule at so_far ≡ first_at (λ p. at (set_of p)) (take i parts) ids) where
  more : first_at (λ p. at (set_of p)) (take (i + 1) parts) ids ≡ option_or (first_at (λ p. at (set_of p)) (take i parts) ids) (if at (set_of part) then slice_get ids i else None)
  more =
      ap (λ (n : ℕ). first_at (λ p. at (set_of p)) (take n parts) ids) (add-one i) ∙ first_at-more (λ p. at (set_of p)) parts ids i part within
      ∙ ap (λ (p : P). option_or (first_at (λ q. at (set_of q)) (take i parts) ids) (if at (set_of p) then slice_get ids i else None)) (sym is)

  pub part_pushed : (one : RuleSpots S) (made : List (RuleSpots S)) → slice_get ids i ≡ Some one.rule → one.set.now ≡ set_of part → made ≡ so_far ++ one ∷ [] →
      first_rule at made ≡ first_at (λ p. at (set_of p)) (take (i + 1) parts) ids
  part_pushed one made named of pushed =
      ap (first_rule at) pushed ∙ first_rule-append at so_far (one ∷ [])
      ∙ ap (λ (first : Option RuleId). option_or first (if at one.set.now then Some one.rule else None)) before
      ∙ ap (λ (set : S). option_or (first_at (λ p. at (set_of p)) (take i parts) ids) (if at set then Some one.rule else None)) of
      ∙ ap (λ (name : Option RuleId). option_or (first_at (λ p. at (set_of p)) (take i parts) ids) (if at (set_of part) then name else None)) (sym named)
      ∙ sym more

  -- a part that is passed over has no name, or not the spot
  pub part_passed : slice_get ids i ≡ None ⊎ at (set_of part) ≡ false → first_rule at so_far ≡ first_at (λ p. at (set_of p)) (take (i + 1) parts) ids
  part_passed why = before ∙ or_nothing _ _ (by why) ∙ sym more
    where
      by : slice_get ids i ≡ None ⊎ at (set_of part) ≡ false → (if at (set_of part) then slice_get ids i else None) ≡ None
      by (inl unnamed) = rw unnamed (sym (nothing_named (at (set_of part)) None refl))
      by (inr lacks) = rw lacks refl

-- ---- the first part by its place

shifted : {P : Type 0} (at : P → Bool) (k : ℕ) (parts : List P) → position_from at (k + 1) parts ≡ option_map suc (position_from at k parts)
shifted at k [] = refl
shifted at k (part ∷ parts) = ap (λ (later : Option ℕ). if at part then Some (k + 1) else later) (shifted at (k + 1) parts) ∙ by (at part)
  where
    by : (b : Bool) → (if b then Some (k + 1) else option_map suc (position_from at (k + 1) parts)) ≡ option_map suc (if b then Some k else position_from at (k + 1) parts)
    by true = ap Some (add-one k)
    by false = refl

none_at : (ids : List RuleId) → ids ≡ [] → (found : Option ℕ) → option_and_then (slice_get ids) found ≡ None
none_at ids is None = refl
none_at ids is (Some place) = rw is refl

pub first_at-position : {P : Type 0} (at : P → Bool) (parts : List P) (ids : List RuleId) → option_and_then (slice_get ids) (position_from at 0 parts) ≡ first_at at parts ids
first_at-position at [] ids = refl
first_at-position at (part ∷ parts) [] = none_at [] refl (position_from at 0 (part ∷ parts))
first_at-position {P} at (part ∷ parts) (id ∷ ids) =
    ap (λ (later : Option ℕ). option_and_then (slice_get (id ∷ ids)) (if at part then Some 0 else later)) (shifted at 0 parts) ∙ by (at part) (position_from at 0 parts)
    (first_at-position at parts ids)
  where
    by : (b : Bool) (found : Option ℕ) → option_and_then (slice_get ids) found ≡ first_at at parts ids →
        option_and_then (slice_get (id ∷ ids)) (if b then Some 0 else option_map suc found) ≡ (if b then Some id else first_at at parts ids)
    by true found is = refl
    by false None is = is
    by false (Some place) is = is

-- ---- admin parts

-- a part that has not the spot changes nothing
pub hands_down-without : {S : Type 0} (at : S → Bool) (front : List (AdminPart S)) (part : AdminPart S) (back : List (AdminPart S)) → at part.set ≡ false →
    hands_down at (front ++ part ∷ back) ≡ hands_down at (front ++ back)
hands_down-without at [] part back lacks = rw lacks refl
hands_down-without {S} at (first ∷ front) part back lacks = by (at first.set) (hands_down-without at front part back lacks)
  where
    by : (b : Bool) → hands_down at (front ++ part ∷ back) ≡ hands_down at (front ++ back) →
        option_map_or (λ (p : AdminPart S). is_pass p.action) (if b then Some first else find (λ (p : AdminPart S). at p.set) (front ++ part ∷ back)) true ≡ option_map_or
        (λ (p : AdminPart S). is_pass p.action) (if b then Some first else find (λ (p : AdminPart S). at p.set) (front ++ back)) true
    by true later = refl
    by false later = later

-- what is allowed over tiers that allow everything, but not over tiers that allow nothing
pub hands_down-between : {S : Type 0} (at : S → Bool) (parts : List (AdminPart S)) (over under made : Bool) → over ≡ admin_allows (find (λ part. at part.set) parts) true →
    under ≡ admin_allows (find (λ part. at part.set) parts) false → made ≡ (over && not under) → made ≡ hands_down at parts
hands_down-between {S} at parts over under made is_over is_under is = is ∙ rw (is_over, is_under) (by (find (λ part. at part.set) parts))
  where
    acts : (action : Action) → (action_says action true && not (action_says action false)) ≡ is_pass action
    acts Allow = refl
    acts Deny = refl
    acts Pass = refl

    by : (found : Option (AdminPart S)) → (admin_allows found true && not (admin_allows found false)) ≡ option_map_or (λ (part : AdminPart S). is_pass part.action) found true
    by None = refl
    by (Some part) = acts part.action
