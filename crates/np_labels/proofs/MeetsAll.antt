-- Requirements met by labels, and requirements that allow what is found at each key. For `demands_of` and `possible`.
use Rattle.std.proofs.Common.{◌≡◌, ℕ, ◌+◌, ◌<◌, List, [], ◌∷◌, length, take, get_or, Bool, true, false, not, cond, ◌&&◌, ◌||◌, Option, Some, None, MatchOption, IfSome, IfNone, refl, sym, subst, ◌∙◌}
use Rattle.std.specs.Ordering.{nat_cmp, is_eq}
use Rattle.std.specs.Cmp.{first_so, second_so}
use Rattle.std.specs.Cmp.Lexicographic.{slice_cmp, bytes_decides, nat_list_eq_equiv}
use Rattle.std.specs.List.{list_all}
use Rattle.std.specs.Str.{bytes_eq}
use Rattle.std.proofs.lemmas.List.Folds.{list_all_more}
use Rattle.std.proofs.Math.Bool.{and-true}
use Rattle.std.proofs.lemmas.Bool.{and_from}
use Rattle.std.proofs.lemmas.Map.Text.{is_eq-slice_cmp}
use Rattle.np_labels.specs.Prelude.{Demand, Pair, Requirement, admits, admits_unless_free, allowed_at, meets_requirement, op_allows, value_of}

-- whether labels meet all requirements
abbrev pub meets_all : List Requirement → List Pair → Bool
meets_all requirements labels = list_all (λ requirement. meets_requirement requirement labels) requirements

allows_here : (requirement : Requirement) (labels : List Pair) (key : List ℕ) → meets_requirement requirement labels ≡ true →
    (not (bytes_eq requirement.key key) || op_allows requirement.op requirement.values (value_of labels key)) ≡ true
allows_here requirement labels key met = by (bytes_eq requirement.key key) refl
  where
    by : (b : Bool) → bytes_eq requirement.key key ≡ b → (not b || op_allows requirement.op requirement.values (value_of labels key)) ≡ true
    by false is = refl
    by true is = subst (λ (k : List ℕ). op_allows requirement.op requirement.values (value_of labels k) ≡ true) ((bytes_decides requirement.key key).0 is) met

-- labels that meet all requirements have at each key what the requirements on it allow
pub allowed_from_met : (requirements : List Requirement) (labels : List Pair) → meets_all requirements labels ≡ true → (key : List ℕ) → allowed_at requirements key (value_of labels key) ≡ true
allowed_from_met [] labels met key = refl
allowed_from_met (requirement ∷ requirements) labels met key =
    and_from _ _ (allows_here requirement labels key (first_so _ _ met)) (allowed_from_met requirements labels (second_so _ _ met) key)

here : (requirement : Requirement) (labels : List Pair) → (not (bytes_eq requirement.key requirement.key) || op_allows requirement.op requirement.values (value_of labels requirement.key)) ≡ true →
    meets_requirement requirement labels ≡ true
here requirement labels allowed = rw (nat_list_eq_equiv.refl requirement.key) at allowed

-- and the other way round
pub met_from_allowed : (requirements : List Requirement) (labels : List Pair) → ((key : List ℕ) → allowed_at requirements key (value_of labels key) ≡ true) → meets_all requirements labels ≡ true
met_from_allowed [] labels allowed = refl
met_from_allowed (requirement ∷ requirements) labels allowed =
    and_from _ _ (here requirement labels (first_so _ _ (allowed requirement.key))) (met_from_allowed requirements labels (λ key. second_so _ _ (allowed key)))

-- where nothing at some key is allowed, no labels meet all requirements
pub unmet_from_clash : (requirements : List Requirement) (key : List ℕ) → ((found : Option (List ℕ)) → allowed_at requirements key found ≡ false) → (labels : List Pair) →
    meets_all requirements labels ≡ false
unmet_from_clash requirements key clash labels = by (meets_all requirements labels) refl
  where
    by : (b : Bool) → meets_all requirements labels ≡ b → b ≡ false
    by false is = refl
    by true is = let here = sym (allowed_from_met requirements labels is key) ∙ clash (value_of labels key) in cc

-- one more requirement
allowed_at-more : (all : List Requirement) (i : ℕ) (item : Requirement) → i < length all → item ≡ get_or all i item → (key : List ℕ) (found : Option (List ℕ)) →
    allowed_at (take (i + 1) all) key found ≡ (allowed_at (take i all) key found && (not (bytes_eq item.key key) || op_allows item.op item.values found))
allowed_at-more all i item below is key found =
    list_all_more (λ (requirement : Requirement). not (bytes_eq requirement.key key) || op_allows requirement.op requirement.values found) all i item below ∙ rw (← is) refl

-- the demand on the key of one more requirement is narrowed, and the others stay
pub demands_step : (all : List Requirement) (i : ℕ) (item : Requirement) → i < length all → item ≡ get_or all i item
    → (old taken new : List ℕ → Option Demand) (made : Demand)
    → ((key : List ℕ) → taken key ≡ cond (is_eq (slice_cmp nat_cmp item.key key)) None (old key))
    → ((key : List ℕ) → new key ≡ cond (is_eq (slice_cmp nat_cmp item.key key)) (Some made) (taken key))
    → ((found : Option (List ℕ)) → admits made found ≡ (admits_unless_free (old item.key) found && op_allows item.op item.values found))
    → ((key : List ℕ) (found : Option (List ℕ)) → admits_unless_free (old key) found ≡ allowed_at (take i all) key found)
    → (key : List ℕ) (found : Option (List ℕ)) → admits_unless_free (new key) found ≡ allowed_at (take (i + 1) all) key found
demands_step all i item below is old taken new made removed inserted narrowed so_far key found =
    rw (allowed_at-more all i item below is key found) (by (bytes_eq item.key key) refl)
  where
    by : (b : Bool) → bytes_eq item.key key ≡ b → admits_unless_free (new key) found ≡ (allowed_at (take i all) key found && (not b || op_allows item.op item.values found))
    by true is_here =
        let same = (bytes_decides item.key key).0 is_here in
        rw (inserted key, is_eq-slice_cmp item.key key, is_here, narrowed found, so_far item.key found, same) refl
    by false is_here =
        rw (inserted key, removed key, is_eq-slice_cmp item.key key, is_here, so_far key found) (sym (and-true _))

-- what the labels of the demands say of the requirements
pub met_from_settled : (requirements : List Requirement) (demand : List ℕ → Option Demand) (made : Option (List Pair))
    → ((key : List ℕ) (found : Option (List ℕ)) → admits_unless_free (demand key) found ≡ allowed_at requirements key found)
    → MatchOption made ((key : List ℕ) × ((found : Option (List ℕ)) → admits_unless_free (demand key) found ≡ false))
    (λ labels. (key : List ℕ) → admits_unless_free (demand key) (value_of labels key) ≡ true)
    → IfSome made (λ labels. meets_all requirements labels ≡ true)
met_from_settled requirements demand None same settled = tt
met_from_settled requirements demand (Some labels) same settled = met_from_allowed requirements labels (λ key. sym (same key (value_of labels key)) ∙ settled key)

pub none_from_settled : (requirements : List Requirement) (demand : List ℕ → Option Demand) (made : Option (List Pair))
    → ((key : List ℕ) (found : Option (List ℕ)) → admits_unless_free (demand key) found ≡ allowed_at requirements key found)
    → MatchOption made ((key : List ℕ) × ((found : Option (List ℕ)) → admits_unless_free (demand key) found ≡ false))
    (λ labels. (key : List ℕ) → admits_unless_free (demand key) (value_of labels key) ≡ true)
    → IfNone made ((labels : List Pair) → meets_all requirements labels ≡ false)
none_from_settled requirements demand None same settled = unmet_from_clash requirements settled.0 (λ found. sym (same settled.0 found) ∙ settled.1 found)
none_from_settled requirements demand (Some labels) same settled = tt
