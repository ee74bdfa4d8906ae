use Rattle.std.proofs.Common.{◌≡◌, List, ℕ, [], ◌∙◌, ap}
use Rattle.std.proofs.lemmas.Result.{IfOk-weaker}
use Rattle.std.specs.Cmp.Lexicographic.{slice_cmp}
use Rattle.std.specs.List.Sorted.{IsStrictlySortedBy}
use Rattle.std.specs.Ordering.{nat_cmp}
use Rattle.np_fold.specs.Prelude.{keys_of_estate, with_keys}
use Rattle.np_labels.specs.Prelude.{is_listed}
use Rattle.np_labels.proofs.Distinct.{distinct-sorted, is_listed-distinct}
use Rattle.np_fold.proofs.relevant.relevant_keys.Goals as goal

-- the set has the keys of the estate, in order
all : (c : goal.After-in_order) → c.add_estate.new.keys.keys ≡ with_keys [] (keys_of_estate c.args.estate.now)
all c = c.in_ok-add_estate.ensures ∙ ap (λ (keys : List (List ℕ)). with_keys keys (keys_of_estate c.args.estate.now)) c.new-keys.ensures.empty

members : (made keys : List (List ℕ)) → made ≡ with_keys [] keys → (key : List ℕ) → is_listed made key ≡ is_listed keys key
members made keys same key = rw same (is_listed-distinct keys key)

ascending : (made keys : List (List ℕ)) → made ≡ with_keys [] keys → IsStrictlySortedBy (slice_cmp nat_cmp) made
ascending made keys same = rw same (distinct-sorted keys)

pub returns-clause-members : goal.returns-clause-members
returns-clause-members c = IfOk-weaker c.in_order.result _ _ (λ made is. members made (keys_of_estate c.args.estate.now) (is ∙ all c)) c.in_order.ensures

pub returns-clause-ascending : goal.returns-clause-ascending
returns-clause-ascending c = IfOk-weaker c.in_order.result _ _ (λ made is. ascending made (keys_of_estate c.args.estate.now) (is ∙ all c)) c.in_order.ensures
