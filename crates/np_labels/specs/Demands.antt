-- What requirements on one key together leave open.
use Rattle.std.specs.Prelude.{◌≡◌, ℕ, List, Bool, true, false, not, ◌||◌, Option, Some, None}
use Rattle.std.specs.Ordering.{nat_cmp}
use Rattle.std.specs.Cmp.Lexicographic.{slice_cmp}
use Rattle.std.specs.BTreeSet.{contains}
use Rattle.std.specs.List.{list_all}
use Rattle.std.specs.Str.{bytes_eq}
use Rattle.np_labels.specs.Selectors.{op_allows}
use Rattle.np_labels.specs.declared.choice.Choice.{Choice}
use Rattle.np_labels.specs.declared.choice.Choice.TheVariants.{Clash, LeftOut, Value}
use Rattle.np_labels.specs.Types.{Demand, Requirement}
use Rattle.np_labels.specs.declared.value_set.ValueSet.{ValueSet}
use Rattle.np_labels.specs.declared.value_set.ValueSet.TheVariants.{Only, AllBut}

-- whether a value is in the set
abbrev pub has_value : ValueSet → List ℕ → Bool
has_value (Only values) value = contains (slice_cmp nat_cmp) values value
has_value (AllBut values) value = not (contains (slice_cmp nat_cmp) values value)

-- whether the key may have the value, or be absent
abbrev pub admits : Demand → Option (List ℕ) → Bool
admits demand None = demand.may_be_absent
admits demand (Some value) = has_value demand.values value

-- the same, where a key without a demand may have any value and may be absent
abbrev pub admits_unless_free : Option Demand → Option (List ℕ) → Bool
admits_unless_free None found = true
admits_unless_free (Some demand) found = admits demand found

-- what is chosen for the key meets the demand, or nothing does
abbrev pub IsChoice : Demand → Choice → Type 0
IsChoice demand Clash = (found : Option (List ℕ)) → admits demand found ≡ false
IsChoice demand LeftOut = admits demand None ≡ true
IsChoice demand (Value value) = admits demand (Some value) ≡ true

-- whether all the requirements on a key allow what is found at it
abbrev pub allowed_at : List Requirement → List ℕ → Option (List ℕ) → Bool
allowed_at requirements key found = list_all (λ requirement. not (bytes_eq requirement.key key) || op_allows requirement.op requirement.values found) requirements
