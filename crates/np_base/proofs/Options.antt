-- Options. For crates above.
use Rattle.std.proofs.Common.{◌≡◌, Some, Option, None, refl, true, is_some}
use Rattle.std.specs.Option.{option_or, option_map}

-- values of equal options are equal
pub some_is : {X : Type 0} (a b : X) → Some a ≡ Some b → a ≡ b
some_is a b same = cc

-- nothing else to take
pub option_or-none : {X : Type 0} (o : Option X) → option_or o None ≡ o
option_or-none None = refl
option_or-none (Some x) = refl

-- what is seen of a choice is the choice of what is seen
pub option_map-or : {X Z : Type 0} (seen : X → Z) (a b : Option X) → option_map seen (option_or a b) ≡ option_or (option_map seen a) (option_map seen b)
option_map-or seen None b = refl
option_map-or seen (Some x) b = refl

-- there is one, where there is another to take
pub is_some-or : {X : Type 0} (found : Option X) (value : X) → is_some (option_or found (Some value)) ≡ true
is_some-or None value = refl
is_some-or (Some other) value = refl
