-- Readings: what inputs are read as, or the refusal that stands first: first by the lines of `estate_of`. It is never
-- `NoMemory`.
use Rattle.std.specs.Prelude.{◌≡◌, Option, Some, None, Result, Ok, Err, ⊤}
use Rattle.np_reading.specs.Types.{NoMemory, Refusal}

abbrev pub Reading : Type 0 → Type 0
Reading A = Result A Refusal

-- the rule that nothing is found: the refusal of what is
abbrev pub refuse_found : {A : Type 0} → (A → Refusal) → Option A → Reading ⊤
refuse_found refusal None = Ok tt
refuse_found refusal (Some found) = Err (refusal found)

-- what the code gives of a reading: its value, or its very refusal; want of memory may always come
abbrev pub Gives : {A : Type 0} → Result A Refusal → Reading A → Type 0
Gives (Ok x) reading = reading ≡ Ok x
Gives (Err NoMemory) reading = ⊤
Gives (Err refusal) reading = reading ≡ Err refusal
