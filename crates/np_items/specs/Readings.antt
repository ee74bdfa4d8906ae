-- Readings: what inputs are read as, or the fault that stands first: that of the first input that has one, else that of
-- too many items, else that of the first item that has one. It is never `NoMemory`.
use Rattle.std.specs.Prelude.{◌≡◌, Result, Ok, Err, ⊤}
use Rattle.np_items.specs.declared.fault.ItemsFault.{ItemsFault}
use Rattle.np_items.specs.declared.fault.ItemsFault.TheVariants.{NoMemory}

abbrev pub ItemsReading : Type 0 → Type 0
ItemsReading A = Result A ItemsFault

-- what the code gives of a reading: its value as it is seen, or its very fault; want of memory may always come
abbrev pub GivesAs : {A B : Type 0} → (A → B) → Result A ItemsFault → ItemsReading B → Type 0
GivesAs seen (Ok x) reading = reading ≡ Ok (seen x)
GivesAs seen (Err NoMemory) reading = ⊤
GivesAs seen (Err fault) reading = reading ≡ Err fault

abbrev pub Gives : {A : Type 0} → Result A ItemsFault → ItemsReading A → Type 0
Gives (Ok x) reading = reading ≡ Ok x
Gives (Err NoMemory) reading = ⊤
Gives (Err fault) reading = reading ≡ Err fault
