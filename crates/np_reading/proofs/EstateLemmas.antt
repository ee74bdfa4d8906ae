-- The estate of items that nothing refuses. For crates above.
use Rattle.std.proofs.Common.{◌≡◌, ℕ, List, None, Ok, refl}
use Rattle.np_reading.specs.Prelude.{Item, Notes, estate_of, estate_of_items, first_equal, ranks_of}
use Rattle.np_owners.specs.Prelude.{first_in_cycle, first_repeat}
use Rattle.np_items.specs.Prelude.{items_of}

-- it is what the items say
pub estate_of-read : (texts : List (List ℕ)) (items : List Item) → items_of texts ≡ Ok items → first_repeat items ≡ None → first_equal (ranks_of items) ≡ None → first_in_cycle items ≡ None →
    estate_of texts ≡ Ok (estate_of_items items)
unfolding estate_of
estate_of-read texts items read apart priorities cycles = rw (read, apart, priorities, cycles) refl

-- notes of nothing
pub same-notes : (a b c d : ℕ) → a ≡ 0 → b ≡ 0 → c ≡ 0 → d ≡ 0 → let made : Notes = record { host = a; finished = b; skipped = c; unaddressed = d } in made
    ≡ record { host = 0; finished = 0; skipped = 0; unaddressed = 0 }
same-notes a b c d first second third fourth = rw (first, second, third, fourth) refl
