-- What is so of a list that is not refused. For OnceLemmas and crates above.
use Rattle.std.proofs.Common.{◌≡◌, ℕ, List, Option, Some, None, Ok, Err, refl}
use Rattle.std.specs.Prelude.{⊤}
use Rattle.np_reading.specs.Prelude.{EstateLists, Item, Reading, Refusal, EqualPriority, estate_of, estate_of_items, first_equal, have_names_apart, have_no_cycle, have_priorities_apart, ranks_of, refuse_found}
use Rattle.np_items.specs.Prelude.{items_of}
use Rattle.np_json.specs.Prelude.{◌>>◌}
use Rattle.np_owners.specs.Prelude.{first_repeat}

none_found : {A : Type 0} (refusal : A → Refusal) (found : Option A) → refuse_found refusal found ≡ Ok tt → found ≡ None
none_found refusal None passed = refl
none_found refusal (Some one) passed = cc

-- steps that end in lists are passed
passed : (names priorities cycles : Reading ⊤) (made lists : EstateLists) → (names >> (priorities >> (cycles >> Ok made))) ≡ Ok lists → (names ≡ Ok tt) × (priorities ≡ Ok tt) × (made ≡ lists)
passed (Ok names) (Ok priorities) (Ok cycles) made lists is = (refl, refl, cc)
passed (Ok names) (Ok priorities) (Err refusal) made lists is = cc
passed (Ok names) (Err refusal) cycles made lists is = cc
passed (Err refusal) priorities cycles made lists is = cc

-- where an estate is read of items, none repeats a name, no two admin policies have one priority, and it is theirs
pub estate_of-passed : (texts : List (List ℕ)) (items : List Item) (lists : EstateLists) → items_of texts ≡ Ok items → estate_of texts ≡ Ok lists →
    (first_repeat items ≡ None) × (first_equal (ranks_of items) ≡ None) × (estate_of_items items ≡ lists)
unfolding estate_of
estate_of-passed texts items lists read is =
    let parts = passed (have_names_apart items) (have_priorities_apart items) (have_no_cycle items) (estate_of_items items) lists (rw read at is) in
    (none_found _ (first_repeat items) parts.0, none_found (λ ranks. EqualPriority ranks.0.priority ranks.0.name ranks.1.name) (first_equal (ranks_of items)) parts.1, parts.2)
