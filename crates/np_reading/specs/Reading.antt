-- What the bytes of inputs are read as.
use Rattle.std.specs.Prelude.{ℕ, List, Result, Ok, Err, ⊤}
use Rattle.std.specs.Result.{result_map_both}
use Rattle.np_reading.specs.Ends.{pods_of}
use Rattle.np_reading.specs.LeftOut.{count_left_out, unaddressed}
use Rattle.np_reading.specs.Listed.{admin_policies_of, baseline_of, have_priorities_apart, ingresses_of, net_policies_of, services_of}
use Rattle.np_reading.specs.Readings.{Reading, refuse_found}
use Rattle.np_reading.specs.Refusals.{items_refusal}
use Rattle.np_reading.specs.Types.{Duplicate, EstateLists, Finished, Host, Item, Notes, OwnerCycle, Skipped}
use Rattle.np_items.specs.Prelude.{items_of}
use Rattle.np_json.specs.Prelude.{◌>>=◌, ◌>>◌}
use Rattle.np_owners.specs.Prelude.{first_in_cycle, first_repeat}

abbrev pub notes_of : List Item → Notes
notes_of items = record {
  host = count_left_out items Host;
  finished = count_left_out items Finished;
  skipped = count_left_out items Skipped;
  unaddressed = unaddressed (pods_of items) (admin_policies_of items) (baseline_of items);
}

-- the estate of these items
abbrev pub estate_of_items : List Item → EstateLists
estate_of_items items = record {
  pods = pods_of items;
  services = services_of items;
  ingresses = ingresses_of items;
  notes = notes_of items;
  net_policies = net_policies_of items;
  admin_policies = admin_policies_of items;
  baseline = baseline_of items;
}

-- the rule that no two items have one name
abbrev pub have_names_apart : List Item → Reading ⊤
have_names_apart items = refuse_found (λ numbers. Duplicate numbers.0 numbers.1) (first_repeat items)

-- the rule that no listed controller stands in its own chain of owners
abbrev pub have_no_cycle : List Item → Reading ⊤
have_no_cycle items = refuse_found OwnerCycle (first_in_cycle items)

-- The estate of inputs, or the first refusal: that of the items, else of two items of one name, else of two admin
-- policies of one priority, else of a controller in its own chain of owners.
unfoldable pub estate_of : List (List ℕ) → Reading EstateLists
estate_of texts = do
  items ← result_map_both (λ items. items) items_refusal (items_of texts)
  have_names_apart items
  have_priorities_apart items
  have_no_cycle items
  Ok (estate_of_items items)
