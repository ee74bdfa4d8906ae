-- Rules that decide nothing, as they are written. For crates above.
use Rattle.np_model.specs.declared.lists.EstateLists.{EstateLists}
use Rattle.np_unused.proofs.LawLemmas.{decide_nothing}
use Rattle.np_unused.specs.Prelude.{unused_of}
use Rattle.std.proofs.Common.{◌≡◌, ℕ, List, Ok}
use Rattle.np_command.specs.Prelude.{SinkTrace, TookWhole, lists_of}
use Rattle.np_command_unused.specs.Promise.{ListsUnused}
use Rattle.np_command_unused.specs.Report.{unused_text}
use Rattle.np_model.specs.Prelude.{IsLawful}
use Rattle.np_unused.proofs.AllowLemmas.{change_nothing}
use Rattle.np_unused.proofs.OrderLemmas.{unused_in_order}

-- a whole report of accepted inputs says which rules are unused
pub promised : (out : SinkTrace) (texts : List (List ℕ)) (lists : EstateLists) → lists_of texts ≡ Ok lists → IsLawful lists → TookWhole out (unused_text lists) → ListsUnused out texts
unfolding unused_text
promised out texts lists read lawful took =
    record {
      lists = lists;
      read = read;
      rules = unused_of lists;
      printed = took;
      each = decide_nothing lists;
      order = unused_in_order lists;
      together = change_nothing lists lawful;
    }
