-- What a report of `exposure` says, from what was written of it, and why there is none. For crates above.
use Rattle.std.proofs.Common.{◌≡◌, ℕ, List, flat_map, Option, None, Some, Result, Ok, Err, refl, ap, subst, ◌∙◌}
use Rattle.np_command_exposure.specs.Types.{EstateLists, Fault, Format, RowText, ShownSide}
use Rattle.np_command.specs.Prelude.{SinkTrace, TookWhole, fault_in, lists_of, text_in}
use Rattle.np_command.proofs.EndLemmas.{no_fault_at}
use Rattle.np_command_exposure.proofs.SideLemmas.{all_rows-same, asked-sides, few-sides, first-over, rows_at, says-all, texts_of_side, unknown-name, well-at}
use Rattle.np_command_exposure.specs.Promise.{ExposesAll, RefusesExposure, too_many, unknown}
use Rattle.np_command_exposure.specs.Report.{exposure_of_sides, exposure_reply, exposure_text, first_fault, side_rows, sides_shown, text_unless}
use Rattle.np_model.specs.Prelude.{IsLawful}
use Rattle.np_report.specs.Prelude.{report_text}

-- ---- what is said

says_shown : (out : SinkTrace) (workload : Option (List ℕ)) (format : Format) (texts : List (List ℕ)) (lists : EstateLists) (shown : List ShownSide) → lists_of texts ≡ Ok lists → IsLawful lists
    → sides_shown workload lists ≡ Ok shown → first_fault lists shown ≡ None → TookWhole out (exposure_text format lists shown) → ExposesAll out workload format texts
unfolding exposure_text
says_shown out workload format texts lists shown read lawful is none took =
    let asked = asked-sides lists workload shown is in
    let sides = asked.0 in
    let same : flat_map (side_rows lists) shown ≡ flat_map (texts_of_side (rows_at lists)) sides = all_rows-same lists shown sides asked.2 in record {
      lists = lists;
      sides = sides;
      rows = rows_at lists;
      read = read;
      asked = asked.1;
      few = few-sides lists shown sides asked.2 none;
      exposed = says-all lists shown sides lawful asked.2;
      well = λ side has. well-at lists lawful side;
      printed = subst (λ (rows : List RowText). TookWhole out (report_text format rows)) same took;
    }

says_sides : (out : SinkTrace) (workload : Option (List ℕ)) (format : Format) (texts : List (List ℕ)) (lists : EstateLists) (shown : Result (List ShownSide) Fault) → lists_of texts ≡ Ok lists →
    IsLawful lists
    → sides_shown workload lists ≡ shown → fault_in (exposure_of_sides format lists shown) ≡ None → TookWhole out (text_in (exposure_of_sides format lists shown)) →
    ExposesAll out workload format texts
says_sides out workload format texts lists (Err fault) read lawful are no_fault took = absurd (no_fault_at fault no_fault)
says_sides out workload format texts lists (Ok shown) read lawful are no_fault took = by (first_fault lists shown) refl no_fault took
  where
    by : (fault : Option Fault) → first_fault lists shown ≡ fault → fault_in (text_unless fault (exposure_text format lists shown)) ≡ None
        → TookWhole out (text_in (text_unless fault (exposure_text format lists shown))) → ExposesAll out workload format texts
    by (Some fault) is no_fault took = absurd (no_fault_at fault no_fault)
    by None is no_fault took = says_shown out workload format texts lists shown read lawful are is took

-- a whole report of accepted inputs says what is exposed
pub promised : (out : SinkTrace) (workload : Option (List ℕ)) (format : Format) (texts : List (List ℕ)) (lists : EstateLists) → lists_of texts ≡ Ok lists → IsLawful lists
    → fault_in (exposure_reply workload format lists) ≡ None → TookWhole out (text_in (exposure_reply workload format lists)) → ExposesAll out workload format texts
unfolding exposure_reply
promised out workload format texts lists read lawful no_fault took =
    says_sides out workload format texts lists (sides_shown workload lists) read lawful refl no_fault took

-- ---- refusals

refused_sides : (workload : Option (List ℕ)) (format : Format) (lists : EstateLists) (fault : Fault) (shown : Result (List ShownSide) Fault) → sides_shown workload lists ≡ shown
    → fault_in (exposure_of_sides format lists shown) ≡ Some fault → RefusesExposure workload lists fault
refused_sides workload format lists fault (Err other) are is =
    let none = unknown-name lists workload other are in let same : other ≡ fault = cc in unknown none.0 none.1 none.2 (cc)
refused_sides workload format lists fault (Ok shown) are is = by (first_fault lists shown) refl is
  where
    by : (found : Option Fault) → first_fault lists shown ≡ found → fault_in (text_unless found (exposure_text format lists shown)) ≡ Some fault → RefusesExposure workload lists fault
    by None found is = absurd (cc)
    by (Some other) found is =
        let asked = asked-sides lists workload shown are in
        let same : other ≡ fault = cc in
        too_many asked.0 asked.1 (first-over lists shown asked.0 fault asked.2 (found ∙ ap (λ (f : Fault). Some f) same))

-- what is refused of what was read has an unknown name, or a side with too many patterns
pub refused : (workload : Option (List ℕ)) (format : Format) (lists : EstateLists) (fault : Fault) → IsLawful lists → fault_in (exposure_reply workload format lists) ≡ Some fault
    → RefusesExposure workload lists fault
unfolding exposure_reply
refused workload format lists fault lawful is = refused_sides workload format lists fault (sides_shown workload lists) refl is
