use Rattle.std.proofs.Common.{◌∙◌, ap, false, refl, sym, true}
use Rattle.clap.specs.Matches.{found_of}
use Rattle.clap.specs.Walk.{rows_of}
use Rattle.np_args.proofs.AskedLemmas.{files_found, names_found}
use Rattle.np_args.specs.Prelude.{are_files}
use Rattle.np_args.proofs.files.read_files.Goals as goal

pub returns-then-are_files-clause-files : goal.returns-then-are_files-clause-files
returns-then-are_files-clause-files c =
    let found = found_of c.args.matches.now in
    files_found (rows_of found) c.in_ok-files.files true
    (c.in_ok-files.ensures ∙ names_found found c.get_strs.result _ c.unwrap_or.result c.get_strs.ensures c.unwrap_or.ensures refl)
    (ap are_files (sym c.items.ensures) ∙ sym c.are_files.ensures ∙ c.if-are_files.true)

pub returns-else-are_files-clause-usage : goal.returns-else-are_files-clause-usage
returns-else-are_files-clause-usage c = λ usage.
    let found = found_of c.args.matches.now in
    files_found (rows_of found) c.in_ok-files.files false
    (c.in_ok-files.ensures ∙ names_found found c.get_strs.result _ c.unwrap_or.result c.get_strs.ensures c.unwrap_or.ensures refl)
    (ap are_files (sym c.items.ensures) ∙ sym c.are_files.ensures ∙ c.if-are_files.false)
