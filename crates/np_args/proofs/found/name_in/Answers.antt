use Rattle.std.proofs.Common.{◌∙◌, Some, ap, sym}
use Rattle.clap.proofs.WalkLemmas.{first_value-rows}
use Rattle.clap.specs.Matches.{found_of}
use Rattle.np_args.proofs.found.name_in.Goals as goal

pub returns-in_ok-of-in-Some : goal.returns-in_ok-of-in-Some
returns-in_ok-of-in-Some c = sym (first_value-rows (found_of c.args.matches.now) c.args.option.now) ∙ sym c.in-Some.ensures ∙ ap Some (sym c.in_ok-of-in-Some.ensures)

pub returns-in-None : goal.returns-in-None
returns-in-None c = sym (first_value-rows (found_of c.args.matches.now) c.args.option.now) ∙ sym c.in-None.ensures
