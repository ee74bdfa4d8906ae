use Rattle.std.proofs.Common.{◌≡◌, None, rules}
use Rattle.std.proofs.lemmas.Bool.{both_ways}
use Rattle.np_items.proofs.InputLemmas.{json_of-read, json_of-none}
use Rattle.np_items.specs.Prelude.{json_of}
use Rattle.np_items.proofs.json.value_of.Goals as goal

pub returns-in-Ok : goal.returns-in-Ok
returns-in-Ok c = rw (json_of-read _ _ c.in-Ok.ensures.ok.0 c.in-Ok.ensures.ok.1) (search rules)

pub returns-in-Err-2 : goal.returns-in-Err-2
returns-in-Err-2 c =
    let none : json_of c.args.text.now ≡ None = json_of-none _ (c.in-Err.ensures.err (λ memory. both_ways _ c.if-is_memory.false (search rules))) in
    rw none (search rules)
