use Rattle.std.proofs.Common.{◌≡◌, ◌||◌, ◌∷◌, ◌⊎◌, ap, ◌∙◌, lit<}
use Rattle.std.proofs.lemmas.Result.{err_from_is_err_and}
use Rattle.std.proofs.lemmas.Str.Pattern.{strip_prefix_char}
use Rattle.np_conns.specs.Prelude.{Part, has_spot, text_of_part}
use Rattle.np_conns.proofs.ReadLemmas.{without_space}
use Rattle.np_conns.proofs.read.add_part.Goals as goal
use Rattle.np_conns.proofs.read.add_part.Goals.{After-unwrap_or}

-- what is read is the part without a space before it
plain : (c : After-unwrap_or) (part : Part) → (c.args.text.now ≡ text_of_part part) ⊎ (c.args.text.now ≡ 32 ∷ text_of_part part) → c.unwrap_or.result.now ≡ text_of_part part
plain c part printed =
    ap (λ text. text.now) c.unwrap_or.ensures ∙ without_space part c.args.text c.strip_prefix.result
    (strip_prefix_char 32 c.args.text.now c.strip_prefix.result c.strip_prefix.ensures.cases (lit< tt)) printed

pub returns-in_err-part-clause-printed : goal.returns-in_err-part-clause-printed
returns-in_err-part-clause-printed c = λ part real printed.
    let answer = err_from_is_err_and c.from_residual.result c.from_residual.ensures.1 in
    rw (answer.1, answer.2) (c.in_err-part.ensures.printed part real (plain (goal.at.returns-in_err-part-clause-printed c).After-unwrap_or part printed))

pub returns-clause-printed : goal.returns-clause-printed
returns-clause-printed c = λ part real printed spot.
    c.in_ok-join.ensures.members spot ∙ ap (λ b. has_spot c.args.set.now spot || b)
    (c.in_ok-part.ensures.printed part real (plain (goal.at.returns-clause-printed c).After-unwrap_or part printed) spot)
