use Rattle.std.proofs.Common.{◌≡◌, ◌++◌, Bool, ◌&&◌, codes, length, drop, sym, ap, ◌∙◌}
use Rattle.std.specs.Str.{bytes_eq}
use Rattle.np_command_evaluate.proofs.EvaluateLemmas.{bytes_eq_parts}
use Rattle.np_command_evaluate.proofs.report.is_word_of.Goals as goal

pub returns-in-Some : goal.returns-in-Some
returns-in-Some c =
    let word = c.args.word.now in
    let front = c.args.pod.now.namespace in
    let rest = codes "/" ++ c.args.pod.now.name in
    let begins : c.as_bytes-2.result.now ≡ front = c.as_bytes-2.ensures.value ∙ c.as_str.ensures in
    let cases = rw (begins, c.as_bytes.ensures.value) at c.in-Some.ensures.cases in
    let is : c.is_slash_and.result ≡ bytes_eq c.in-Some.rest.now rest = rw c.as_str-in-Some.ensures at c.is_slash_and.ensures in
    is
    ∙ ap (λ (bytes : _). bytes_eq bytes rest) cases.1
    ∙ sym (bytes_eq_parts word front rest ∙ ap (λ (b : Bool). b && bytes_eq (drop (length front) word) rest) cases.0)

pub returns-in-None : goal.returns-in-None
returns-in-None c =
    let word = c.args.word.now in
    let front = c.args.pod.now.namespace in
    let rest = codes "/" ++ c.args.pod.now.name in
    let begins : c.as_bytes-2.result.now ≡ front = c.as_bytes-2.ensures.value ∙ c.as_str.ensures in
    let fails = rw (begins, c.as_bytes.ensures.value) at c.in-None.ensures.cases in
    sym (bytes_eq_parts word front rest ∙ ap (λ (b : Bool). b && bytes_eq (drop (length front) word) rest) fails)
