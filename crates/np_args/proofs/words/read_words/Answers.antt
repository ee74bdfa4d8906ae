use Rattle.std.proofs.Common.{◌≡◌, ◌≢◌, List, [], ◌∷◌, None, Option, Some, String, ap, codes, false, map, option_and_then, refl, slice_get, string_bytes, subst}
use Rattle.std.proofs.lemmas.Bool.{false_from_ne_true}
use Rattle.std.proofs.lemmas.Option.{same_Some}
use Rattle.std.proofs.lemmas.Slice.Eq.{bytes_eq-Decides}
use Rattle.std.specs.Map.{lookup}
use Rattle.std.specs.Str.{bytes_eq}
use Rattle.std.specs.declared.alloc.Global.{Global}
use Rattle.np_args.proofs.words.read_words.Goals as goal
use Rattle.np_args.specs.Prelude.{Job, Word, asked_by, jobs}

other : (text name : Word) → text ≢ name → bytes_eq text name ≡ false
other text name differ = false_from_ne_true (bytes_eq text name) (λ same. differ ((bytes_eq-Decides text name).0 same))

-- a first word that is no command asks for nothing
nothing_asked : (words : List (String Global)) (first : String Global) (text : Word) → Some first ≡ slice_get words 0 → text ≡ string_bytes first → lookup (bytes_eq text) jobs ≡ None → asked_by words ≡ None
nothing_asked [] first text at is none = refl
nothing_asked (one ∷ rest) first text at is none =
    ap (option_and_then (λ (job : List Word → Option Job). job (map string_bytes (one ∷ rest))))
    (subst (λ (s : String Global). lookup (bytes_eq (string_bytes s)) jobs ≡ None) (same_Some first one at) (subst (λ (t : Word). lookup (bytes_eq t) jobs ≡ None) is none))

pub returns-in_default-as_str-clause-usage : goal.returns-in_default-as_str-clause-usage
returns-in_default-as_str-clause-usage c = λ usage.
    let text = c.as_str.result.now in
    let no = c.in_default-as_str in
    nothing_asked c.args.words.now c.in-Some.command.now text c.in-Some.ensures.value c.as_str.ensures.value
    (rw (
      other text (codes "list") no.not-list,
      other text (codes "explain") no.not-explain,
      other text (codes "exposure") no.not-exposure,
      other text (codes "evaluate") no.not-evaluate,
      other text (codes "unused") no.not-unused,
      other text (codes "check") no.not-check,
      other text (codes "flatten") no.not-flatten,
      other text (codes "sample") no.not-sample,
    ) refl)
