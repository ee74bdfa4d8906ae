-- Options that clap refuses: those that `list` does not have, and those that are given twice.
-- For `options_given_twice_ask_for_nothing` and `other_options_ask_for_nothing`.
use Rattle.std.proofs.Common.{◌≡◌, ◌≢◌, ◌∙◌, ◌==◌, ◌++◌, ℕ, ap, List, [], ◌∷◌, true, false, Option, Some, None, arith, length, codes, if◌then◌else◌, inl, inr, slice_get, subst, refl}
use Rattle.std.proofs.lemmas.Bool.{false≢true, ne_eqb, or_cases, or_parts}
use Rattle.std.proofs.lemmas.Slice.Eq.{bytes_eq-Decides}
use Rattle.std.proofs.lemmas.Str.{encodes-chars}
use Rattle.std.specs.List.{before_first, list_all}
use Rattle.std.specs.Prelude.{IsUtf8}
use Rattle.std.specs.Str.{bytes_eq, chars, encode_utf8_all}
use Rattle.clap.proofs.OnLiterals.{clap_on_literals}
use Rattle.clap.specs.Faults.{bundle_fault, bundle_step_fault, fault_of, flags_fault, turn_fault, walk_fault}
use Rattle.clap.specs.Kinds.{Kinds, or_else}
use Rattle.clap.specs.Lexer.{long_of, short_of}
use Rattle.clap.specs.Simple.{built, matches_of}
use Rattle.clap.specs.Walk.{Held, Walk, arg_by_long, nothing_held, walk, walked}
use Rattle.clap.specs.declared.error.kind.ErrorKind.{ErrorKind}
use Rattle.clap.specs.declared.error.kind.ErrorKind.TheVariants.{ArgumentConflict, UnknownArgument}
use Rattle.np_args.proofs.BehindLemmas.{faults_from, nothing_met}
use Rattle.np_args.proofs.FileLemmas.{after, end, first_all_pass, front, start}
use Rattle.np_args.proofs.ListLemmas.{rules, shape, takes}
use Rattle.np_args.specs.Prelude.{Word, is_empty, is_list_option, is_plain, job_of, list_command, list_job_of}

-- words with a fault ask for nothing
faulty : (words : List Word) (fault : ErrorKind) → walk_fault shape [] (start false nothing_held) words ≡ fault ∷ [] → job_of (codes "list" ∷ words) ≡ None
faulty words fault is =
    let all : fault_of list_command (codes "list" ∷ words) ≡ fault ∷ [] =
    ap (λ (kinds : Kinds). faults_from (built list_command) kinds (walk rules [] nothing_held words)) is in
    ap (λ (kinds : Kinds). if is_empty kinds then list_job_of (matches_of list_command (codes "list" ∷ words)) else None) all

-- ---- options that `list` does not have

-- where a word is met: before the first file, or after some
abbrev at : Option (List Word × Word) → Walk
at None = start false nothing_held
at (Some files) = after [] false files.0 files.1

-- the walk comes to such a word, and is refused
refused : (names : List Word) (word : Word) (others : List Word) → list_all is_plain names ≡ true
    → ((met : Option (List Word × Word)) → turn_fault shape [] (at met) word ≡ UnknownArgument ∷ [])
    → walk_fault shape [] (start false nothing_held) (names ++ word ∷ others) ≡ UnknownArgument ∷ []
unfolding walk_fault
refused [] word others plain unknown =
    ap (λ (kinds : Kinds). or_else kinds (walk_fault shape [] (walked shape.rules [] (start false nothing_held) word) others)) (unknown None)
refused (name ∷ names) word others plain unknown =
    let met : List Word × Word = (front [] name names, end name names) in
    first_all_pass shape takes [] refl (word ∷ others) nothing_held (nothing_met shape) false name names plain
    ∙ ap (λ (kinds : Kinds). or_else kinds (walk_fault shape [] (walked shape.rules [] (at (Some met)) word) others)) (unknown (Some met))

unknown_job : (names : List Word) (word : Word) (others : List Word) → list_all is_plain names ≡ true
    → ((met : Option (List Word × Word)) → turn_fault shape [] (at met) word ≡ UnknownArgument ∷ [])
    → job_of (codes "list" ∷ names ++ word ∷ others) ≡ None
unknown_job names word others plain unknown =
    faulty (names ++ word ∷ others) UnknownArgument (refused names word others plain unknown)

-- ---- short options

-- a text that is not empty has a first character
first_char : (first : ℕ) (rest : Word) → IsUtf8 (first ∷ rest) → (x : ℕ) × (slice_get (chars (first ∷ rest)) 0 ≡ Some x)
first_char first rest text = go (chars (first ∷ rest)) (encodes-chars (first ∷ rest) text)
  where
    go : (all : List ℕ) → encode_utf8_all all ≡ first ∷ rest → (x : ℕ) × (slice_get all 0 ≡ Some x)
    go [] is = let sizes = ap length is in absurd (omega arith)
    go (x ∷ xs) is = (x, refl)

-- there are none
bundle_unknown : (held : Held) (first : ℕ) (rest : Word) → held.skip ≡ 0 → IsUtf8 (first ∷ rest)
    → bundle_fault shape.rules shape.args_override_self (first ∷ rest) held ≡ UnknownArgument ∷ []
unfolding flags_fault
bundle_unknown held first rest none text =
    let flags = first ∷ rest in
    let char = first_char first rest text in
    let bare = record held { skip = 0 } in
    ap (λ (skip : ℕ). flags_fault shape.rules shape.args_override_self (length flags) flags skip bare) none
    ∙ ap (λ (found : Option ℕ). bundle_step_fault shape.rules shape.args_override_self found flags 0 bare (flags_fault shape.rules shape.args_override_self (length rest))) char.1

-- a bundle of short options
record IsBundle (flags : Word) : Type 0 where
  hyphens : bytes_eq (45 ∷ flags) (45 ∷ 45 ∷ []) ≡ false
  long : long_of (45 ∷ flags) ≡ None
  short : short_of (45 ∷ flags) ≡ Some flags

bundle_word : (first : ℕ) (rest : Word) → (first == 45) ≡ false → IsBundle (first ∷ rest)
bundle_word first rest other = record { hyphens = rw other refl; long = rw other refl; short = rw other refl }

short_unknown : (first : ℕ) (rest : Word) → (first == 45) ≡ false → IsUtf8 (first ∷ rest) → (met : Option (List Word × Word))
    → turn_fault shape [] (at met) (45 ∷ first ∷ rest) ≡ UnknownArgument ∷ []
short_unknown first rest other text None =
    let is = bundle_word first rest other in rw (is.hyphens, is.long, is.short, bundle_unknown (at None).held first rest refl text) refl
short_unknown first rest other text (Some files) =
    let is = bundle_word first rest other in rw (is.hyphens, is.long, is.short, bundle_unknown (at (Some files)).held first rest refl text) refl

pub short_job : (names : List Word) (first : ℕ) (rest : Word) (others : List Word) → list_all is_plain names ≡ true → IsUtf8 (first ∷ rest) → first ≢ 45
    → job_of (codes "list" ∷ names ++ (codes "-" ++ first ∷ rest) ∷ others) ≡ None
short_job names first rest others plain text other =
    unknown_job names (45 ∷ first ∷ rest) others plain (short_unknown first rest (ne_eqb first 45 other) text)

-- ---- long options

-- the name of an option, without what follows an `=` (61)
no_rule : (name : Word) → is_list_option name ≡ false → arg_by_long rules name ≡ None
no_rule name other =
    let format = or_parts (bytes_eq (codes "format") name) _ other in
    let report = or_parts (bytes_eq (codes "report") name) _ format.1 in
    let controller = or_parts (bytes_eq (codes "controller") name) _ report.1 in
    let focus = or_parts (bytes_eq (codes "focus") name) _ controller.1 in
    let side = or_parts (bytes_eq (codes "side") name) _ focus.1 in
    rw (format.0, report.0, controller.0, focus.0, side.0) refl

long_unknown : (first : ℕ) (rest : Word) → is_list_option (before_first (λ c. c == 61) (first ∷ rest)) ≡ false → (met : Option (List Word × Word))
    → turn_fault shape [] (at met) (45 ∷ 45 ∷ first ∷ rest) ≡ UnknownArgument ∷ []
long_unknown first rest other None = let none = no_rule (before_first (λ c. c == 61) (first ∷ rest)) other in rw none refl
long_unknown first rest other (Some files) = let none = no_rule (before_first (λ c. c == 61) (first ∷ rest)) other in rw none refl

pub long_job : (names : List Word) (first : ℕ) (rest : Word) (others : List Word) → list_all is_plain names ≡ true
    → is_list_option (before_first (λ c. c == 61) (first ∷ rest)) ≡ false
    → job_of (codes "list" ∷ names ++ (codes "--" ++ first ∷ rest) ∷ others) ≡ None
long_job names first rest others plain other = unknown_job names (45 ∷ 45 ∷ first ∷ rest) others plain (long_unknown first rest other)

-- ---- an option that is given twice

-- two words that give it, and others
abbrev twice : Word → Word → Word → List Word → List Word
twice name first second others = (codes "--" ++ name ++ codes "=" ++ first) ∷ (codes "--" ++ name ++ codes "=" ++ second) ∷ others

abbrev IsRefused : Word → Type 0
IsRefused name = (first second : Word) (others : List Word) → job_of (codes "list" ∷ twice name first second others) ≡ None

format_twice : IsRefused (codes "format")
unfolding clap_on_literals
format_twice first second others = faulty (twice (codes "format") first second others) ArgumentConflict refl

report_twice : IsRefused (codes "report")
unfolding clap_on_literals
report_twice first second others = faulty (twice (codes "report") first second others) ArgumentConflict refl

controller_twice : IsRefused (codes "controller")
unfolding clap_on_literals
controller_twice first second others = faulty (twice (codes "controller") first second others) ArgumentConflict refl

focus_twice : IsRefused (codes "focus")
unfolding clap_on_literals
focus_twice first second others = faulty (twice (codes "focus") first second others) ArgumentConflict refl

side_twice : IsRefused (codes "side")
unfolding clap_on_literals
side_twice first second others = faulty (twice (codes "side") first second others) ArgumentConflict refl

named : (known name : Word) → bytes_eq known name ≡ true → IsRefused known → IsRefused name
named known name same refuses = subst IsRefused ((bytes_eq-Decides known name).0 same) refuses

pub twice_job : (name : Word) → is_list_option name ≡ true → IsRefused name
twice_job name known =
    elim (or_cases (bytes_eq (codes "format") name) _ known) [
      | inl format ↦ named (codes "format") name format format_twice
      | inr others ↦ elim (or_cases (bytes_eq (codes "report") name) _ others) [
        | inl report ↦ named (codes "report") name report report_twice
        | inr more ↦ elim (or_cases (bytes_eq (codes "controller") name) _ more) [
          | inl controller ↦ named (codes "controller") name controller controller_twice
          | inr two ↦ elim (or_cases (bytes_eq (codes "focus") name) _ two) [
            | inl focus ↦ named (codes "focus") name focus focus_twice
            | inr last ↦ elim (or_cases (bytes_eq (codes "side") name) _ last) [
              | inl side ↦ named (codes "side") name side side_twice
              | inr none ↦ absurd (false≢true none)
            ]
          ]
        ]
      ]
    ]
