-- What clap's contract says of the words of a simple command, and of what it finds of them.
-- For `EvaluateWordsCommandWords::job`, `EvaluateWordsCommandWords::line` and 9 more.
use Rattle.std.proofs.Common.{◌≡◌, ◌∙◌, ap, ap₂, Bor, List, [], ◌∷◌, Bool, true, false, MatchOption, Option, Some, None, codes, map, option_and_then, option_map, refl, unwrap_or, true≢false, inl, inr, sym, if◌then◌else◌}
use Rattle.clap.proofs.WalkLemmas.{both, first_value-rows, raw_values-rows}
use Rattle.clap.specs.Built.{AddsArg}
use Rattle.clap.specs.Faults.{fault_of, is_free_app, is_simple_and_free}
use Rattle.clap.specs.Kinds.{HasKind, Kinds}
use Rattle.clap.specs.Matches.{first_value, found_of, matched_of, raw_values}
use Rattle.clap.specs.Simple.{App, HasMatchesOf, app_of, built, is_simple, matches_of, with_rule}
use Rattle.clap.specs.Values.{kind_of}
use Rattle.clap.specs.Walk.{Row, Rule, all_of, first_of, rows_of, rule_of}
use Rattle.clap.specs.declared.builder.arg.Arg.{Arg}
use Rattle.clap.specs.declared.builder.command.Command.{Command}
use Rattle.clap.specs.declared.error.Error.{Error}
use Rattle.clap.specs.declared.parser.matches.ArgMatches.{ArgMatches}
use Rattle.clap.specs.declared.parser.matches.Found.{Found}
use Rattle.np_args.specs.Prelude.{NoMemory, Usage, Word, WordsFault, are_files, asked_of, checked_files, fault_of_kind, files_in, is_empty, value_in}

-- ---- commands

-- a command with one more argument
pub added : (before after : Command) (arg : Arg) (app : App) (rule : Rule) → AddsArg before arg after → arg.global ≡ false → app_of before ≡ app → rule_of arg ≡ rule
    → app_of after ≡ with_rule app rule
added before after arg app rule adds local is named = adds.shape local ∙ ap₂ with_rule is named

-- ---- words that match, and words that do not

abbrev is_usage : WordsFault → Bool
is_usage Usage = true
is_usage NoMemory = false

-- of a command of which clap says exactly what it answers
module _ {T : Type 0} (command : App) (make : List Row → Option T) (exact : is_simple_and_free command ≡ true) where
  -- words that match ask for what is made of what was found
  pub matched_job : (app : App) (words : List Word) (matches : ArgMatches) → app ≡ command
      → (is_simple_and_free app ≡ true → fault_of app words ≡ []) → HasMatchesOf app words matches
      → asked_of command make words ≡ make (rows_of (found_of matches))
  matched_job app words matches is none has =
      let simple = (both (is_simple command) (is_free_app (built command)) exact).0 in
      let matched : fault_of command words ≡ [] = ap (λ (one : App). fault_of one words) (sym is) ∙ none (ap is_simple_and_free is ∙ exact) in
      let found : rows_of (found_of matches) ≡ matches_of command words =
      (has (ap is_simple is ∙ simple)).0 ∙ ap (λ (one : App). matches_of one words) is in
      ap (λ (kinds : Kinds). if is_empty kinds then make (matches_of command words) else None) matched ∙ ap make (sym found)

  -- an error of another kind than want of memory comes only of words that do not match
  pub unmatched_job : (app : App) (words : List Word) (error : Error) → app ≡ command
      → (is_simple_and_free app ≡ true → HasKind (fault_of app words) error) → fault_of_kind (kind_of error) ≡ Usage
      → asked_of command make words ≡ None
  unmatched_job app words error is refused usage =
      go (fault_of app words) (refused (ap is_simple_and_free is ∙ exact)) (ap (λ (one : App). fault_of one words) (sym is))
    where
      go : (kinds : Kinds) → HasKind kinds error → fault_of command words ≡ kinds → asked_of command make words ≡ None
      go kinds (inl memory) same = absurd (true≢false (ap is_usage (sym usage ∙ ap fault_of_kind memory)))
      go [] (inr among) same = absurd among
      go (kind ∷ kinds) (inr among) same =
          ap (λ (faults : Kinds). if is_empty faults then make (matches_of command words) else None) same

-- ---- what getters give

-- the value of an option
pub value_found : (found : Found) (name : Word) (value : Option (Bor Word)) → option_map (λ s. s.now) value ≡ first_value found name
    → option_map (λ s. s.now) value ≡ first_of name (rows_of found)
value_found found name value is = is ∙ first_value-rows found name

-- what the reader of an option makes of its value
pub value_in-found : {T : Type 0} (read : Word → Option T) (name : Word) (found : Found) (value : Option (Bor Word))
    → option_map (λ s. s.now) value ≡ first_value found name → value_in read name (rows_of found) ≡ option_and_then read (option_map (λ s. s.now) value)
value_in-found read name found value is = ap (option_and_then read) (sym (value_found found name value is))

pub value_read : {T : Type 0} (read : Word → Option T) (name : Word) (found : Found) (value : Option (Bor Word)) (taken : Option T)
    → option_map (λ s. s.now) value ≡ first_value found name → MatchOption value (taken ≡ None) (λ word. taken ≡ read word.now)
    → value_in read name (rows_of found) ≡ taken
value_read read name found None taken is reads = value_in-found read name found None is ∙ sym reads
value_read read name found (Some word) taken is reads = value_in-found read name found (Some word) is ∙ sym reads

-- the texts of a slice that may be there
texts_or_none : (found : Option (Bor (List (Bor Word)))) (none : Bor (List (Bor Word))) → none.now ≡ []
    → map (λ word. word.now) (unwrap_or found none).now ≡ unwrap_or (option_map (λ words. map (λ word. word.now) words.now) found) []
texts_or_none None none is = ap (map (λ (word : Bor Word). word.now)) is
texts_or_none (Some words) none is = refl

-- the names of the files
pub names_found : (found : Found) (names : Option (Bor (List (Bor Word)))) (none given : Bor (List (Bor Word)))
    → option_map (λ words. map (λ word. word.now) words.now) names ≡ option_map raw_values (matched_of found (codes "FILE"))
    → given ≡ unwrap_or names none → none.now ≡ [] → map (λ word. word.now) given.now ≡ unwrap_or (all_of (codes "FILE") (rows_of found)) []
names_found found names none given gives is empty =
    ap (λ (words : Bor (List (Bor Word))). map (λ (word : Bor Word). word.now) words.now) is ∙ texts_or_none names none empty
    ∙ ap (λ (one : Option (List Word)). unwrap_or one []) (gives ∙ raw_values-rows found (codes "FILE"))

-- the files, by whether they name standard input at most once
pub files_found : (rows : List Row) (files : List Word) (few : Bool) → files ≡ unwrap_or (all_of (codes "FILE") rows) [] → are_files files ≡ few
    → files_in rows ≡ (if few then Some files else None)
files_found rows files few is checks =
    ap checked_files (sym is) ∙ ap (λ (taken : Bool). if taken then Some files else None) checks
