-- What a command that takes files makes of files behind its options. For CheckLemmas, FileCommandLemmas and 5 more.
use Rattle.std.proofs.Common.{◌≡◌, ◌∙◌, ◌++◌, ap, ap₂, List, [], ◌∷◌, true, false, Some, None, Option, codes, fold, if◌then◌else◌, is_some, refl}
use Rattle.std.specs.List.{list_all}
use Rattle.clap.specs.Faults.{check_fault, defaults_fault, entered_fault, fault_of, settle_fault, walk_fault}
use Rattle.clap.specs.Kinds.{Kinds, or_else}
use Rattle.clap.specs.Simple.{App, Shape, built, entered, filled, matches_of}
use Rattle.clap.specs.Walk.{Held, Row, Rule, Walk, finished, has_row, nothing_held, reading_by, settled, walked}
use Rattle.clap.specs.declared.parser.matches.ValueSource.TheVariants.{CommandLine}
use Rattle.np_args.proofs.FileLemmas.{Ends, IsMet, TakesFiles, after, end, front, in_order, plain_end, start}
use Rattle.np_args.specs.Prelude.{Word, are_files, asked_of, is_empty, is_plain, or_standard_input}

-- ---- words that end without a fault

-- the walk over words, from nothing
abbrev pub walk_over : App → List Word → Walk
walk_over command words = fold (walked (built command).top.rules []) (start false nothing_held) words

-- the faults of a walk, of its end and of what is missing there
abbrev pub faults_from : App → Kinds → Walk → Kinds
faults_from whole faults final =
    or_else faults
    (or_else (entered_fault whole final.stopped)
    (or_else (settle_fault whole.top.rules whole.top.args_override_self final.held)
    (or_else (defaults_fault (settled whole.top.rules final.held).rows whole.top.rules)
    (check_fault whole.top (finished whole.top.rules final.held) (is_some (entered whole final.stopped))))))

-- A command without subcommands walks over the words behind its name.
pub record IsWalked (command : App) (name : Word) : Type 0 where
  pub fails : (words : List Word) → fault_of command (name ∷ words) ≡ faults_from (built command) (walk_fault (built command).top [] (start false nothing_held) words) (walk_over command words)
  pub finds : (words : List Word) → matches_of command (name ∷ words) ≡ finished (built command).top.rules (walk_over command words).held

-- the walk over these words comes to what is held, without a fault
pub record Holds (shape : Shape) (first : List Word) (held : Held) : Type 0 where
  pub walks : (rest : List Word) → fold (walked shape.rules []) (start false nothing_held) (first ++ rest) ≡ fold (walked shape.rules []) (start false held) rest
  pub passes : (rest : List Word) → walk_fault shape [] (start false nothing_held) (first ++ rest) ≡ walk_fault shape [] (start false held) rest

-- what is held gives this with any files, and without them
pub record Makes {T : Type 0} (command : App) (make : List Row → Option T) (held : Held) (options : List Row) (gives : List Word → Option T) : Type 0 where
  pub new : has_row (codes "FILE") options ≡ false
  pub met : IsMet (built command).top held options
  pub clean : (done : List Word) (last : Word) → faults_from (built command) [] (after options false done last) ≡ []
  pub made : (done : List Word) (last : Word) → make (finished (built command).top.rules (after options false done last).held) ≡ gives (done ++ last ∷ [])
  pub clean_alone : faults_from (built command) [] (start false held) ≡ []
  pub made_alone : make (finished (built command).top.rules held) ≡ gives (codes "-" ∷ [])

module _ {T : Type 0} (command : App) (make : List Row → Option T) (name : Word) (is : IsWalked command name) where
  -- such words ask for what was found
  pub asked : (words : List Word) (final : Walk) → Ends (built command).top nothing_held words final → faults_from (built command) [] final ≡ []
      → asked_of command make (name ∷ words) ≡ make (finished (built command).top.rules final.held)
  asked words final ends clean =
      let none : fault_of command (name ∷ words) ≡ [] = is.fails words ∙ ap₂ (faults_from (built command)) ends.passes ends.walks ∙ clean in
      ap (λ (kinds : Kinds). if is_empty kinds then make (matches_of command (name ∷ words)) else None) none
      ∙ ap make (is.finds words) ∙ ap (λ (end : Walk). make (finished (built command).top.rules end.held)) ends.walks

  -- options and then files ask for what is made of both
  pub optioned : TakesFiles (built command).top → (first : List Word) (held : Held) (options : List Row) (gives : List Word → Option T)
      → Holds (built command).top first held → Makes command make held options gives → (names : List Word) → list_all is_plain names ≡ true
      → asked_of command make (name ∷ first ++ names) ≡ gives (or_standard_input names)
  unfolding walk_fault
  optioned takes first held options gives holds makes [] plain =
      asked (first ++ []) (start false held) (record { walks = holds.walks []; passes = holds.passes [] }) makes.clean_alone ∙ makes.made_alone
  optioned takes first held options gives holds makes (word ∷ words) plain =
      let ends = plain_end (built command).top takes options makes.new held makes.met word words plain in
      asked (first ++ word ∷ words) (after options false (front [] word words) (end word words))
      (record { walks = holds.walks (word ∷ words) ∙ ends.walks; passes = holds.passes (word ∷ words) ∙ ends.passes })
      (makes.clean (front [] word words) (end word words))
      ∙ makes.made (front [] word words) (end word words) ∙ ap gives (in_order [] word words)

-- ---- files alone

pub nothing_met : (shape : Shape) → IsMet shape nothing_held []
nothing_met shape = record { settles = refl; passes = refl; other = refl }

pub nothing_holds : (shape : Shape) → Holds shape [] nothing_held
nothing_holds shape = record { walks = λ rest. refl; passes = λ rest. refl }

pub once_or_alone : (names : List Word) → are_files names ≡ true → are_files (or_standard_input names) ≡ true
once_or_alone [] once = refl
once_or_alone (name ∷ names) once = once

-- ---- one option

-- what is held of an option whose value stands in a word of its own, or behind `=`
abbrev pub apart : Word → Word → Held
apart name value = record nothing_held { pending = Some (name, value ∷ []) }

abbrev pub joined : Row → Held
joined row = record nothing_held { rows = row ∷ [] }

-- what is found of an option with this value
abbrev pub row_of_value : Rule → Word → Row
row_of_value rule value = record { id = rule.id; values = value ∷ []; count = None; source = Some CommandLine; reading = reading_by (filled rule) }
