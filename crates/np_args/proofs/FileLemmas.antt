-- How clap walks over words that name files, of a command that has FILE as its one positional. For BehindLemmas, CheckLemmas and 7 more.
use Rattle.std.proofs.Common.{◌≡◌, ◌∙◌, ◌⊎◌, ◌==◌, ◌&&◌, ◌||◌, ◌++◌, ap, List, [], append-nil, append_assoc, ◌∷◌, Bool, true, false, Option, Some, None, codes, fold, if◌then◌else◌, inl, inr, not, refl, sym, true≢false}
use Rattle.std.proofs.lemmas.Bool.{or_parts}
use Rattle.std.specs.List.{list_all}
use Rattle.std.specs.Option.{option_map_or}
use Rattle.std.specs.Str.{bytes_eq}
use Rattle.clap.proofs.WalkLemmas.{both}
use Rattle.clap.specs.Faults.{positional_fault, settle_fault, stray_fault, turn_fault, use_fault, walk_fault}
use Rattle.clap.specs.Kinds.{Kinds, or_else}
use Rattle.clap.specs.Lexer.{long_of, short_of}
use Rattle.clap.specs.Simple.{Shape, filled, with_index}
use Rattle.clap.specs.Walk.{Held, Row, Rule, Step, Walk, Waiting, after_step, arg_by_id, arg_by_index, at_row, has_row, idle, is_pending, more_values, positional, positional_held, pushed, reading_by, settled, settled_rows, takes_several, to_positional, used_by_id, value, walked, word_met}
use Rattle.clap.specs.declared.parser.matches.ValueSource.TheVariants.{CommandLine}
use Rattle.np_args.specs.Prelude.{Word, file_rule, is_empty, is_plain}

-- ---- the command

-- FILE, the one positional
abbrev pub file : Rule
file = with_index 1 (filled file_rule)

-- a command that has FILE as its one positional
pub record TakesFiles (shape : Shape) : Type 0 where
  pub by_place : arg_by_index shape.rules 1 ≡ Some file
  pub by_name : arg_by_id shape.rules (codes "FILE") ≡ Some file

-- ---- where the walk stands

-- what was found of these files
abbrev pub rows_for : List Word → List Row
rows_for [] = []
rows_for (one ∷ more) = record { id = codes "FILE"; values = one ∷ more; count = None; source = Some CommandLine; reading = reading_by file } ∷ []

-- before the first file, after `--` or not
abbrev pub start : Bool → Held → Walk
start trailing held = record { held = held; waiting = idle; position = 1; is_trailing = trailing; stopped = None }

-- what is held where these options were met, and nothing else
pub record IsMet (shape : Shape) (held : Held) (options : List Row) : Type 0 where
  pub settles : settled shape.rules held ≡ record { rows = options ++ rows_for []; pending = None; skip = 0 }
  pub passes : settle_fault shape.rules shape.args_override_self held ≡ []
  pub other : is_pending file held.pending ≡ false

-- ---- one word

-- a plain word is no `--`, no long option and no bundle of short ones
pub record IsNoOption (word : Word) : Type 0 where
  pub hyphens : bytes_eq word (45 ∷ 45 ∷ []) ≡ false
  pub long : long_of word ≡ None
  pub short : short_of word ≡ None

pub plain_words : (word : Word) → is_plain word ≡ true → IsNoOption word
plain_words [] plain = record { hyphens = refl; long = refl; short = refl }
plain_words (first ∷ rest) plain = go (first == 45) refl rest plain
  where
    go : (b : Bool) → (first == 45) ≡ b → (rest : Word) → (not b || is_empty rest) ≡ true → IsNoOption (first ∷ rest)
    go false other rest plain = record { hyphens = rw other refl; long = rw other refl; short = rw other refl }
    go true same [] plain = record { hyphens = rw same refl; long = rw same refl; short = rw same refl }
    go true same (second ∷ rest) plain = absurd (true≢false (sym plain))

-- a word that names a file
met : (rules : List Rule) (trailing : Bool) (waiting : Waiting) (word : Word) (held : Held) → (trailing || is_plain word) ≡ true
    → (waiting ≡ idle) ⊎ (waiting ≡ positional) → word_met rules [] trailing waiting 1 word held ≡ (held, value)
met rules true waiting word held names stands = refl
met rules false waiting word held names (inl is) = let no = plain_words word names in rw (is, no.hyphens, no.long, no.short) refl
met rules false waiting word held names (inr is) = let no = plain_words word names in rw (is, no.hyphens, no.long, no.short) refl

-- ---- many words

-- all files but the last, and the last
abbrev pub front : List Word → Word → List Word → List Word
front done last [] = done
front done last (word ∷ words) = front (done ++ last ∷ []) word words

abbrev pub end : Word → List Word → Word
end last [] = last
end last (word ∷ words) = end word words

pub in_order : (done : List Word) (last : Word) (words : List Word) → front done last words ++ end last words ∷ [] ≡ done ++ last ∷ words
in_order done last [] = refl
in_order done last (word ∷ words) = in_order (done ++ last ∷ []) word words ∙ append_assoc done (last ∷ []) (word ∷ words)

-- whether words stand behind `--`, or could stand before it
abbrev pub name_files : Bool → List Word → Bool
name_files trailing words = trailing || list_all is_plain words

split : (trailing : Bool) (word : Word) (words : List Word) → name_files trailing (word ∷ words) ≡ true → ((trailing || is_plain word) ≡ true) × (name_files trailing words ≡ true)
split true word words names = (refl, refl)
split false word words names = both (is_plain word) (list_all is_plain words) names

-- rows of other arguments stay where they are
at_row-behind : (id : Word) (change : Row → List Row) (missing options rows : List Row) → has_row id options ≡ false
    → at_row id change missing (options ++ rows) ≡ options ++ at_row id change missing rows
at_row-behind id change missing [] rows new = refl
at_row-behind id change missing (row ∷ options) rows new =
    let parts = or_parts (bytes_eq row.id id) (has_row id options) new in
    rw parts.0 (ap (λ (rest : List Row). row ∷ rest) (at_row-behind id change missing options rows parts.1))

-- Words are walked over to an end without a fault.
pub record Ends (shape : Shape) (held : Held) (words : List Word) (final : Walk) : Type 0 where
  pub walks : fold (walked shape.rules []) (start false held) words ≡ final
  pub passes : walk_fault shape [] (start false held) words ≡ []

-- after some files behind options, of which the last is not noted yet
abbrev pub after : List Row → Bool → List Word → Word → Walk
after options trailing done last = record {
  held = record { rows = options ++ rows_for done; pending = Some (codes "FILE", last ∷ []); skip = 0 };
  waiting = positional;
  position = 1;
  is_trailing = trailing;
  stopped = None;
}

-- ---- files behind options

module _ (shape : Shape) (takes : TakesFiles shape) (options : List Row) (new : has_row (codes "FILE") options ≡ false) where
  noted : (done : List Word) (last : Word) → settled_rows shape.rules (Some (codes "FILE", last ∷ [])) (options ++ rows_for done) ≡ options ++ rows_for (done ++ last ∷ [])
  noted done last =
      ap (λ (found : Option Rule). used_by_id found (last ∷ []) (options ++ rows_for done)) takes.by_name
      ∙ at_row-behind (codes "FILE") (more_values CommandLine (last ∷ [])) (rows_for (last ∷ [])) options (rows_for done) new ∙ ap (λ (rows : List Row). options ++ rows) (more done)
    where
      more : (done : List Word) → at_row (codes "FILE") (more_values CommandLine (last ∷ [])) (rows_for (last ∷ [])) (rows_for done) ≡ rows_for (done ++ last ∷ [])
      more [] = refl
      more (one ∷ others) = refl

  -- the walk after one more file
  first_held : (held : Held) → IsMet shape held options → (word : Word) → positional_held shape.rules file word held ≡ (after options false [] word).held
  first_held held is word =
      ap (λ (pending : Bool). pushed (codes "FILE") word (if pending && takes_several file then held else settled shape.rules held)) is.other
      ∙ ap (pushed (codes "FILE") word) is.settles

  first_taken : (held : Held) → IsMet shape held options → (trailing : Bool) (word : Word)
      → to_positional shape.rules (arg_by_index shape.rules 1) word (start trailing held) held ≡ after options trailing [] word
  first_taken held is trailing word = ap (λ (found : Option Rule). to_positional shape.rules found word (start trailing held) held) takes.by_place ∙ at_place trailing
    where
      at_place : (trailing : Bool) → to_positional shape.rules (Some file) word (start trailing held) held ≡ after options trailing [] word
      at_place true = ap (λ (one : Held). record (after options true [] word) { held = one }) (first_held held is word)
      at_place false = ap (λ (one : Held). record (after options false [] word) { held = one }) (first_held held is word)

  first_file : (held : Held) → IsMet shape held options → (trailing : Bool) (word : Word) → (trailing || is_plain word) ≡ true
      → walked shape.rules [] (start trailing held) word ≡ after options trailing [] word
  unfolding walked
  first_file held is trailing word names =
      ap (λ (taken : Held × Step). after_step shape.rules word (start trailing held) taken.0 taken.1) (met shape.rules trailing idle word held names (inl refl))
      ∙ first_taken held is trailing word

  next_taken : (trailing : Bool) (done : List Word) (last word : Word)
      → to_positional shape.rules (arg_by_index shape.rules 1) word (after options trailing done last) (after options trailing done last).held
      ≡ after options trailing (done ++ last ∷ []) word
  next_taken trailing done last word =
      ap (λ (found : Option Rule). to_positional shape.rules found word (after options trailing done last) (after options trailing done last).held) takes.by_place ∙ at_place trailing
    where
      at_place : (trailing : Bool) →
          to_positional shape.rules (Some file) word (after options trailing done last) (after options trailing done last).held ≡ after options trailing (done ++ last ∷ []) word
      at_place true = ap (λ (rows : List Row). record (after options true done word) { held = record { rows = rows; pending = Some (codes "FILE", word ∷ []); skip = 0 } }) (noted done last)
      at_place false = ap (λ (rows : List Row). record (after options false done word) { held = record { rows = rows; pending = Some (codes "FILE", word ∷ []); skip = 0 } }) (noted done last)

  next_file : (trailing : Bool) (done : List Word) (last word : Word) → (trailing || is_plain word) ≡ true
      → walked shape.rules [] (after options trailing done last) word ≡ after options trailing (done ++ last ∷ []) word
  unfolding walked
  next_file trailing done last word names =
      ap (λ (taken : Held × Step). after_step shape.rules word (after options trailing done last) taken.0 taken.1)
      (met shape.rules trailing positional word (after options trailing done last).held names (inr refl))
      ∙ next_taken trailing done last word

  -- no such word is refused
  abbrev place_fault : Held → Kinds
  place_fault held = option_map_or (λ rule. positional_fault shape.rules shape.args_override_self rule held) (arg_by_index shape.rules 1) (stray_fault shape)

  placed : (held : Held) → place_fault held ≡ positional_fault shape.rules shape.args_override_self file held
  placed held =
      ap (λ (found : Option Rule). option_map_or (λ rule. positional_fault shape.rules shape.args_override_self rule held) found (stray_fault shape)) takes.by_place

  first_fault : (held : Held) → IsMet shape held options → place_fault held ≡ []
  first_fault held is =
      placed held
      ∙ ap (λ (pending : Bool). if pending && takes_several file then [] else settle_fault shape.rules shape.args_override_self held) is.other ∙ is.passes

  first_passes : (held : Held) → IsMet shape held options → (trailing : Bool) (word : Word) → (trailing || is_plain word) ≡ true
      → turn_fault shape [] (start trailing held) word ≡ []
  first_passes held is true word names = first_fault held is
  first_passes held is false word names = let no = plain_words word names in rw (no.hyphens, no.long, no.short) (first_fault held is)

  next_fault : (trailing : Bool) (done : List Word) (last : Word) → place_fault (after options trailing done last).held ≡ []
  next_fault trailing done last =
      placed (after options trailing done last).held
      ∙ ap (λ (found : Option Rule). option_map_or (λ rule. use_fault shape.args_override_self rule (last ∷ []) (options ++ rows_for done)) found []) takes.by_name

  next_passes : (trailing : Bool) (done : List Word) (last word : Word) → (trailing || is_plain word) ≡ true
      → turn_fault shape [] (after options trailing done last) word ≡ []
  next_passes true done last word names = next_fault true done last
  next_passes false done last word names = let no = plain_words word names in rw (no.hyphens, no.long, no.short) (next_fault false done last)

  -- Words that name files are walked over, whatever stands behind them.
  walks : (tail : List Word) (trailing : Bool) (done : List Word) (last : Word) (words : List Word) → name_files trailing words ≡ true
      → fold (walked shape.rules []) (after options trailing done last) (words ++ tail) ≡ fold (walked shape.rules []) (after options trailing (front done last words) (end last words)) tail
  walks tail trailing done last [] names = refl
  walks tail trailing done last (word ∷ words) names =
      let parts = split trailing word words names in
      ap (λ (walk : Walk). fold (walked shape.rules []) walk (words ++ tail)) (next_file trailing done last word parts.0)
      ∙ walks tail trailing (done ++ last ∷ []) word words parts.1

  passes : (tail : List Word) (trailing : Bool) (done : List Word) (last : Word) (words : List Word) → name_files trailing words ≡ true
      → walk_fault shape [] (after options trailing done last) (words ++ tail) ≡ walk_fault shape [] (after options trailing (front done last words) (end last words)) tail
  unfolding walk_fault
  passes tail trailing done last [] names = refl
  passes tail trailing done last (word ∷ words) names =
      let parts = split trailing word words names in
      ap (λ (kinds : Kinds). or_else kinds (walk_fault shape [] (walked shape.rules [] (after options trailing done last) word) (words ++ tail))) (next_passes trailing done last word parts.0)
      ∙ ap (λ (walk : Walk). walk_fault shape [] walk (words ++ tail)) (next_file trailing done last word parts.0)
      ∙ passes tail trailing (done ++ last ∷ []) word words parts.1

  -- the same from before the first file on
  first_walks : (tail : List Word) (held : Held) → IsMet shape held options → (trailing : Bool) (word : Word) (words : List Word) → name_files trailing (word ∷ words) ≡ true
      → fold (walked shape.rules []) (start trailing held) (word ∷ words ++ tail) ≡ fold (walked shape.rules []) (after options trailing (front [] word words) (end word words)) tail
  first_walks tail held is trailing word words names =
      let parts = split trailing word words names in
      ap (λ (at : Walk). fold (walked shape.rules []) at (words ++ tail)) (first_file held is trailing word parts.0) ∙ walks tail trailing [] word words parts.1

  pub first_all_pass : (tail : List Word) (held : Held) → IsMet shape held options → (trailing : Bool) (word : Word) (words : List Word) → name_files trailing (word ∷ words) ≡ true
      → walk_fault shape [] (start trailing held) (word ∷ words ++ tail) ≡ walk_fault shape [] (after options trailing (front [] word words) (end word words)) tail
  unfolding walk_fault
  first_all_pass tail held is trailing word words names =
      let parts = split trailing word words names in
      ap (λ (kinds : Kinds). or_else kinds (walk_fault shape [] (walked shape.rules [] (start trailing held) word) (words ++ tail))) (first_passes held is trailing word parts.0)
      ∙ ap (λ (at : Walk). walk_fault shape [] at (words ++ tail)) (first_file held is trailing word parts.0) ∙ passes tail trailing [] word words parts.1

  -- ---- words before `--` and behind it

  pub plain_end : (held : Held) → IsMet shape held options → (word : Word) (words : List Word) → list_all is_plain (word ∷ words) ≡ true
      → Ends shape held (word ∷ words) (after options false (front [] word words) (end word words))
  unfolding walk_fault
  plain_end held is word words plain = record {
    walks = ap (λ (rest : List Word). fold (walked shape.rules []) (start false held) (word ∷ rest)) (sym (append-nil words)) ∙ first_walks [] held is false word words plain;
    passes = ap (λ (rest : List Word). walk_fault shape [] (start false held) (word ∷ rest)) (sym (append-nil words)) ∙ first_all_pass [] held is false word words plain;
  }

  -- behind `--` the first word is one more file, whatever it begins with
  pub begun_end : (held : Held) → IsMet shape held options → (word : Word) (words : List Word)
      → Ends shape held (codes "--" ∷ word ∷ words) (after options true (front [] word words) (end word words))
  unfolding walk_fault walked
  begun_end held is word words = record {
    walks = ap (λ (rest : List Word). fold (walked shape.rules []) (start true held) (word ∷ rest)) (sym (append-nil words)) ∙ first_walks [] held is true word words refl;
    passes = ap (λ (rest : List Word). walk_fault shape [] (start true held) (word ∷ rest)) (sym (append-nil words)) ∙ first_all_pass [] held is true word words refl;
  }

  pub split_end : (held : Held) → IsMet shape held options → (word : Word) (words others : List Word) → list_all is_plain (word ∷ words) ≡ true
      → Ends shape held (word ∷ words ++ codes "--" ∷ others) (after options true (front (front [] word words) (end word words) others) (end (end word words) others))
  unfolding walk_fault walked
  split_end held is word words others plain =
      let tail = codes "--" ∷ others in
      let done = front [] word words in
      let last = end word words in record {
        walks =
            first_walks tail held is false word words plain
            ∙ ap (fold (walked shape.rules []) (after options true done last)) (sym (append-nil others)) ∙ walks [] true done last others refl;
        passes =
            first_all_pass tail held is false word words plain
            ∙ ap (walk_fault shape [] (after options true done last)) (sym (append-nil others)) ∙ passes [] true done last others refl;
      }
