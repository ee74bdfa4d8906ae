-- The command line of `evaluate`: clap is exact for it, and what its values make. For `EvaluateWordsCommandWords::job`.
use Rattle.std.proofs.Common.{◌≡◌, ◌∙◌, ℕ, ap, List, Option, Some, codes}
use Rattle.clap.specs.Walk.{Row}
use Rattle.np_addr.specs.Prelude.{◌>>=◌}
use Rattle.np_conns.specs.Prelude.{proto_named}
use Rattle.np_args.specs.Prelude.{EndWord, Evaluate as EvaluateJob, Job, Proto, Word, evaluate_of, files_in, number_to, packet_end_of, value_in}

-- the packet of these values, where each is there
abbrev pub packet_of : Option Proto → Option ℕ → Option (List Word) → Option EndWord → Option EndWord → Option Job
packet_of proto port files from to = do
  one ← proto
  two ← port
  three ← files
  four ← from
  five ← to
  Some (EvaluateJob four five one two three)

pub evaluate_of-values : (rows : List Row) (proto : Option Proto) (port : Option ℕ) (files : Option (List Word)) (from to : Option EndWord)
    → value_in proto_named (codes "protocol") rows ≡ proto → value_in (number_to 65535) (codes "port") rows ≡ port → files_in rows ≡ files
    → value_in packet_end_of (codes "from") rows ≡ from → value_in packet_end_of (codes "to") rows ≡ to → evaluate_of rows ≡ packet_of proto port files from to
evaluate_of-values rows proto port files from to one two three four five =
    ap (λ (value : Option Proto). packet_of value (value_in (number_to 65535) (codes "port") rows) (files_in rows) (value_in packet_end_of (codes "from") rows) (value_in packet_end_of (codes "to") rows)) one
    ∙ ap (λ (value : Option ℕ). packet_of proto value (files_in rows) (value_in packet_end_of (codes "from") rows) (value_in packet_end_of (codes "to") rows)) two
    ∙ ap (λ (value : Option (List Word)). packet_of proto port value (value_in packet_end_of (codes "from") rows) (value_in packet_end_of (codes "to") rows)) three
    ∙ ap (λ (value : Option EndWord). packet_of proto port files value (value_in packet_end_of (codes "to") rows)) four
    ∙ ap (packet_of proto port files from) five
