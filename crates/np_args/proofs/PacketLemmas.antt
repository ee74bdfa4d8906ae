-- What the words of `evaluate` ask for. For `packet_is_read_of_its_options`.
use Rattle.std.proofs.Common.{◌≡◌, ◌∙◌, ◌++◌, ℕ, [], ◌∷◌, Option, Some, ap, codes, refl}
use Rattle.clap.proofs.OnLiterals.{clap_on_literals}
use Rattle.np_conns.specs.Prelude.{proto_named}
use Rattle.np_args.specs.Prelude.{EndWord, Evaluate as EvaluateJob, Proto, Word, job_of, number_to, packet_end_of}
use Rattle.np_args.proofs.EvaluateLemmas.{packet_of}

-- the four options, and no file
asked_packet : (from to proto port : Word)
    → job_of (codes "evaluate" ∷ (codes "--from=" ++ from) ∷ (codes "--to=" ++ to) ∷ (codes "--protocol=" ++ proto) ∷ (codes "--port=" ++ port) ∷ [])
    ≡ packet_of (proto_named proto) (number_to 65535 port) (Some (codes "-" ∷ [])) (packet_end_of from) (packet_end_of to)
unfolding clap_on_literals
asked_packet from to proto port = refl

pub packet_job : (from to proto port : Word) (source destination : EndWord) (named : Proto) (number : ℕ) → packet_end_of from ≡ Some source → packet_end_of to ≡ Some destination
    → proto_named proto ≡ Some named → number_to 65535 port ≡ Some number
    → job_of (codes "evaluate" ∷ (codes "--from=" ++ from) ∷ (codes "--to=" ++ to) ∷ (codes "--protocol=" ++ proto) ∷ (codes "--port=" ++ port) ∷ [])
    ≡ Some (EvaluateJob source destination named number (codes "-" ∷ []))
packet_job from to proto port source destination named number one two three four =
    asked_packet from to proto port
    ∙ ap (λ (value : Option Proto). packet_of value (number_to 65535 port) (Some (codes "-" ∷ [])) (packet_end_of from) (packet_end_of to)) three
    ∙ ap (λ (value : Option ℕ). packet_of (Some named) value (Some (codes "-" ∷ [])) (packet_end_of from) (packet_end_of to)) four
    ∙ ap (λ (value : Option EndWord). packet_of (Some named) (Some number) (Some (codes "-" ∷ [])) value (packet_end_of to)) one
    ∙ ap (packet_of (Some named) (Some number) (Some (codes "-" ∷ [])) (Some source)) two
