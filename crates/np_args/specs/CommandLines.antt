-- What the words of a command line ask for.
use Rattle.std.specs.Prelude.{◌∷◌, [], List, None, Option, String, codes, map, option_and_then, string_bytes}
use Rattle.std.specs.Map.{lookup}
use Rattle.std.specs.Str.{bytes_eq}
use Rattle.std.specs.declared.alloc.Global.{Global}
use Rattle.np_args.specs.Arguments.{asked_of}
use Rattle.np_args.specs.CheckWords.{check_command, check_of}
use Rattle.np_args.specs.EvaluateWords.{evaluate_command, evaluate_of}
use Rattle.np_args.specs.ExplainWords.{explain_command, explain_of}
use Rattle.np_args.specs.ExposureWords.{exposure_command, exposure_of}
use Rattle.np_args.specs.FileWords.{files_command, files_of}
use Rattle.np_args.specs.ListWords.{list_command, list_job_of}
use Rattle.np_args.specs.SampleWords.{sample_command, sample_of}
use Rattle.np_args.specs.Values.{Word}
use Rattle.np_args.specs.Types.{Flatten as FlattenJob, Job, Unused as UnusedJob}

-- what the words of each command ask for, by its name
abbrev pub jobs : List (Word × (List Word → Option Job))
jobs = (codes "list", asked_of list_command list_job_of) ∷ (codes "explain", asked_of explain_command explain_of)
    ∷ (codes "exposure", asked_of exposure_command exposure_of) ∷ (codes "evaluate", asked_of evaluate_command evaluate_of)
    ∷ (codes "unused", asked_of (files_command (codes "unused")) (files_of UnusedJob)) ∷ (codes "check", asked_of check_command check_of)
    ∷ (codes "flatten", asked_of (files_command (codes "flatten")) (files_of FlattenJob)) ∷ (codes "sample", asked_of sample_command sample_of) ∷ []

-- The first word is the command. Words that begin with no command ask for nothing.
abbrev pub job_of : List Word → Option Job
job_of [] = None
job_of (command ∷ rest) = option_and_then (λ job. job (command ∷ rest)) (lookup (bytes_eq command) jobs)

-- what a command line asks for
abbrev pub asked_by : List (String Global) → Option Job
asked_by words = job_of (map string_bytes words)
