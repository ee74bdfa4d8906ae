-- The names that a command line asks for, and which of their bytes are read for objects.
use Rattle.std.specs.Prelude.{ℕ, List, [], ◌∷◌, Option, Result, drop}
use Rattle.std.specs.Option.{option_map_or}
use Rattle.np_sample.specs.Prelude.{sample_text}
use Rattle.np_model.specs.declared.lists.EstateLists.{EstateLists}
use Rattle.np_command.specs.Prelude.{lists_of}
use Rattle.np_command.specs.declared.fault.Fault.{Fault}
use Rattle.np_args.specs.declared.job.Job.{Job}
use Rattle.np_args.specs.declared.job.Job.TheVariants.{Check, Evaluate, Explain, Exposure, Flatten, List as ListJob, Sample, Unused}

-- the names that a job reads, in order: of `check` the statement file stands first
abbrev pub input_names : Job → List (List ℕ)
input_names (ListJob format report controller focus side files) = files
input_names (Explain from to files) = files
input_names (Exposure workload format files) = files
input_names (Evaluate from to proto port files) = files
input_names (Unused files) = files
input_names (Check statement files) = statement ∷ files
input_names (Flatten files) = files
input_names (Sample n) = []

-- the names that the words ask for
abbrev pub names_asked : Option Job → List (List ℕ)
names_asked asked = option_map_or input_names asked []

-- ---- by the bytes of all of them

-- the bytes of the inputs that hold the objects: of `check` those behind the statement file
abbrev pub inputs_of : Job → List (List ℕ) → List (List ℕ)
inputs_of (Check statement files) texts = drop 1 texts
inputs_of job texts = texts

-- The bytes that hold the objects: of `check` those behind the statement file, and of `sample`, which reads none, those
-- of the sample itself.
abbrev pub object_texts : Job → List (List ℕ) → List (List ℕ)
object_texts (ListJob format report controller focus side files) texts = texts
object_texts (Explain from to files) texts = texts
object_texts (Exposure workload format files) texts = texts
object_texts (Evaluate from to proto port files) texts = texts
object_texts (Unused files) texts = texts
object_texts (Check statement files) texts = drop 1 texts
object_texts (Flatten files) texts = texts
object_texts (Sample n) texts = sample_text n ∷ []

-- what the bytes of a job say, or why they are refused
abbrev pub objects_of : Job → List (List ℕ) → Result EstateLists Fault
objects_of job texts = lists_of (object_texts job texts)
