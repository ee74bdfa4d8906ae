-- The statement of a line, read by its grammar.
use Rattle.std.specs.Prelude.{ℕ, List, [], ◌∷◌, ◌++◌, Bool, ◌&&◌, not, codes, Option, Some, None, option_map, if◌then◌else◌}
use Rattle.std.specs.Option.{option_and_then}
use Rattle.std.specs.Str.{bytes_eq}
use Rattle.np_addr.specs.Prelude.{cidr_of, ◌>>=◌}
use Rattle.np_check.specs.Prelude.{first_given}
use Rattle.np_statements.specs.StatementGrammar.{is_address_form, wanted_text}
use Rattle.np_statements.specs.Types.{Addresses, Allow, Block, Deny, EndForm, Namespace, Pods, StatementText, Wanted, Work}
use Rattle.np_model.specs.Prelude.{has_slash, is_name}
use Rattle.np_statements.specs.Cuts.{behind, first_cut, has_mark}
use Rattle.np_statements.specs.ReadConns.{conns_read}

-- ---- ends

-- the name of a workload has a `/`, and neither of the two marks that stand behind the sides of a line
unfoldable pub is_work_text : List ℕ → Bool
is_work_text name = has_slash name && not (has_mark (codes " => ") name) && not (has_mark (codes " : ") name)

-- what a text names, form by form
abbrev pub all_pods_form : List ℕ → Option EndForm
all_pods_form text = if bytes_eq text (codes "any pod") then Some Pods else None

abbrev pub all_addresses : List ℕ → Option EndForm
all_addresses text = if bytes_eq text (codes "any address") then Some Addresses else None

abbrev pub namespace_form : List ℕ → Option EndForm
namespace_form text = do
  name ← behind (codes "namespace ") text
  if is_name name then Some (Namespace name) else None

abbrev pub workload_form : List ℕ → Option EndForm
workload_form text = do
  name ← behind (codes "workload ") text
  if is_work_text name then Some (Work name) else None

abbrev pub block_form : List ℕ → Option EndForm
block_form text = option_map Block (cidr_of text)

-- the ends that a text names
unfoldable pub end_read : List ℕ → Option EndForm
end_read text = first_given (λ form. form text) (all_pods_form ∷ all_addresses ∷ namespace_form ∷ workload_form ∷ block_form ∷ [])

-- ---- lines

-- what is said between two sides, of which one has no addresses
unfoldable pub said_between : Wanted → List ℕ → List ℕ → List ℕ → Option StatementText
said_between wanted source destination conns = do
  from ← end_read source
  to ← end_read destination
  set ← conns_read conns
  if is_address_form from && is_address_form to then None else Some (record { wanted = wanted; source = from; destination = to; conns = set })

-- what is said behind `allow ` or `deny `: ends, ` => `, ends, ` : `, and connections
unfoldable pub said : Wanted → List ℕ → Option StatementText
said wanted sides = first_cut (codes " => ") (λ source. first_cut (codes " : ") (said_between wanted source)) sides

-- the statement of a line
unfoldable pub statement_read : List ℕ → Option StatementText
statement_read line = first_given (λ wanted. option_and_then (said wanted) (behind (wanted_text wanted ++ codes " ") line)) (Allow ∷ Deny ∷ [])
