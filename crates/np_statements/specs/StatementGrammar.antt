-- The lines of statements, by how they are put together.
use Rattle.std.specs.Prelude.{◌≡◌, ◌≢◌, ℕ, List, ◌++◌, Bool, true, false, ◌&&◌, Some, codes}
use Rattle.np_addr.specs.Prelude.{cidr_of}
use Rattle.np_statements.specs.Types.{Addresses, Allow, Block, Deny, EndForm, Namespace, Pods, StatementText, Wanted, Work}
use Rattle.np_conns.specs.Prelude.{IsConns, conns_text, has_spot}
use Rattle.np_model.specs.Prelude.{has_slash, is_name}

-- ---- ends

-- the second text stands nowhere in the first
abbrev pub Lacks : List ℕ → List ℕ → Type 0
Lacks text part = (before after : List ℕ) → text ≢ before ++ (part ++ after)

-- the name of a workload has a `/`, and neither of the two marks that stand behind the sides of a line
pub record IsWorkText (name : List ℕ) : Type 0 where
  pub slash : has_slash name ≡ true
  pub no_arrow : Lacks name (codes " => ")
  pub no_colon : Lacks name (codes " : ")

-- the text names these ends
abbrev pub IsEndText : List ℕ → EndForm → Type 0
IsEndText text Pods = text ≡ codes "any pod"
IsEndText text Addresses = text ≡ codes "any address"
IsEndText text (Namespace name) = (text ≡ codes "namespace " ++ name) × (is_name name ≡ true)
IsEndText text (Work name) = (text ≡ codes "workload " ++ name) × IsWorkText name
IsEndText text (Block cidr) = cidr_of text ≡ Some cidr

-- ---- lines

abbrev pub wanted_text : Wanted → List ℕ
wanted_text Allow = codes "allow"
wanted_text Deny = codes "deny"

-- whether the ends are addresses
abbrev pub is_address_form : EndForm → Bool
is_address_form Addresses = true
is_address_form (Block cidr) = true
is_address_form other = false

-- `allow` or `deny`, a space, ends, ` => `, ends, ` : `, and connections
abbrev pub IsSpelled : List ℕ → Wanted → List ℕ → List ℕ → List ℕ → Type 0
IsSpelled line wanted source destination conns =
    line ≡ wanted_text wanted ++ (codes " " ++ (source ++ (codes " => " ++ (destination ++ (codes " : " ++ conns)))))

-- The line is spelled so, by the texts of the ends and of the connections. One of the two sides has no addresses.
pub record IsStatementText (line : List ℕ) (statement : StatementText) : Type 0 where
  pub source : List ℕ
  pub destination : List ℕ
  pub conns : List ℕ
  pub spelled : IsSpelled line statement.wanted source destination conns
  pub source_text : IsEndText source statement.source
  pub destination_text : IsEndText destination statement.destination
  pub one_side : (is_address_form statement.source && is_address_form statement.destination) ≡ false
  pub conns_text : conns ≡ conns_text (has_spot statement.conns)
  pub well : IsConns statement.conns
