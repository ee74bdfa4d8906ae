-- The text of a statement, as one would write it.
use Rattle.std.specs.Prelude.{◌≡◌, ℕ, List, ◌++◌, true, false, ◌&&◌, codes}
use Rattle.np_addr.specs.Prelude.{IsAddress, IsCidr, base_of, cidr_text}
use Rattle.np_statements.specs.StatementGrammar.{IsWorkText, is_address_form, wanted_text}
use Rattle.np_statements.specs.Types.{Addresses, Block, EndForm, Namespace, Pods, StatementText, Work}
use Rattle.np_conns.specs.Prelude.{IsConns, conns_text, has_spot}
use Rattle.np_model.specs.Prelude.{is_name}

abbrev pub end_text : EndForm → List ℕ
end_text Pods = codes "any pod"
end_text Addresses = codes "any address"
end_text (Namespace name) = codes "namespace " ++ name
end_text (Work name) = codes "workload " ++ name
end_text (Block cidr) = cidr_text cidr

abbrev pub statement_text : StatementText → List ℕ
statement_text statement =
    wanted_text statement.wanted ++ (codes " " ++ (end_text statement.source ++ (codes " => " ++ (end_text statement.destination ++ (codes " : " ++ conns_text (has_spot statement.conns))))))

-- names are names, and blocks have no host bits
abbrev pub IsWellEnd : EndForm → Type 0
IsWellEnd Pods = Unit {0}
IsWellEnd Addresses = Unit {0}
IsWellEnd (Namespace name) = is_name name ≡ true
IsWellEnd (Work name) = IsWorkText name
IsWellEnd (Block cidr) = IsAddress (base_of cidr) × IsCidr cidr

pub record IsWellStatement (statement : StatementText) : Type 0 where
  pub source_well : IsWellEnd statement.source
  pub destination_well : IsWellEnd statement.destination
  pub one_side : (is_address_form statement.source && is_address_form statement.destination) ≡ false
  pub conns_well : IsConns statement.conns
