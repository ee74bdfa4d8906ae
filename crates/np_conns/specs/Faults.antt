-- How it is told why a text gave no connections.
use Rattle.std.specs.Prelude.{ℕ, List, codes}
use Rattle.np_conns.specs.Types.{BadConns, ConnsFault, NoMemory}

abbrev pub conns_fault_text : ConnsFault → List ℕ
conns_fault_text BadConns = codes "not the text of connections"
conns_fault_text NoMemory = codes "out of memory"
