-- Valid port entries of NetworkPolicies are read. For ValidAdminReads, ValidNetworkReads and 2 more.
use Rattle.std.proofs.Common.{◌≡◌, ◌≤◌, ◌⊎◌, ℕ, List, Some, None, Ok, codes, refl, inl, inr, unwrap_or}
use Rattle.std.proofs.lemmas.Bool.{le-leb}
use Rattle.serde_json.specs.Data.{Data, array, boolean, null, number, object, string}
use Rattle.serde_json.specs.Find.{as_str}
use Rattle.np_conns.specs.declared.proto.Proto.TheVariants as proto
use Rattle.np_json.specs.Prelude.{as_whole, port, protocol_name, refuse_if}
use Rattle.np_meaning.proofs.ValidNames.{label-word-all, not_empty}
use Rattle.np_meaning.proofs.ValidReads.{Reads, given-read, none-read, object-reads, optional-reads}
use Rattle.np_meaning.specs.Types.{Name}
use Rattle.np_meaning.specs.ValidMembers.{IsText, MayHave}
use Rattle.np_meaning.specs.ValidPolicies.{IsCalled, IsNumbered, IsOpen, IsPort, IsPortName, IsProtocol, IsSomePort, IsValidPort, sctp, tcp, udp}
use Rattle.np_policies.specs.Prelude.{container_port_name, end_port, net_port, net_port_by, port_value, protocol}
use Rattle.np_policies.specs.declared.net_port_shape.PortValue.TheVariants.{Number}

pub protocol-reads : (value : Data) → IsText IsProtocol value → Reads (protocol_name value)
unfolding protocol_name
protocol-reads value is = by is.2
  where
    by : IsProtocol is.0 → Reads (protocol_name value)
    by (tcp same) = (proto.Tcp, rw (is.1, same) refl)
    by (udp same) = (proto.Udp, rw (is.1, same) refl)
    by (sctp same) = (proto.Sctp, rw (is.1, same) refl)

pub protocol_at-reads : (value : Data) → MayHave (codes "protocol") (IsText IsProtocol) value → Reads (protocol value)
unfolding protocol
protocol_at-reads value may = let read = optional-reads protocol_name (IsText IsProtocol) protocol-reads (codes "protocol") value may in (unwrap_or read.0 proto.Tcp, rw read.1 refl)

-- ---- numbers and names

pub port-read : (n : ℕ) (value : Data) → IsPort n value → port value ≡ Ok n
unfolding port
port-read n value is = rw (is.whole, le-leb 1 n is.least, le-leb n 65535 is.most) refl

pub some_port-reads : (value : Data) → IsSomePort value → Reads (port value)
some_port-reads value is = (is.0, port-read is.0 value is.1)

number-read : (n : ℕ) (value : Data) → IsPort n value → port_value value ≡ Ok (Number n)
unfolding port_value
number-read n value is = rw (is.whole, le-leb 1 n is.least, le-leb n 65535 is.most) refl

-- a text is no number
pub no_number : (value : Data) (s : List ℕ) → as_str value ≡ Some s → as_whole value ≡ None
no_number null s is = cc
no_number (boolean b) s is = cc
no_number (number n) s is = cc
no_number (string t) s is = refl
no_number (array items) s is = cc
no_number (object entries) s is = cc

pub port_name-read : (value : Data) (is : IsText IsPortName value) → container_port_name value ≡ Ok is.0
unfolding container_port_name refuse_if
port_name-read value is = rw (is.1, not_empty is.0 is.2.some, label-word-all is.0 is.2.bytes) refl

called-read : (value : Data) (is : IsText IsPortName value) → port_value value ≡ Ok (Name is.0)
unfolding port_value
called-read value is = rw (no_number value is.0 is.1, port_name-read value is) refl

-- the last port of a range
end-reads : (first : ℕ) (found : Data) → (last : ℕ) × IsPort last found × (first ≤ last) → Reads (end_port (Some first) found)
unfolding end_port refuse_if
end-reads first found last = (last.0, rw (port-read last.0 found last.1, le-leb first last.0 last.2) refl)

-- ---- entries

pub net_port-reads : (value : Data) → IsValidPort value → Reads (net_port value)
unfolding net_port
net_port-reads value is = by is.ports
  where
    named : Reads (protocol value)
    named = protocol_at-reads value is.protocol

    by : IsNumbered value ⊎ (IsCalled value ⊎ IsOpen value) → Reads (net_port value)
    by (inl one) =
        let first = given-read port_value (codes "port") value one.port.0 (Number one.first) one.port.1 (number-read one.first one.port.0 one.port.2) in
        let last = optional-reads (end_port (Some one.first)) (λ found. (last : ℕ) × IsPort last found × (one.first ≤ last)) (end-reads one.first) (codes "endPort") value one.last in
        (net_port_by named.0 (Some (Number one.first)) last.0, rw ((object-reads value is.object).1, named.1, first, last.1) refl)
    by (inr (inl one)) =
        let called = given-read port_value (codes "port") value one.port.0 (Name one.port.2.0) one.port.1 (called-read one.port.0 one.port.2) in
        (net_port_by named.0 (Some (Name one.port.2.0)) None, rw ((object-reads value is.object).1, named.1, called, none-read (end_port None) (codes "endPort") value one.no_last) refl)
    by (inr (inr one)) = (
      net_port_by named.0 None None,
      rw (
        (object-reads value is.object).1,
        named.1,
        none-read port_value (codes "port") value one.no_port,
        none-read (end_port None) (codes "endPort") value one.no_last,
      ) refl,
    )
