-- A port entry that was read is what its members say. For `port_entries_mean_their_members`.
use Rattle.std.proofs.Common.{◌≡◌, ℕ, ℤ, pos, List, length, not, ◌==◌, Option, Some, None, unwrap_or, codes, Ok, refl, sym, ap, subst, ◌∙◌}
use Rattle.serde_json.specs.Data.{Data, object, no_members, string}
use Rattle.np_meaning.specs.Prelude.{BadField, BadPort, Name, NetPort, PortValue, Proto, Tcp, number_at, protocol_of}
use Rattle.np_policies.specs.declared.net_port_shape.PortValue.TheVariants.{Number}
use Rattle.np_json.specs.Prelude.{Read, as_whole, member_of, must_be_object, optional, port, port_number, protocol_name, refuse_if, whole, ◌>>◌}
use Rattle.np_model.specs.Prelude.{is_word}
use Rattle.np_policies.proofs.ReadLemmas.{bind-output, then-output, optional-output, IsOptional}
use Rattle.np_meaning.proofs.PodMeant.{protocol-meant}
use Rattle.np_meaning.proofs.MemberReads.{port-whole, port_number-whole}
use Rattle.np_policies.specs.Prelude.{container_port_name, end_port, may_end, net_port, net_port_by, port_number_of, port_value, port_value_by, protocol}
use Rattle.np_model.specs.declared.network_policy.NetPort.TheVariants.{Span, Named}

-- a number that was read as a port is the port
port-output : (value : Data) (n m : ℕ) → as_whole value ≡ Some (pos n) → port value ≡ Ok m → m ≡ n
port-output value n m number is =
    let read = port-whole value m is in
    let same : pos m ≡ pos n = cc in
    cc

-- a member that is there as a number
record IsNumberAt (name : List ℕ) (value : Data) (n : ℤ) : Type 0 where
  pub found : Data
  pub there : member_of name value ≡ Some found
  pub whole : as_whole found ≡ Some n

number_at-there : (name : List ℕ) (value : Data) (n : ℤ) → number_at name value ≡ Some n → IsNumberAt name value n
number_at-there name value n is = by (member_of name value) refl is
  where
    by : (member : Option Data) → member_of name value ≡ member → as_whole (unwrap_or member (object no_members)) ≡ Some n → IsNumberAt name value n
    by None there is = cc
    by (Some found) there is = record { found = found; there = there; whole = is }

-- what an optional member was read as, where it is there
there-output : {A : Type 0} (shape : Data → Read A) (member : Option Data) (output : Option A) (found : Data) → IsOptional shape member output → member ≡ Some found →
    (read : A) × (output ≡ Some read) × (shape found ≡ Ok read)
there-output shape member None found is there = cc
there-output shape member (Some output) found is there =
    let same : is.found ≡ found = let one = is.there in cc in
    (output, refl, subst (λ (d : Data). shape d ≡ Ok output) same is.read)

missing-output : {A : Type 0} (shape : Data → Read A) (member : Option Data) (output : Option A) → IsOptional shape member output → member ≡ None → output ≡ None
missing-output shape member None is there = refl
missing-output shape member (Some output) is there = let one = is.there in cc

pub protocol-output : (value : Data) (read : Proto) → protocol value ≡ Ok read → read ≡ protocol_of value
unfolding protocol
protocol-output value read is =
    let named = bind-output (optional (codes "protocol") protocol_name value) (λ found. Ok (unwrap_or found Tcp)) read is in
    let made : unwrap_or named.first Tcp ≡ read = let after = named.after in cc in
    sym made ∙ sym (protocol-meant value named.first named.here)

port_value-number : (value : Data) (n : ℕ) (read : PortValue) → as_whole value ≡ Some (pos n) → port_value value ≡ Ok read → read ≡ Number n
unfolding port_value
port_value-number value n read number is =
    let named : port_value_by (Some (pos n)) value ≡ Ok read = subst (λ (found : Option ℤ). port_value_by found value ≡ Ok read) number is in
    let one = bind-output (port_number (pos n)) (λ number. Ok (Number number)) read named in
    let made : Number one.first ≡ read = let after = one.after in cc in
    let same : pos n ≡ pos one.first = port_number-whole (pos n) one.first one.here in
    let first : one.first ≡ n = cc in
    sym made ∙ ap Number first

port_value-name : (name : List ℕ) (read : PortValue) → port_value (string name) ≡ Ok read → read ≡ Name name
unfolding port_value container_port_name
port_value-name name read is =
    let one = bind-output (container_port_name (string name)) (λ name. Ok (Name name)) read is in
    let made : Name one.first ≡ read = let after = one.after in cc in
    let word = then-output (refuse_if (length name == 0) BadPort) (refuse_if (not (is_word name)) BadField >> Ok name) one.first one.here in
    let end = then-output (refuse_if (not (is_word name)) BadField) (Ok name) one.first word in
    let same : name ≡ one.first = cc in
    sym made ∙ ap Name (sym same)

end_port-output : (first : Option ℕ) (value : Data) (n last : ℕ) → as_whole value ≡ Some (pos n) → end_port first value ≡ Ok last → last ≡ n
unfolding end_port
end_port-output first value n last number is =
    let read = bind-output (port value) (λ last. refuse_if (not (may_end first last)) BadPort >> Ok last) last is in
    let end : Ok read.first ≡ Ok last = then-output (refuse_if (not (may_end first read.first)) BadPort) (Ok read.first) last read.after in
    let same : read.first ≡ last = cc in
    sym same ∙ port-output value n read.first number read.here

-- the parts of a port entry that was read
record IsPortRead (value : Data) (read : NetPort) : Type 0 where
  pub first : Option PortValue
  pub last : Option ℕ
  pub first_is : IsOptional port_value (member_of (codes "port") value) first
  pub last_is : IsOptional (end_port (port_number_of first)) (member_of (codes "endPort") value) last
  pub made : read ≡ net_port_by (protocol_of value) first last

net_port-output : (value : Data) (read : NetPort) → net_port value ≡ Ok read → IsPortRead value read
unfolding net_port
net_port-output value read is =
    let past = then-output (must_be_object value) _ read is in
    let proto = bind-output (protocol value) _ read past in
    let first = bind-output (optional (codes "port") port_value value) _ read proto.after in
    let last = bind-output (optional (codes "endPort") (end_port (port_number_of first.first)) value) (λ last. Ok (net_port_by proto.first first.first last)) read first.after in
    let made : net_port_by proto.first first.first last.first ≡ read = let after = last.after in cc in
    record {
      first = first.first;
      last = last.first;
      first_is = optional-output port_value (codes "port") value first.first first.here;
      last_is = optional-output (end_port (port_number_of first.first)) (codes "endPort") value last.first last.here;
      made = sym made ∙ ap (λ (p : Proto). net_port_by p first.first last.first) (protocol-output value proto.first proto.here);
    }

-- a port entry that was read is what its members say
pub all_ports-meant : (value : Data) (read : NetPort) → net_port value ≡ Ok read → member_of (codes "port") value ≡ None → read ≡ Span (protocol_of value) 1 65535
all_ports-meant value read is none =
    let parts = net_port-output value read is in
    let first = missing-output port_value (member_of (codes "port") value) parts.first parts.first_is none in
    parts.made ∙ ap (λ (found : Option PortValue). net_port_by (protocol_of value) found parts.last) first

first-number : (value : Data) (n : ℕ) (first : Option PortValue) → IsOptional port_value (member_of (codes "port") value) first → number_at (codes "port") value ≡ Some (pos n) →
    first ≡ Some (Number n)
first-number value n first is number =
    let member = number_at-there (codes "port") value (pos n) number in
    let output = there-output port_value (member_of (codes "port") value) first member.found is member.there in
    output.1 ∙ ap Some (port_value-number member.found n output.0 member.whole output.2)

pub one_port-meant : (value : Data) (read : NetPort) (n : ℕ) → net_port value ≡ Ok read → number_at (codes "port") value ≡ Some (pos n) → member_of (codes "endPort") value ≡ None →
    read ≡ Span (protocol_of value) n n
one_port-meant value read n is number none =
    let parts = net_port-output value read is in
    let first = first-number value n parts.first parts.first_is number in
    let last = missing-output (end_port (port_number_of parts.first)) (member_of (codes "endPort") value) parts.last parts.last_is none in
    parts.made ∙ ap (λ (found : Option PortValue). net_port_by (protocol_of value) found parts.last) first ∙ ap (λ (found : Option ℕ). net_port_by (protocol_of value) (Some (Number n)) found) last

pub range-meant : (value : Data) (read : NetPort) (n m : ℕ) → net_port value ≡ Ok read → number_at (codes "port") value ≡ Some (pos n) → number_at (codes "endPort") value ≡ Some (pos m) →
    read ≡ Span (protocol_of value) n m
range-meant value read n m is number last_number =
    let parts = net_port-output value read is in
    let first = first-number value n parts.first parts.first_is number in
    let member = number_at-there (codes "endPort") value (pos m) last_number in
    let output = there-output (end_port (port_number_of parts.first)) (member_of (codes "endPort") value) parts.last member.found parts.last_is member.there in
    let last = output.1 ∙ ap Some (end_port-output (port_number_of parts.first) member.found m output.0 member.whole output.2) in
    parts.made ∙ ap (λ (found : Option PortValue). net_port_by (protocol_of value) found parts.last) first ∙ ap (λ (found : Option ℕ). net_port_by (protocol_of value) (Some (Number n)) found) last

pub name-meant : (value : Data) (read : NetPort) (name : List ℕ) → net_port value ≡ Ok read → member_of (codes "port") value ≡ Some (string name) → read ≡ Named (protocol_of value) name
name-meant value read name is there =
    let parts = net_port-output value read is in
    let output = there-output port_value (member_of (codes "port") value) parts.first (string name) parts.first_is there in
    let first = output.1 ∙ ap Some (port_value-name name output.0 output.2) in
    parts.made ∙ ap (λ (found : Option PortValue). net_port_by (protocol_of value) found parts.last) first
