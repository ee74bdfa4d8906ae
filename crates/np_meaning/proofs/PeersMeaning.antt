-- A peer that was read is what its members say. For `peers_mean_their_members`.
use Rattle.std.proofs.Common.{◌≡◌, ℕ, ◌+◌, List, [], ◌∷◌, map, true, false, ◌||◌, is_some, Option, Some, None, option_and_then, unwrap_or, codes, Ok, refl, sym, ap, subst}
use Rattle.std.proofs.lemmas.Bool.{not-false, or_parts}
use Rattle.serde_json.specs.Data.{Data, Items, no_items, item}
use Rattle.serde_json.specs.Find.{as_str}
use Rattle.np_addr.specs.Prelude.{cidr_of, first_bad_except}
use Rattle.np_meaning.specs.Prelude.{BadCidr, Block, Cidr, IpBlock, IsBlockOf, IsReadOf, NetPeer, PeerShape, Selector, blocks_of, text_at}
use Rattle.np_json.specs.Prelude.{Read, each_item, has_member, listed, member_of, must_be_object, optional, or_refuse, refuse_if, required, text, ◌>>◌}
use Rattle.np_policies.proofs.ReadLemmas.{bind-output, then-output, optional-output, required-output, listed-output, each_item-output, or_refuse-output, IsOptional}
use Rattle.np_meaning.proofs.MemberReads.{of_type-output}
use Rattle.np_meaning.proofs.Outputs.{IsReadOf-optional}
use Rattle.np_policies.proofs.WellLemmas.{unbroken-output}
use Rattle.np_policies.specs.Prelude.{cidr, ip_block, is_misshapen, items_at, net_peer, net_peer_by, refuse_except, selector}
use Rattle.np_model.specs.declared.network_policy.NetPeer.TheVariants.{Pods}

is_some-optional : {A : Type 0} (shape : Data → Read A) (member : Option Data) (output : Option A) → IsOptional shape member output → is_some member ≡ is_some output
is_some-optional shape member None is = ap is_some is
is_some-optional shape member (Some output) is = ap is_some is.there

pub not_there : (member : Option Data) → is_some member ≡ false → member ≡ None
not_there None is = refl
not_there (Some found) is = cc

-- what the members of a peer of pods are
pub record IsPodsOf (value : Data) (namespaces pods : Option Selector) : Type 0 where
  pub own : IsReadOf selector (member_of (codes "podSelector") value) pods
  pub spaces : IsReadOf selector (member_of (codes "namespaceSelector") value) namespaces
  pub some : (is_some pods || is_some namespaces) ≡ true
  pub no_block : member_of (codes "ipBlock") value ≡ None

-- what those of a peer of addresses are
pub record IsAddressesOf (value : Data) (block : Cidr) (excepts : List Cidr) : Type 0 where
  pub is : IsBlockOf (member_of (codes "ipBlock") value) block excepts
  pub no_pods : member_of (codes "podSelector") value ≡ None
  pub no_namespaces : member_of (codes "namespaceSelector") value ≡ None

cidr-output : (value : Data) (block : Cidr) → cidr value ≡ Ok block → option_and_then cidr_of (as_str value) ≡ Some block
unfolding cidr
cidr-output value block is =
    let read = bind-output (text value) (λ s. or_refuse BadCidr (cidr_of s)) block is in
    rw (of_type-output (as_str value) read.first read.here) (or_refuse-output BadCidr (cidr_of read.first) block read.after)

of_text : (found : Option (List ℕ)) (block : Cidr) → option_and_then cidr_of found ≡ Some block → cidr_of (unwrap_or found []) ≡ Some block
of_text None block is = cc
of_text (Some s) block is = is

pub blocks_of-each_item : (place : ℕ) (items : Items) (outputs : List Cidr) → each_item cidr place items ≡ Ok outputs → blocks_of items ≡ map Some outputs
blocks_of-each_item place no_items [] is = refl
blocks_of-each_item place no_items (output ∷ outputs) is = cc
blocks_of-each_item place (item value items) outputs is =
    let each = each_item-output cidr place value items outputs is in
    let first = cidr-output value each.output each.here in
    let others = blocks_of-each_item (place + 1) items each.more each.others in
    rw (each.are, first, others) refl

ip_block-output : (value : Data) (read : IpBlock) → ip_block value ≡ Ok read → IsBlockOf (Some value) read.cidr read.excepts
unfolding ip_block
ip_block-output value read is =
    let past = then-output (must_be_object value) _ read is in
    let block = bind-output (required (codes "cidr") cidr value) _ read past in
    let excepts = bind-output (listed (codes "except") cidr value)
    (λ excepts. refuse_except (first_bad_except block.first excepts) >> Ok (record { cidr = block.first; excepts = excepts })) read block.after in
    let end = then-output (refuse_except (first_bad_except block.first excepts.first)) (Ok (record { cidr = block.first; excepts = excepts.first })) read excepts.after in
    let made : record { cidr = block.first; excepts = excepts.first } ≡ read = cc in
    let member = required-output cidr (codes "cidr") value block.first block.here in
    let first : cidr_of (text_at (codes "cidr") value) ≡ Some block.first = rw member.there (of_text (as_str member.found) block.first (cidr-output member.found block.first member.read)) in
    let others = blocks_of-each_item 0 (items_at (codes "except") value) excepts.first (listed-output cidr (codes "except") value excepts.first excepts.here) in
    subst (λ (one : IpBlock). IsBlockOf (Some value) one.cidr one.excepts) made (first, others)

pods_by : (value : Data) (own spaces : Option Selector) (block : Option IpBlock) (namespaces pods : Option Selector) → is_misshapen value ≡ false →
    IsOptional selector (member_of (codes "podSelector") value) own → IsOptional selector (member_of (codes "namespaceSelector") value) spaces →
    IsOptional ip_block (member_of (codes "ipBlock") value) block → net_peer_by own spaces block ≡ Pods namespaces pods → IsPodsOf value namespaces pods
pods_by value own spaces (Some block) namespaces pods shaped own_is spaces_is there made = cc
pods_by value own spaces None namespaces pods shaped own_is spaces_is none made =
    let first : spaces ≡ namespaces = cc in
    let second : own ≡ pods = cc in
    let some = not-false (has_member (codes "podSelector") value || has_member (codes "namespaceSelector") value) (rw none at shaped) in
    rw (← first, ← second) (record {
      own = IsReadOf-optional selector (member_of (codes "podSelector") value) own own_is;
      spaces = IsReadOf-optional selector (member_of (codes "namespaceSelector") value) spaces spaces_is;
      some = rw (← is_some-optional selector (member_of (codes "podSelector") value) own own_is, ← is_some-optional selector (member_of (codes "namespaceSelector") value) spaces spaces_is) some;
      no_block = none;
    })

addresses_by : (value : Data) (own spaces : Option Selector) (block : Option IpBlock) (base : Cidr) (excepts : List Cidr) → is_misshapen value ≡ false →
    IsOptional ip_block (member_of (codes "ipBlock") value) block → net_peer_by own spaces block ≡ Block base excepts → IsAddressesOf value base excepts
addresses_by value own spaces None base excepts shaped there made = cc
addresses_by value own spaces (Some block) base excepts shaped there made =
    let first : block.cidr ≡ base = cc in
    let second : block.excepts ≡ excepts = cc in
    let none = or_parts (has_member (codes "podSelector") value) (has_member (codes "namespaceSelector") value) (rw there.there at shaped) in
    rw (← first, ← second) (record {
      is = subst (λ (found : Option Data). IsBlockOf found block.cidr block.excepts) (sym there.there) (ip_block-output there.found block there.read);
      no_pods = not_there (member_of (codes "podSelector") value) none.0;
      no_namespaces = not_there (member_of (codes "namespaceSelector") value) none.1;
    })

-- the parts of a peer that was read
record IsPeerRead (value : Data) (read : NetPeer) : Type 0 where
  pub own : Option Selector
  pub spaces : Option Selector
  pub block : Option IpBlock
  pub shaped : is_misshapen value ≡ false
  pub own_is : IsOptional selector (member_of (codes "podSelector") value) own
  pub spaces_is : IsOptional selector (member_of (codes "namespaceSelector") value) spaces
  pub block_is : IsOptional ip_block (member_of (codes "ipBlock") value) block
  pub made : net_peer_by own spaces block ≡ read

net_peer-output : (value : Data) (read : NetPeer) → net_peer value ≡ Ok read → IsPeerRead value read
unfolding net_peer
net_peer-output value read is =
    let past = then-output (must_be_object value) _ read is in
    let shaped = then-output (refuse_if (is_misshapen value) PeerShape) _ read past in
    let pods = bind-output (optional (codes "podSelector") selector value) _ read shaped in
    let namespaces = bind-output (optional (codes "namespaceSelector") selector value) _ read pods.after in
    let block = bind-output (optional (codes "ipBlock") ip_block value) (λ block. Ok (net_peer_by pods.first namespaces.first block)) read namespaces.after in
    let made : net_peer_by pods.first namespaces.first block.first ≡ read = let after = block.after in cc in
    record {
      own = pods.first;
      spaces = namespaces.first;
      block = block.first;
      shaped = unbroken-output (is_misshapen value) PeerShape _ read past;
      own_is = optional-output selector (codes "podSelector") value pods.first pods.here;
      spaces_is = optional-output selector (codes "namespaceSelector") value namespaces.first namespaces.here;
      block_is = optional-output ip_block (codes "ipBlock") value block.first block.here;
      made = made;
    }

-- a peer that was read is what its members say
pub pods-meant : (value : Data) (namespaces pods : Option Selector) → net_peer value ≡ Ok (Pods namespaces pods) → IsPodsOf value namespaces pods
pods-meant value namespaces pods is =
    let parts = net_peer-output value (Pods namespaces pods) is in
    pods_by value parts.own parts.spaces parts.block namespaces pods parts.shaped parts.own_is parts.spaces_is parts.block_is parts.made

pub addresses-meant : (value : Data) (block : Cidr) (excepts : List Cidr) → net_peer value ≡ Ok (Block block excepts) → IsAddressesOf value block excepts
addresses-meant value block excepts is =
    let parts = net_peer-output value (Block block excepts) is in
    addresses_by value parts.own parts.spaces parts.block block excepts parts.shaped parts.block_is parts.made
