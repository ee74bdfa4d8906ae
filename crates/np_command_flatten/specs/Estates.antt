-- What a list of policies is read as.
use Rattle.std.specs.Prelude.{List, [], None, map, IsTrue}
use Rattle.np_model.specs.Prelude.{are_apart}
use Rattle.np_reading.specs.Prelude.{net_policies_of}
use Rattle.np_command_flatten.specs.Types.{EstateLists, Item, NetPolicy}
use Rattle.np_items.specs.declared.item.Item.TheVariants as item
use Rattle.np_policies.specs.declared.policy.Policy.TheVariants as policy

-- the item that a policy is
abbrev pub net_item : NetPolicy → Item
net_item one = item.Policy (policy.Net one)

abbrev pub net_items : List NetPolicy → List Item
net_items policies = map net_item policies

-- two policies are not of one namespace and one name
abbrev pub AreApart : NetPolicy → NetPolicy → Type 0
AreApart one other = IsTrue (are_apart one.namespace one.name other.namespace other.name)

-- The estate of policies alone. It has no pod and no other policy, and nothing was left out.
abbrev pub estate_with : List NetPolicy → EstateLists
estate_with policies = record {
  pods = [];
  net_policies = net_policies_of (net_items policies);
  admin_policies = [];
  baseline = None;
  services = [];
  ingresses = [];
  notes = record { host = 0; finished = 0; skipped = 0; unaddressed = 0 };
}
