-- The items of the sample. For ApartLemmas, EstateLemmas and 4 more.
use Rattle.std.proofs.Common.{ℕ, List, [], codes, false, None}
use Rattle.np_command_sample.specs.Prelude.{Item, estate_admin_policy, estate_net_policy, one_label, sample_ports}
use Rattle.np_items.specs.declared.item.Item.TheVariants as item
use Rattle.np_objects.specs.declared.object.Object.TheVariants as object
use Rattle.np_objects.specs.declared.pod_item.PodItem.{PodItem}
use Rattle.np_policies.specs.declared.policy.Policy.TheVariants as policy
use Rattle.np_sample.specs.Prelude.{app_of, namespace_of, pod_name, sample_namespace_name}
use Rattle.np_sample.proofs.ListLemmas.{four_kinds}

abbrev pub pod_read : ℕ → PodItem
pod_read i = record {
  namespace = namespace_of i;
  name = pod_name i;
  labels = one_label (codes "app") (app_of i);
  owner = None;
  ports = sample_ports i;
  addresses = [];
  host_network = false;
  finished = false;
}

abbrev pub namespace_item : ℕ → Item
namespace_item j = item.Object (object.Namespace (record { name = sample_namespace_name j; labels = [] }))

abbrev pub pod_item : ℕ → Item
pod_item i = item.Object (object.Pod (pod_read i))

abbrev pub net_policy_item : ℕ → Item
net_policy_item j = item.Policy (policy.Net (estate_net_policy j))

abbrev pub admin_policy_item : Item
admin_policy_item = item.Policy (policy.Admin estate_admin_policy)

abbrev pub sample_items : ℕ → List Item
sample_items n = four_kinds namespace_item pod_item net_policy_item admin_policy_item n
