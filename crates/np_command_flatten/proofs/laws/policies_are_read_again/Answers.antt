use Rattle.np_reading.proofs.LawfulPolicies.{net_policies-ascend}
use Rattle.np_command_flatten.specs.Prelude.{net_items}
use Rattle.np_manifests.specs.Lists.{list_line, manifest_text}
use Rattle.np_command_flatten.proofs.EstateLemmas.{estate_of-list, policies-once}
use Rattle.np_command_flatten.proofs.ItemLemmas.{items_of-list}
use Rattle.np_command_flatten.proofs.ListLemmas.{json_of-list_line, json_of-list_text}
use Rattle.np_command_flatten.proofs.laws.policies_are_read_again.Goals as goal

pub returns : goal.returns
returns c = record {
  items = λ policies all. items_of-list (manifest_text policies) policies (json_of-list_text policies all) all;
  text = λ policies all. estate_of-list (manifest_text policies) policies (json_of-list_text policies all) all;
  line = λ policies all. estate_of-list (list_line policies) policies (json_of-list_line policies all) all;
  once = policies-once;
  in_order = λ policies. net_policies-ascend (net_items policies);
}
