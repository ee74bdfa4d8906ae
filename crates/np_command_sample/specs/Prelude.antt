-- The definitions and types of this crate that its proofs and the crates above speak of, one import line a file.
pub use Rattle.np_command_sample.specs.Estate.{deny_pods, estate_admin_policy, estate_net_policy, estate_pod, from_addresses, from_pods, label_selector, one_label, sample_block, sample_estate, sample_ports}
pub use Rattle.np_command_sample.specs.Promise.{CountsAll}
pub use Rattle.np_command_sample.specs.Report.{HasFewRows, count_line, count_lines, counts_of}
unfoldable pub use Rattle.np_command_sample.specs.Report.{counted, sample_summary}
pub use Rattle.np_command_sample.specs.Types.{AdminPolicy, Direction, Egress, EstateLists, Ingress, Item, NetPolicy, ObjectName, Pod, PortSpot}
