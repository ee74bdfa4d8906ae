-- The definitions and types of this crate that its proofs and the crates above speak of, one import line a file.
pub use Rattle.np_exposure.specs.Choices.{Choices, allows_found, can_be_assumed, choices_at_first, choices_left, choices_of, first_found, first_label, first_on, first_stranger, fits_assumed, has_choice, is_name_key, is_open, label_at, label_if, labels_on, left_at, mentioned_keys, other_than}
pub use Rattle.np_exposure.specs.Mentions.{each_once, is_same, namespace_is, of_admin_peer, of_admin_rule, of_namespaces, of_net_peer, of_net_rule, of_optional, of_placed, of_selector, requirements, same_op, same_side, with_more}
unfoldable pub use Rattle.np_exposure.specs.Mentions.{mentions}
pub use Rattle.np_exposure.specs.PeerText.{are_well, asked_text, named_side_text, requirement_text, values_text}
unfoldable pub use Rattle.np_exposure.specs.PeerText.{peer_text}
pub use Rattle.np_exposure.specs.Right.{FirstRowTells, IsEachFirst}
pub use Rattle.np_exposure.specs.Rows.{are_same_row, are_same_rows, bare_row, joined_rows, rows_at, rows_of}
unfoldable pub use Rattle.np_exposure.specs.Rows.{rows_left}
pub use Rattle.np_exposure.specs.Strangers.{IsExposure, exposes, is_hypothetical, labels_at, meets, meets_all, negated}
pub use Rattle.np_exposure.specs.Tree.{AreRowsAt, AreRowsOf, HasExposure, IsAssumed, IsJoined, IsPossible, always, apart, either, equal, never, with_first}
unfoldable pub use Rattle.np_exposure.specs.Tree.{AreRows}
pub use Rattle.np_exposure.specs.Types.{Absent, AdminPeer, AdminPolicy, AdminPort, AdminRule, BasePolicy, Direction, Egress, ExposureRow, Four, Ingress, MentionedKey, Namespace, NetPeer, NetPolicy, NetPort, NetRule, NoneOf, OneOf, Op, Pair, Pending, Pod, PortSpot, Present, Requirement, RuleConns, Selector, Side, SidedRequirement, Stranger}
pub use Rattle.np_exposure.specs.steps.Types.{Aside, Case, OpenRule, OpenRules}
pub use Rattle.np_exposure.specs.Weight.{IsWeightFault, looks_at, patterns_at, patterns_on, product}
unfoldable pub use Rattle.np_exposure.specs.Weight.{keys_on, values_at, weight}
pub use Rattle.np_exposure.specs.steps.Case.{PermitSame}
pub use Rattle.np_exposure.specs.steps.OnlyNamespace.{AreOfNamespace}
pub use Rattle.np_exposure.specs.steps.Settled.{IsRight, IsSettled, StandFor, StandForAll, permits, rule_matches}
pub use Rattle.np_exposure.specs.steps.States.{IsChosen, IsState, IsWitness, are_apart, are_at, as_wanted, can_be, is_apart, is_at, is_decided, is_made, is_named_at, narrowed, narrowed_at, suits}
pub use Rattle.np_exposure.specs.steps.Walks.{AreJoinedAt, Fills, IsFork, IsJoinedBy, IsLeaf, IsStepTo, still_asked}
unfoldable pub use Rattle.np_exposure.specs.steps.Walks.{AreWalked}
