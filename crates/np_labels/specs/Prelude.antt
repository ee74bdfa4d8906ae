-- The definitions and types of this crate that its proofs and the crates above speak of, one import line a file.
pub use Rattle.np_labels.specs.Demands.{IsChoice, admits, admits_unless_free, allowed_at, has_value}
pub use Rattle.np_labels.specs.DistinctAscends.{Less-from_test, distinct-ascends, list_all-insert_key}
pub use Rattle.np_labels.specs.Labels.{AgreeOn, HasAscendingKeys, keys_of, labels_of, last_value_of, pair_of, value_of, with_pair}
pub use Rattle.np_labels.specs.Selectors.{is_listed, label_requirement, meets_requirement, meets_selector, negation_of, op_allows, opposite_of, requirement_of}
pub use Rattle.np_labels.specs.Types.{Absent, Demand, NoneOf, OneOf, Op, Pair, Present, Requirement, Selector}
pub use Rattle.np_labels.specs.Values.{distinct, is_ascending, is_below}
pub use Rattle.np_labels.specs.WellFormed.{fits, has_well_requirements, is_well_requirement}
