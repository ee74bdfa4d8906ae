-- The definitions and types of this crate that its proofs and the crates above speak of, one import line a file.
pub use Rattle.np_tiers.specs.Entries.{AreEntries, IsCarving, admin_place, mark_if}
pub use Rattle.np_tiers.specs.Marks.{action_mark, admin_mark, base_mark, lower_mark, mark_allows, mark_of, marks_at, net_mark}
pub use Rattle.np_tiers.specs.Runs.{IsRun, base_action, first_action, first_allows}
pub use Rattle.np_tiers.specs.Types.{Action, Admin, AdminPart, Allow, Base, BasePart, Deny, Free, Isolated, Layer, Mark, Marked, Net, Pass, Run}
pub use Rattle.np_tiers.specs.Walk.{admin_allows, base_allows, lower_allows, walk_allows}
