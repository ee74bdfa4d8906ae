-- The types whose views need this crate's definitions, which specs/Types so cannot pass on to these.
pub use Rattle.np_exposure.specs.declared.open_rules.OpenRule.{OpenRule}
pub use Rattle.np_exposure.specs.declared.open_rules.OpenRules.{OpenRules}
pub use Rattle.np_exposure.specs.declared.step.Aside.{Aside}
pub use Rattle.np_exposure.specs.declared.step.Case.{Case}
