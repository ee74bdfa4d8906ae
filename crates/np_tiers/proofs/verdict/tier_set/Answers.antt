use Rattle.np_tiers.proofs.verdict.tier_set.Goals as goal

pub returns-clause-members : goal.returns-clause-members
returns-clause-members g c = c.in_ok-allowed.ensures.members _ c.in_ok-run.ensures
