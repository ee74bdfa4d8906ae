use Rattle.std.proofs.Common.{◌∙◌}
use Rattle.np_check.proofs.SpotLemmas.{first_spot-same}
use Rattle.np_check.specs.Prelude.{breaks}
use Rattle.np_conns.specs.Prelude.{has_spot}
use Rattle.np_check.proofs.claim.Claim.first_broken.Goals as goal

pub returns : goal.returns
returns c =
    c.first_spot.ensures
    ∙ first_spot-same (has_spot c.in_ok-broken.broken) (breaks c.args.self.now.wanted c.args.self.now.conns.now (has_spot c.args.passes.now)) (λ spot is. c.in_ok-broken.ensures spot)
