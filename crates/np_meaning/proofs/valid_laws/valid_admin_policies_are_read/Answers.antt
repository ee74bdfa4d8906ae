use Rattle.np_meaning.proofs.ValidAdminReads.{admin-valid}
use Rattle.np_meaning.proofs.valid_laws.valid_admin_policies_are_read.Goals as goal

pub returns : goal.returns
returns c = admin-valid
