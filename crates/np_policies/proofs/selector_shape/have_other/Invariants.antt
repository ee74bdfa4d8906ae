use Rattle.std.proofs.Common.{◌≡◌}
use Rattle.serde_json.specs.View.{members_view}
use Rattle.np_policies.specs.Prelude.{have_other}
use Rattle.np_policies.proofs.selector_shape.have_other.Given as goal

-- no member so far is another
abbrev pub invariant-loop-name : goal.invariant-loop-name
invariant-loop-name l = have_other (members_view l.members.entries) ≡ have_other (members_view l.name-iterator)
