-- Something decides at each pod. For `only_addresses_have_no_side`.
use Rattle.std.proofs.Common.{◌≡◌, ◌↔◌, ℕ, List, Bool, true, false, IsTrue, Option, Some, None, refl, sym, ap, ◌∙◌, if◌then◌else◌}
use Rattle.std.proofs.lemmas.Bool.{false≢true}
use Rattle.np_explain.specs.Prelude.{Action, Allow, Decider, Deny, Direction, EstateLists, Pass, RuleName, is_address}
use Rattle.np_rules.specs.Prelude.{Contact, ModelEnd, PlacedAdminRule, PlacedBaseRule, PlacedNetRule, PodEnd, action_decides, address, admin_decider, admin_decides, admin_rule_name, base_decider, base_decides, decider, is_isolated, isolating_names, lower_decider, net_decider, net_decides, pod}
use Rattle.np_rules.specs.declared.decider.Decider.TheVariants as decider

abbrev has_no_side : Decider → Bool
has_no_side decider.NoSide = true
has_no_side (decider.Admin rule allow) = false
has_no_side (decider.Net pass rule) = false
has_no_side (decider.Isolated pass policies) = false
has_no_side (decider.Base pass rule allow) = false
has_no_side (decider.Free pass) = false

net_decides_it : (pass : Option RuleName) (policies : List (List ℕ)) (found : Option PlacedNetRule) → has_no_side (net_decides pass policies found) ≡ false
net_decides_it pass policies None = refl
net_decides_it pass policies (Some placed) = refl

base_decides_it : (pass : Option RuleName) (found : Option PlacedBaseRule) → has_no_side (base_decides pass found) ≡ false
base_decides_it pass None = refl
base_decides_it pass (Some placed) = refl

lower_decides_it : (lists : EstateLists) (direction : Direction) (p : PodEnd) (contact : Contact) (pass : Option RuleName) → has_no_side (lower_decider lists direction p contact pass) ≡ false
lower_decides_it lists direction p contact pass = go (is_isolated lists.net_policies direction p)
  where
    go : (b : Bool) →
        has_no_side (if b then net_decides pass (isolating_names lists.net_policies direction p) (net_decider lists.net_policies direction p contact) else base_decides pass
        (base_decider lists.baseline direction p contact)) ≡ false
    go true = net_decides_it pass (isolating_names lists.net_policies direction p) (net_decider lists.net_policies direction p contact)
    go false = base_decides_it pass (base_decider lists.baseline direction p contact)

action_decides_it : (action : Action) (rule : RuleName) (lower : Option RuleName → Decider) → ((pass : Option RuleName) → has_no_side (lower pass) ≡ false) →
    has_no_side (action_decides action rule lower) ≡ false
action_decides_it Allow rule lower lowers = refl
action_decides_it Deny rule lower lowers = refl
action_decides_it Pass rule lower lowers = lowers (Some rule)

admin_decides_it : (found : Option PlacedAdminRule) (lower : Option RuleName → Decider) → ((pass : Option RuleName) → has_no_side (lower pass) ≡ false) →
    has_no_side (admin_decides found lower) ≡ false
admin_decides_it None lower lowers = lowers None
admin_decides_it (Some placed) lower lowers = action_decides_it placed.rule.action (admin_rule_name placed) lower lowers

pub no_side : (lists : EstateLists) (direction : Direction) (end : ModelEnd) (contact : Contact) → IsTrue (is_address end) ↔ (decider lists direction end contact ≡ decider.NoSide)
no_side lists direction (address a) contact = (λ is. refl, λ same. refl)
no_side lists direction (pod p) contact = (
  λ is. absurd (false≢true is),
  λ same. absurd (false≢true (sym (admin_decides_it (admin_decider lists.admin_policies direction p contact) (lower_decider lists direction p contact) (lower_decides_it lists direction p contact))
      ∙ ap has_no_side same)),
)
