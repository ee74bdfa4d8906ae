-- The names of policies. For `policy_name`.
use Rattle.std.proofs.Common.{◌≡◌, ℕ, ◌<◌, List, [], length, get_or, slice_get, Option, refl, sym, ap, ◌∙◌, subst}
use Rattle.std.specs.Option.{option_map_or}
use Rattle.std.proofs.lemmas.Option.{slice_get_read}
use Rattle.np_unused.specs.Prelude.{EstateLists, IsRuleOf, Net, NetPolicy, RuleRef, Tier, policy_count, policy_name_at}
use Rattle.np_unused.proofs.RuleListLemmas.{policy_within}
use Rattle.np_rules.specs.Prelude.{net_policy_name}

-- the name of a NetworkPolicy that was read
pub net_name : (lists : EstateLists) (tier : Tier) (place : ℕ) (policies : List NetPolicy) (policy : NetPolicy) (text : List ℕ) → tier ≡ Net → policies ≡ lists.net_policies → place < length policies →
    policy ≡ get_or policies place policy → text ≡ net_policy_name policy → text ≡ policy_name_at lists tier place
net_name lists tier place policies policy text is are within read named =
    let name : Option NetPolicy → List ℕ = λ found. option_map_or net_policy_name found [] in
    named ∙ ap name (sym (slice_get_read policies (length policies) place policy refl within read)) ∙ ap (λ (all : List NetPolicy). name (slice_get all place)) are ∙ ap
    (λ (one : Tier). policy_name_at lists one place) (sym is)

-- the policy of a rule of a NetworkPolicy is there
pub net_within : (lists : EstateLists) (rule : RuleRef) (policies : List NetPolicy) → rule.tier ≡ Net → policies ≡ lists.net_policies → IsRuleOf lists rule → rule.policy < length policies
net_within lists rule policies is are valid =
    let within : rule.policy < policy_count lists rule.tier = policy_within lists rule.tier rule.policy rule.direction rule.place valid in
    let there : rule.policy < length lists.net_policies = subst (λ (one : Tier). rule.policy < policy_count lists one) is within in
    subst (λ (all : List NetPolicy). rule.policy < length all) (sym are) there
