-- The layer of a pod's side: the rules that speak of the pod as sets, place by place. Each spot of the sets stands for
-- something that the side may look at, a contact.
use Rattle.std.specs.Prelude.{◌≡◌, List, [], ◌∷◌, Bool, true}
use Rattle.np_rules.specs.Types.{AdminPart, AdminRule, BasePart, Direction, EstateLists, Layer}
use Rattle.np_rules.specs.model.Ends.{Contact, PodEnd}
use Rattle.np_rules.specs.model.NetTier.{is_isolated}
use Rattle.np_rules.specs.model.Places.{PlacedNetRule, admin_places, base_places, net_places}
use Rattle.np_rules.specs.model.Rules.{admin_rule_matches, net_rule_matches}
use Rattle.np_rules.specs.model.Sides.{is_allow}

-- the lists are as long, and what stands at the same place is related
abbrev pub Pairwise : {A B : Type 0} → (A → B → Type 0) → List A → List B → Type 0
Pairwise R [] [] = Unit {0}
Pairwise R [] (y ∷ ys) = ⊥
Pairwise R (x ∷ xs) [] = ⊥
Pairwise R (x ∷ xs) (y ∷ ys) = R x y × Pairwise R xs ys

-- The set has exactly the spots of the contacts that pass.
abbrev pub IsSetOf : {S Spot : Type 0} → (S → Spot → Bool) → (Spot → Bool) → (Spot → Contact) → S → (Contact → Bool) → Type 0
IsSetOf {S} {Spot} has in_space contact_at set passes = (spot : Spot) → in_space spot ≡ true → has set spot ≡ passes (contact_at spot)

-- a part of the admin tier is that of a rule: what the rule says, and what it matches
pub record IsAdminPart {S Spot : Type 0} (has : S → Spot → Bool) (in_space : Spot → Bool) (contact_at : Spot → Contact) (part : AdminPart S) (rule : AdminRule) : Type 0 where
  pub action : part.action ≡ rule.action
  pub members : IsSetOf has in_space contact_at part.set (admin_rule_matches rule)

-- what a rule of a NetworkPolicy matches, as one of its policy's namespace
abbrev pub matches_of : PlacedNetRule → Contact → Bool
matches_of placed contact = net_rule_matches placed.policy.namespace placed.rule contact

-- a part of the baseline is that of a rule
pub record IsBasePart {S Spot : Type 0} (has : S → Spot → Bool) (in_space : Spot → Bool) (contact_at : Spot → Contact) (part : BasePart S) (rule : AdminRule) : Type 0 where
  pub allow : part.allow ≡ is_allow rule.action
  pub members : IsSetOf has in_space contact_at part.set (admin_rule_matches rule)

-- The layer of a pod in a direction. Its admin parts are the rules of the admin policies that select the pod, by policy
-- and place, its sets those of the NetworkPolicies that select it, and its base parts those of the baseline.
pub record IsLayer {S Spot : Type 0} (has : S → Spot → Bool) (in_space : Spot → Bool) (contact_at : Spot → Contact) (lists : EstateLists) (direction : Direction) (p : PodEnd) (layer : Layer S) : Type 0 where
  pub admin : Pairwise (λ part placed. IsAdminPart has in_space contact_at part placed.rule) layer.admin (admin_places lists.admin_policies direction p)
  pub isolated : layer.isolated ≡ is_isolated lists.net_policies direction p
  pub net : Pairwise (λ set placed. IsSetOf has in_space contact_at set (matches_of placed)) layer.net (net_places lists.net_policies direction p)
  pub base : Pairwise (λ part placed. IsBasePart has in_space contact_at part placed.rule) layer.base (base_places lists.baseline direction p)
