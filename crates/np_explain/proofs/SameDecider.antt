-- The test of deciders tells whether they are equal. For ExplanationLemmas, RightPartsLemmas and crates above.
use mathlib.Core.Bool.{beq}
use Rattle.std.proofs.Common.{◌≡◌, ℕ, List, ◌==◌, Option, None, Some, refl, ap, ◌∙◌}
use Rattle.std.proofs.lemmas.Bool.{false≢true}
use Rattle.std.proofs.lemmas.Bool.Decides.{Decides-and, Decides-eqb}
use Rattle.std.proofs.lemmas.Slice.Eq.{bytes_eq-Decides, slice_eq-Decides}
use Rattle.std.specs.Bool.{Decides}
use Rattle.std.specs.Cmp.{booleans_Decides}
use Rattle.std.specs.Cmp.Lexicographic.{pointwise}
use Rattle.std.specs.Option.{option_eq}
use Rattle.std.specs.Str.{bytes_eq}
use Rattle.np_explain.specs.Prelude.{Admin, Base, Decider, Free, Isolated, Net, NoSide, RuleName, same_decider, same_rule}

pub same_rule-Decides : (a b : RuleName) → Decides (same_rule a b) (a ≡ b)
same_rule-Decides a b =
    let parts = Decides-and (bytes_eq a.policy b.policy) (a.place == b.place) (bytes_eq-Decides a.policy b.policy) (Decides-eqb a.place b.place) in
    let of_policy : List ℕ → RuleName = λ policy. record { policy = policy; place = a.place } in
    let of_place : ℕ → RuleName = λ place. record { policy = b.policy; place = place } in (
      λ same. ap of_policy (parts.0 same).0 ∙ ap of_place (parts.0 same).1,
      λ same. parts.1 (ap (λ (rule : RuleName). rule.policy) same, ap (λ (rule : RuleName). rule.place) same),
    )

same_pass-Decides : (a b : Option RuleName) → Decides (option_eq same_rule a b) (a ≡ b)
same_pass-Decides None None = (λ same. refl, λ same. refl)
same_pass-Decides None (Some b) = (λ same. absurd (false≢true same), λ same. cc)
same_pass-Decides (Some a) None = (λ same. absurd (false≢true same), λ same. cc)
same_pass-Decides (Some a) (Some b) = let rules = same_rule-Decides a b in (λ same. ap Some (rules.0 same), λ same. rules.1 cc)

pub same_decider-Decides : (a b : Decider) → Decides (same_decider a b) (a ≡ b)
unfolding same_decider
same_decider-Decides NoSide NoSide = (λ same. refl, λ same. refl)
same_decider-Decides (Admin rule allow) (Admin other allows) =
    let parts = Decides-and (same_rule rule other) (beq allow allows) (same_rule-Decides rule other) (booleans_Decides allow allows) in (
      λ same. let both = parts.0 same in cc,
      λ same. parts.1 (cc, cc),
    )
same_decider-Decides (Net pass rule) (Net passed other) =
    let parts = Decides-and (option_eq same_rule pass passed) (same_rule rule other) (same_pass-Decides pass passed) (same_rule-Decides rule other) in (
      λ same. let both = parts.0 same in cc,
      λ same. parts.1 (cc, cc),
    )
same_decider-Decides (Isolated pass policies) (Isolated passed others) =
    let names = slice_eq-Decides bytes_eq-Decides policies others (pointwise bytes_eq policies others) refl in
    let parts = Decides-and (option_eq same_rule pass passed) (pointwise bytes_eq policies others) (same_pass-Decides pass passed) names in (
      λ same. let both = parts.0 same in cc,
      λ same. parts.1 (cc, cc),
    )
same_decider-Decides (Base pass rule allow) (Base passed other allows) =
    let first = Decides-and (option_eq same_rule pass passed) (same_rule rule other) (same_pass-Decides pass passed) (same_rule-Decides rule other) in
    let parts = Decides-and _ (beq allow allows) first (booleans_Decides allow allows) in (
      λ same. let both = parts.0 same in cc,
      λ same. parts.1 ((cc, cc), cc),
    )
same_decider-Decides (Free pass) (Free passed) =
    let parts = same_pass-Decides pass passed in (
      λ same. let pass_same = parts.0 same in cc,
      λ same. parts.1 cc,
    )
same_decider-Decides a b = (λ same. absurd (false≢true same), λ same. cc)
