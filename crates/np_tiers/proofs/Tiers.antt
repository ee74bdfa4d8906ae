-- How each tier names what decides a spot. For `carve_admin`, `carve_base` and `carve_net`.
use Rattle.std.proofs.Common.{ℕ, ◌+◌, Option, Some, find}
use Rattle.std.specs.List.{position_from, enumerate_from}
use Rattle.np_tiers.specs.Prelude.{AdminPart, BasePart, Layer, action_mark, admin_mark, admin_place, base_mark, lower_mark, net_mark}
use Rattle.np_tiers.proofs.Choice.{at_choice}
use Rattle.np_tiers.proofs.FirstMatch.{Tier}
use Rattle.np_tiers.proofs.Places.{lower_place}

abbrev pub net_tier : {S : Type 0} → Option ℕ → Tier S S
net_tier pass = record {
  set_of = λ set. set;
  mark_from = λ at place sets. net_mark pass (position_from at place sets);
  mark_at = λ at place set. net_mark pass (Some place);
  first_decides = λ at place set sets. at_choice (net_mark pass) (at set) (Some place) (position_from at (place + 1) sets);
  place_of = lower_place;
}

abbrev pub base_tier : {S : Type 0} → Option ℕ → Tier S (BasePart S)
base_tier pass = record {
  set_of = λ part. part.set;
  mark_from = λ at place parts. base_mark pass (position_from (λ part. at part.set) place parts);
  mark_at = λ at place part. base_mark pass (Some place);
  first_decides = λ at place part parts. at_choice (base_mark pass) (at part.set) (Some place) (position_from (λ part. at part.set) (place + 1) parts);
  place_of = lower_place;
}

abbrev pub admin_tier : {S : Type 0} → Layer S → Tier S (AdminPart S)
admin_tier layer = record {
  set_of = λ part. part.set;
  mark_from = λ at place parts. admin_mark (find (λ numbered. at numbered.1.set) (enumerate_from place parts)) (lower_mark at layer);
  mark_at = λ at place part. action_mark part.action place (lower_mark at layer);
  first_decides = λ at place part parts. at_choice (λ first. admin_mark first (lower_mark at layer)) (at part.set) (Some (place, part))
      (find (λ numbered. at numbered.1.set) (enumerate_from (place + 1) parts));
  place_of = admin_place;
}
