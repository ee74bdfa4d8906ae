-- Groups between colons. For `read_groups`.
use Rattle.std.proofs.Common.{◌≡◌, ℕ, ◌≤◌, Bool, true, false, cond, List, [], ◌∷◌, ◌++◌, length, Option, Some, None, option_map, refl, sym, ap, ◌∙◌, inl, inr, append_assoc, length-append, arith}
use Rattle.std.proofs.lemmas.Bool.{leb-true, leb-false, lt-leb}
use Rattle.std.proofs.lemmas.Option.{cond_some}
use Rattle.np_addr.specs.Prelude.{at_most_eight, hex_group, pieces, ◌>>=◌}
use Rattle.np_addr.specs.Ipv6Grammar.{groups_between}
use Rattle.np_addr.proofs.PieceLemmas.{pieces-cases}

-- the groups so far, and those that are found behind them
abbrev pub behind : List ℕ → Option (List ℕ) → Option (List ℕ)
behind front found = option_map (λ groups. front ++ groups) found

-- a piece in front of others is one group
pub groups_of-piece : (dotted : Bool) (piece text : List ℕ) →
    groups_between dotted (piece ∷ pieces 58 text) ≡ (hex_group piece >>= λ group. groups_between dotted (pieces 58 text) >>= λ groups. Some (group ∷ groups))
groups_of-piece dotted piece text =
    elim (pieces-cases 58 text) [
      | inl one ↦ rw one
      | inr several ↦ rw several.3
    ]

behind-behind : (front : List ℕ) (group : ℕ) (found : Option (List ℕ)) → behind front (found >>= λ groups. Some (group ∷ groups)) ≡ behind (front ++ group ∷ []) found
behind-behind front group None = refl
behind-behind front group (Some groups) = ap Some (sym (append_assoc front (group ∷ []) groups))

-- one group more was read
pub next_group : (dotted : Bool) (all : List (List ℕ)) (front rest piece after : List ℕ) (group : ℕ) → groups_between dotted all ≡ behind front (groups_between dotted (pieces 58 rest)) →
    pieces 58 rest ≡ piece ∷ pieces 58 after → hex_group piece ≡ Some group → groups_between dotted all ≡ behind (front ++ group ∷ []) (groups_between dotted (pieces 58 after))
next_group dotted all front rest piece after group so_far cut reads =
    so_far ∙ ap (λ ps. behind front (groups_between dotted ps)) cut ∙ ap (behind front) (groups_of-piece dotted piece after)
    ∙ ap (λ o. behind front (o >>= λ g. groups_between dotted (pieces 58 after) >>= λ groups. Some (g ∷ groups))) reads
    ∙ behind-behind front group (groups_between dotted (pieces 58 after))

-- where a piece is no group, there are no groups
pub no_group : (dotted : Bool) (all : List (List ℕ)) (front rest piece after : List ℕ) → groups_between dotted all ≡ behind front (groups_between dotted (pieces 58 rest)) →
    pieces 58 rest ≡ piece ∷ pieces 58 after → hex_group piece ≡ None → groups_between dotted all ≡ None
no_group dotted all front rest piece after so_far cut reads =
    so_far ∙ ap (λ ps. behind front (groups_between dotted ps)) cut ∙ ap (behind front) (groups_of-piece dotted piece after)
    ∙ ap (λ o. behind front (o >>= λ g. groups_between dotted (pieces 58 after) >>= λ groups. Some (g ∷ groups))) reads

-- what is kept has room
pub kept : (groups found : List ℕ) → at_most_eight (Some found) ≡ Some groups → (found ≡ groups) × (length groups ≤ 8)
kept groups found is =
    let (fits, same) = cond_some _ _ _ is in
    (same, rw same at (leb-true (length found) 8 fits))

refused : (b : Bool) (groups : List ℕ) → cond b (Some groups) None ≡ None → b ≡ false
refused true groups is = cc
refused false groups is = refl

-- where there are too many already, there are too many
pub too_many : (front : List ℕ) (found : Option (List ℕ)) → at_most_eight (Some front) ≡ None → at_most_eight (behind front found) ≡ None
too_many front None full = refl
too_many front (Some groups) full =
    let past = leb-false (length front) 8 (refused _ front full) in
    rw (lt-leb (length (front ++ groups)) 8 (omega (arith, length-append front groups)))
