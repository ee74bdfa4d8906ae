use Rattle.std.proofs.Common.{◌≡◌, ℕ, ◌||◌, Bool, length, not, replicate, ap, ◌∙◌}
use Rattle.std.specs.List.{list_any}
use Rattle.std.proofs.lemmas.List.{length-replicate}
use Rattle.np_reach.proofs.SpokenLemmas.{row_is, twice_marked}
use Rattle.np_reach.proofs.reach.row_of.Goals as goal
use Rattle.np_reach.specs.Prelude.{speaks_at}

pub returns : goal.returns
returns c =
    let net : ℕ → Bool = λ place. list_any (λ far. speaks_at far.now place) c.args.net.now in
    let admin : ℕ → Bool = λ place. list_any (λ far. speaks_at far.now place) c.args.admin.now in
    let filled : c.in_ok-row.row.items ≡ replicate c.args.count (not c.args.isolated) = c.in_ok-row.ensures.items_if_clones_equal (λ b same. same) in
    c.from_vec.ensures
    ∙ row_is (λ place. not c.args.isolated || (net place || admin place)) c.mark_chosen-2.new.row.items c.args.count
    (c.mark_chosen-2.ensures.length ∙ c.mark_chosen.ensures.length ∙ ap length filled ∙ length-replicate c.args.count (not c.args.isolated))
    (λ place low. twice_marked c.in_ok-row.row.items c.mark_chosen.new.row.items c.mark_chosen-2.new.row.items (not c.args.isolated) c.args.count place (net place) (admin place) filled low
    (c.mark_chosen.ensures.marked place) (c.mark_chosen-2.ensures.marked place))
