use Rattle.std.proofs.Common.{◌≡◌, ◌||◌, ℕ, List, Bor, Ok, ap, ◌∙◌}
use Rattle.std.specs.BTreeSet.{contains}
use Rattle.std.specs.Ordering.{eq_by_cmp, nat_cmp}
use Rattle.std.specs.Set.{is_member}
use Rattle.std.proofs.lemmas.Iterator.Adapters.{fact_from_extend}
use Rattle.std.proofs.lemmas.Iterator.Consumers.{YieldsList-from_rest}
use Rattle.np_routes.proofs.PortSetLemmas.{compare_texts, lent, sets-joined}
use Rattle.np_routes.proofs.port_set.PortSet.add_all.Goals as goal
use Rattle.np_routes.specs.Prelude.{has_text}

pub returns : goal.returns
returns c port =
    let numbers : (number : ℕ) → contains nat_cmp c.extend.new.self number ≡ (contains nat_cmp c.args.self.now.numbers number || contains nat_cmp c.args.other.now.numbers number) =
    fact_from_extend {E = ℕ} (λ y. y.now) (Ok c.in_ok-extend.field-0) c.in_ok-extend.ensures.ran (λ it b. YieldsList-from_rest c.args.other.now.numbers.keys b.0)
    (λ xs e h number. h.0 number ∙ ap (λ (keys : List ℕ). contains nat_cmp c.args.self.now.numbers number || is_member (eq_by_cmp nat_cmp) keys number) e) in
    let names : (name : List ℕ) → has_text c.extend-2.new.self name ≡ (has_text c.args.self.now.names name || has_text c.args.other.now.names name) =
    fact_from_extend {E = ℕ} (λ y. y.now) (Ok c.in_ok-extend-2.field-0) c.in_ok-extend-2.ensures.ran (λ it b. YieldsList-from_rest c.args.other.now.names.keys b.0)
    (λ xs e h name. h.0 (lent name) ∙ ap (λ (keys : List (Bor (List ℕ))). has_text c.args.self.now.names name || is_member (eq_by_cmp compare_texts) keys (lent name)) e) in
    sets-joined c.args.self.now c.args.other.now (record { numbers = c.extend.new.self; names = c.extend-2.new.self }) numbers names port
