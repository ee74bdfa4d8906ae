use Rattle.std.proofs.Common.{sym, ap, ◌∙◌}
use Rattle.np_flatten.specs.Prelude.{first_split_of}
use Rattle.np_flatten.proofs.SplitLemmas.{found-first, none-left, rows-first}
use Rattle.np_flatten.proofs.split.split_in_rows.Goals as goal

pub returns-then-is_some : goal.returns-then-is_some
returns-then-is_some g c =
    found-first c.loop-rows.rows.rows c.next.new.self.rows c.in-Some.row c.split_of-found.result (rw c.in-Some.is at c.in_ok-row.ensures.given) c.split_of-found.ensures
    (sym c.is_some.ensures ∙ c.if-is_some.true)
    ∙ c.loop-rows.invariant
    ∙ rows-first c.args.folded.now

pub returns : goal.returns
returns g c =
    sym (ap first_split_of (none-left c.in_ok-row.field-0 c.loop-rows.rows.rows c.next.new.self.rows c.in_ok-row.ensures.given c.in_default.not-Some))
    ∙ c.loop-rows.invariant
    ∙ rows-first c.args.folded.now
