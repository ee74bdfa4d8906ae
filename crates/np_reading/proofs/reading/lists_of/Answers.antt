use Rattle.std.proofs.Common.{◌≡◌, ◌∙◌, List, Option, ap, subst}
use Rattle.std.specs.Prelude.{IfOk}
use Rattle.np_reading.specs.Prelude.{EstateLists, Finished, Host, Item, PodContext, Skipped, contexts_of, count_left_out, nothing, seen, with_items}
use Rattle.np_reading.proofs.GatherLemmas.{lists-gathered}
use Rattle.np_reading.proofs.reading.lists_of.Goals as goal

pub returns : goal.returns
returns c =
    let items = c.args.items in
    let arounds = c.in_ok-contexts.ensures ∙ ap contexts_of c.items-7.ensures in
    let all = c.in_ok-gather.ensures ∙ ap (λ (contexts : List (Option PodContext)). with_items nothing 1 items contexts) arounds in
    let host = c.count_left_out.ensures ∙ ap (λ (listed : List Item). count_left_out listed Host) c.items-4.ensures in
    let finished = c.count_left_out-2.ensures ∙ ap (λ (listed : List Item). count_left_out listed Finished) c.items-5.ensures in
    let skipped = c.count_left_out-3.ensures ∙ ap (λ (listed : List Item). count_left_out listed Skipped) c.items-6.ensures in
    let made = lists-gathered items (seen c.in_ok-gather.field-0) c.count_left_out.result c.count_left_out-2.result c.count_left_out-3.result all host finished skipped in
    subst (λ (lists : EstateLists). IfOk c.in_order.result (λ made. made ≡ lists)) made c.in_order.ensures
