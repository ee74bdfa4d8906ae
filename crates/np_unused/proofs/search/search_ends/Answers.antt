use Rattle.std.proofs.Common.{◌∙◌, ap}
use Rattle.std.proofs.lemmas.Result.{IfOk-weaker}
use Rattle.np_unused.proofs.StepLemmas.{all_left_known, knows_all_grows, not_searched, searched_as, searched_both}
use Rattle.np_unused.proofs.search.search_ends.Goals as goal
use Rattle.np_unused.specs.Prelude.{AllEnds, EstateLists, KnowsAll, KnowsFamilies, KnowsLeft, KnowsToward, OneKind}
use Rattle.np_model.specs.Prelude.{families_of}
use Rattle.np_rules.specs.Prelude.{is_address_spot, with_addresses}

pub returns-then-has_all : goal.returns-then-has_all
returns-then-has_all c =
    let side = c.args.search.now.side.now in
    let kinds = c.args.search.now.kinds.pods.now in
    let near = c.args.search.now.near in
    not_searched side.lists side.direction (KnowsLeft side kinds near c.args.left) c.args.used.now
    (all_left_known side c.requires.search.lawful c.args.search.now.rules.now c.requires.search.rules kinds near c.args.used.now c.has_all.result c.has_all.ensures c.if-has_all.true c.args.left)

pub search_families-requires-clause-families : goal.search_families-requires-clause-families
search_families-requires-clause-families c = c.families-families.ensures ∙ ap (λ (lists : EstateLists). families_of lists.pods) c.requires.search.estate_is

pub search_toward-requires-clause-families : goal.search_toward-requires-clause-families
search_toward-requires-clause-families c = c.families-families.ensures ∙ ap (λ (lists : EstateLists). families_of lists.pods) c.requires.search.estate_is

pub returns-in_ok-search_addresses-in-AllEnds : goal.returns-in_ok-search_addresses-in-AllEnds
returns-in_ok-search_addresses-in-AllEnds c =
    let side = c.args.search.now.side.now in
    let kinds = c.args.search.now.kinds.pods.now in
    let near = c.args.search.now.near in
    let middle = c.search_addresses.new.used in
    let new = c.search_families.new.used in
    rw c.in-AllEnds.is (IfOk-weaker c.search_families.result _ _
    (λ _ later. searched_both side.lists side.direction (KnowsAll is_address_spot side with_addresses) (KnowsFamilies side kinds near) (KnowsLeft side kinds near AllEnds) c.args.used.now middle new
    (λ grows addresses pods. record { addresses = knows_all_grows is_address_spot side with_addresses middle new grows addresses; pods = pods })
    c.in_ok-search_addresses-in-AllEnds.ensures later)
    c.search_families.ensures)

pub returns-in-OneKind : goal.returns-in-OneKind
returns-in-OneKind c =
    let side = c.args.search.now.side.now in
    let kinds = c.args.search.now.kinds.pods.now in
    let near = c.args.search.now.near in
    rw c.in-OneKind.is (IfOk-weaker c.search_toward.result _ _
    (λ _ found. searched_as side.lists side.direction (KnowsToward side kinds near c.in-OneKind.kind) (KnowsLeft side kinds near (OneKind c.in-OneKind.kind)) c.args.used.now c.search_toward.new.used
    (λ known. known) found)
    c.search_toward.ensures)
