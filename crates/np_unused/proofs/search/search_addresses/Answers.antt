use Rattle.std.proofs.lemmas.Result.{IfOk-weaker}
use Rattle.np_unused.proofs.SearchLemmas.{layer_searched}
use Rattle.np_unused.proofs.search.search_addresses.Goals as goal
use Rattle.np_rules.specs.Prelude.{has_address_spot, is_address_spot, with_addresses}

pub returns : goal.returns
returns c =
    IfOk-weaker c.note_layer.result _ _
    (λ _ noted. layer_searched has_address_spot is_address_spot c.args.search.now.side.now with_addresses c.in_ok-layer.layer c.requires.search.lawful c.in_ok-layer.ensures.layer c.args.search.now.rules.now
    c.requires.search.rules c.args.used.now c.note_layer.new.self c.requires.search.addresses noted)
    c.note_layer.ensures
