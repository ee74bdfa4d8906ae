use Rattle.std.proofs.Common.{arith, refl, ap, subst, sym, ◌∙◌}
use Rattle.std.proofs.lemmas.Result.{IfOk-weaker}
use Rattle.np_table.specs.Prelude.{Egress, EstateLists, Ingress}
use Rattle.np_kinds.specs.Prelude.{IsWorkload, kind_side}
use Rattle.np_model.specs.Prelude.{families_of}
use Rattle.np_table.proofs.SideLemmas.{sides-stand, stand-counted, stand-rows}
use Rattle.np_table.proofs.rows_by_kind.rows_of_kinds.Goals as goal

pub rows_of_sides-requires : goal.rows_of_sides-requires
rows_of_sides-requires g c = record {
  source_in = subst (λ (l : EstateLists). IsWorkload l c.args.pair.source) (sym c.ask_pair.ensures.more.lists) c.requires.source;
  destination_in = subst (λ (l : EstateLists). IsWorkload l c.args.pair.destination) (sym c.ask_pair.ensures.more.lists) c.requires.destination;
  sends = c.in_ok-ask_pair.ensures.sender;
  receives = c.in_ok-ask_pair.ensures.receiver;
}

pub returns-clause-rows : goal.returns-clause-rows
returns-clause-rows g c =
    let lists = c.ask_pair.new.self.lists in
    let sender = kind_side lists Egress c.args.pair.source in
    let receiver = kind_side lists Ingress c.args.pair.destination in
    let stand = sides-stand c.args.sides.now.lists lists c.args.pair.source c.args.pair.destination sender receiver c.ask_pair.ensures.more.lists c.at-sender.ensures.lawful c.requires.source
    c.requires.destination refl refl in
    let families = c.families-families.ensures ∙ ap (λ (lists : EstateLists). families_of lists.pods) (c.estate.ensures.value ∙ c.folded.ensures ∙ c.ask_pair.ensures.more.lists) in
    IfOk-weaker c.rows_of_sides.result _ _ (λ made is. is
    ∙ stand-rows c.args.sides.now.lists c.args.pair.source c.args.pair.destination sender receiver c.families-families.result.now stand families c.requires.apart) c.rows_of_sides.ensures.rows

pub returns-clause-most : goal.returns-clause-most
returns-clause-most g c =
    let stand = sides-stand c.args.sides.now.lists c.ask_pair.new.self.lists c.args.pair.source c.args.pair.destination c.at-sender.result.now c.at-receiver.result.now c.ask_pair.ensures.more.lists
    c.at-sender.ensures.lawful c.requires.source c.requires.destination c.at-sender.ensures.side c.at-receiver.ensures.side in
    let families = c.families-families.ensures ∙ ap (λ (lists : EstateLists). families_of lists.pods) (c.estate.ensures.value ∙ c.folded.ensures ∙ c.ask_pair.ensures.more.lists) in
    omega (
      arith,
      c.count_ends.ensures,
      stand-counted c.args.sides.now.lists c.args.pair.source c.args.pair.destination c.at-sender.result.now c.at-receiver.result.now c.families-families.result.now stand families,
    )
