use Rattle.std.proofs.Common.{refl, subst, sym, ◌∙◌}
use Rattle.std.proofs.lemmas.Result.{IfOk-weaker}
use Rattle.np_kinds.specs.Prelude.{IsWorkload, kind_side}
use Rattle.np_table.proofs.SideLemmas.{sides-stand}
use Rattle.np_table.proofs.pair_sets.set_by_kinds.Goals as goal
use Rattle.np_table.specs.Prelude.{Egress, EstateLists, Ingress}

pub set_of_kinds-requires : goal.set_of_kinds-requires
set_of_kinds-requires c = record {
  source_in = subst (λ (l : EstateLists). IsWorkload l c.args.source) (sym c.ask_pair.ensures.more.lists) c.requires.source;
  destination_in = subst (λ (l : EstateLists). IsWorkload l c.args.destination) (sym c.ask_pair.ensures.more.lists) c.requires.destination;
  sends = c.in_ok-ask_pair.ensures.sender;
  receives = c.in_ok-ask_pair.ensures.receiver;
}

pub returns-clause-set : goal.returns-clause-set
returns-clause-set c =
    let lists = c.ask_pair.new.self.lists in
    let stand = sides-stand c.args.sides.now.lists lists c.args.source c.args.destination (kind_side lists Egress c.args.source) (kind_side lists Ingress c.args.destination)
    c.ask_pair.ensures.more.lists c.set_of_kinds.ensures.lawful c.requires.source c.requires.destination refl refl in
    IfOk-weaker c.set_of_kinds.result _ _ (λ made is. is ∙ stand.conns c.args.family c.requires.apart) c.set_of_kinds.ensures.set
