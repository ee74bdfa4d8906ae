use Rattle.std.proofs.Common.{◌≡◌, List, ap, ◌∙◌, map, subst, sym, true}
use Rattle.std.proofs.lemmas.Result.{IfOk-weaker}
use Rattle.np_exposure.proofs.BeginLemmas.{are_at-first}
use Rattle.np_exposure.proofs.FirstLemmas.{IsState-first}
use Rattle.np_exposure.specs.Prelude.{AreWalked, Choices, IsState, SidedRequirement, are_at, choices_at_first, choices_of, each_once, mentioned_keys}
use Rattle.np_rules.specs.Prelude.{PodSide}
use Rattle.np_exposure.proofs.exposures.rows_of_mentions.Goals as goal

pub rows_of_labels-requires : goal.rows_of_labels-requires
rows_of_labels-requires c =
    let first : map choices_of c.deref-2.result.now ≡ choices_at_first c.args.mentions.items = ap (map choices_of)
    (c.deref-2.ensures.value ∙ c.in_ok-labels.ensures ∙ ap mentioned_keys c.deref.ensures.value) in
    let requirements : c.deref-3.result.now ≡ each_once c.args.mentions.items = c.deref-3.ensures.value ∙ c.in_ok-requirements.ensures in
    record {
      state = subst IsState (sym first) (IsState-first c.args.mentions.items);
      keys = subst (λ (state : List Choices). are_at state c.deref-3.result.now ≡ true) (sym first)
          (subst (λ (all : List SidedRequirement). are_at (choices_at_first c.args.mentions.items) all ≡ true) (sym requirements) (are_at-first c.args.mentions.items));
    }

pub returns : goal.returns
returns c =
    let first : map choices_of c.deref-2.result.now ≡ choices_at_first c.args.mentions.items = ap (map choices_of)
    (c.deref-2.ensures.value ∙ c.in_ok-labels.ensures ∙ ap mentioned_keys c.deref.ensures.value) in
    let requirements : c.deref-3.result.now ≡ each_once c.args.mentions.items = c.deref-3.ensures.value ∙ c.in_ok-requirements.ensures in
    IfOk-weaker c.rows_of_labels.result _ _
    (λ rows walked. subst (λ (side : PodSide). AreWalked side (each_once c.args.mentions.items) (choices_at_first c.args.mentions.items) rows) c.in_ok-rules.ensures
    (subst (λ (all : List SidedRequirement). AreWalked c.in_ok-rules.rules all (choices_at_first c.args.mentions.items) rows) requirements
    (subst (λ (state : List Choices). AreWalked c.in_ok-rules.rules c.deref-3.result.now state rows) first walked)))
    c.rows_of_labels.ensures
