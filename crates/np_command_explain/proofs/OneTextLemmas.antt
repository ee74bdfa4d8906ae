-- Explanations of the same ends have one text. For `one_text_says_what_decides`.
use Rattle.std.proofs.Common.{◌≡◌, ℕ, List, [], ◌∷◌, Contains, Option, Some, None, filter, refl, sym, subst, ◌∙◌, arith}
use Rattle.np_addr.specs.Prelude.{family_of}
use Rattle.np_command_explain.specs.Prelude.{AreNamed, Egress, End, EndWord, EstateLists, Explains, ExplainsAll, Explanation, Family, Four, Ingress, Shown, Six, explain_text, one_for_all, one_for_each, shown, shown_text}
use Rattle.np_command.specs.Prelude.{SinkTrace, end_text}
use Rattle.np_conns.proofs.ConnLemmas.{conns_text-agrees}
use Rattle.np_conns.specs.Prelude.{conns_text, has_spot}
use Rattle.np_explain.proofs.OneListLemmas.{one_is_right}
use Rattle.np_explain.specs.Prelude.{IsRightFor, decider_between, packet_families}
use Rattle.np_model.specs.Prelude.{has_family, or_four}
use Rattle.np_rules.specs.declared.packet.End.TheVariants as end

-- ---- in one family

module _ (lists : EstateLists) (source destination : End) (family : Family) (one other : Explanation) (is : IsRightFor lists source destination family one)
    (is' : IsRightFor lists source destination family other) where
  -- explanations that are right between two ends have the same parts
  same-parts : (one.egress ≡ other.egress) × (one.ingress ≡ other.ingress)
  same-parts = (
    one_is_right (decider_between lists Egress source destination family) one.egress other.egress is.egress is'.egress,
    one_is_right (decider_between lists Ingress source destination family) one.ingress other.ingress is.ingress is'.ingress,
  )

  -- and one text
  same-text : (from to : List ℕ) (mark : Option Family) → shown_text from to (shown mark one) ≡ shown_text from to (shown mark other)
  unfolding shown_text
  same-text from to mark =
      let ports : conns_text (has_spot one.conns) ≡ conns_text (has_spot other.conns) =
      conns_text-agrees (has_spot one.conns) (has_spot other.conns) (λ spot inside. is.conns spot inside ∙ sym (is'.conns spot inside)) in
      rw (same-parts.0, same-parts.1, ports) refl

-- ---- in all families

some-of : (families : List Family) → (family : Family) × Contains (or_four families) family
some-of [] = (Four, (0, omega arith, refl))
some-of (family ∷ families) = (family, (0, omega arith, refl))

-- between two ends there are packets of some family
some-family : (lists : EstateLists) (source destination : End) → (family : Family) × Contains (packet_families lists source destination) family
some-family lists (end.Pod p) (end.Pod q) = some-of (filter (has_family lists.pods) (Four ∷ Six ∷ []))
some-family lists (end.Pod p) (end.At address) = (family_of address, (0, omega arith, refl))
some-family lists (end.At address) destination = (family_of address, (0, omega arith, refl))

module _ (lists : EstateLists) (from to : EndWord) (source destination : End) (named : AreNamed lists from to source destination) where
  -- what is right in both families has the same parts in both
  both-same : (made four six : Explanation) → ((family : Family) → IsRightFor lists source destination family made) → IsRightFor lists source destination Four four →
      IsRightFor lists source destination Six six → (four.egress ≡ six.egress) × (four.ingress ≡ six.ingress)
  both-same made four six each right right' =
      let first = same-parts lists source destination Four made four (each Four) right in
      let second = same-parts lists source destination Six made six (each Six) right' in
      (sym first.0 ∙ second.0, sym first.1 ∙ second.1)

  explains-one : (name far : List ℕ) (all others : List Shown) → Explains lists from to all → Explains lists from to others → explain_text name far all ≡ explain_text name far others
  unfolding explain_text
  explains-one name far all others (one_for_all made is right) (one_for_all made' is' right') =
      let some = some-family lists source destination in
      let same = same-text lists source destination some.0 made made' (right some.0 source destination named some.1) (right' some.0 source destination named some.1) name far None in
      rw (is, is', same) refl
  explains-one name far all others (one_for_each four six is right right' both differ) (one_for_each four' six' is' also also' both' differ') =
      let first = same-text lists source destination Four four four' (right source destination named (both source destination Four named))
      (also source destination named (both source destination Four named)) name far (Some Four) in
      let second = same-text lists source destination Six six six' (right' source destination named (both source destination Six named))
      (also' source destination named (both source destination Six named)) name far (Some Six) in
      rw (is, is', first, second) refl
  explains-one name far all others (one_for_all made is right) (one_for_each four six is' also also' both differ) =
      absurd (differ (both-same made four six (λ family. right family source destination named (both source destination family named))
      (also source destination named (both source destination Four named)) (also' source destination named (both source destination Six named))))
  explains-one name far all others (one_for_each four six is also also' both differ) (one_for_all made is' right) =
      absurd (differ (both-same made four six (λ family. right family source destination named (both source destination family named))
      (also source destination named (both source destination Four named)) (also' source destination named (both source destination Six named))))

-- ---- reports of the same inputs and words

pub one-text : (out other : SinkTrace) (from to : EndWord) (texts : List (List ℕ)) (this : ExplainsAll out from to texts) (that : ExplainsAll other from to texts)
    → explain_text (end_text from) (end_text to) this.all ≡ explain_text (end_text from) (end_text to) that.all
one-text out other from to texts this that =
    let same : that.lists ≡ this.lists = cc (that.read, this.read) in
    explains-one this.lists from to this.source this.destination this.named (end_text from) (end_text to) this.all that.all this.explained
    (subst (λ (lists : EstateLists). Explains lists from to that.all) same that.explained)
