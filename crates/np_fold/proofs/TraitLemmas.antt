-- Equal traits, and pods that are alike. For `other_traits_tell_kinds_apart` and `traits_tell_pods_apart`.
use Rattle.std.proofs.Common.{◌≡◌, ◌↔◌, ℕ, List, refl, sym, ap, ◌∙◌}
use Rattle.std.specs.List.{filter_map}
use Rattle.std.proofs.lemmas.List.Elements.{All-from_recursion, recursion_from_All}
use Rattle.np_fold.specs.Prelude.{Alike, Cidr, EstateLists, HaveSame, IsSameKind, Owner, Pod, Traits, blocks_of, cidrs_of_estate, is_in, keys_of_estate, label_of, traits_of, with_owner}
use Rattle.np_fold.proofs.BlockLemmas.{agree-from_blocks, blocks-from_agree}
use Rattle.np_fold.proofs.LabelLemmas.{labels-from_values, values-from_labels}
use Rattle.np_labels.specs.Prelude.{is_listed}

module _ (lists : EstateLists) (keys : List (List ℕ)) (same : (key : List ℕ) → is_listed keys key ≡ is_listed (keys_of_estate lists) key) (cidrs : List Cidr)
    (blocks : HaveSame cidrs (cidrs_of_estate lists)) (a b : Pod) where
  to_kind : (owner : Owner) → with_owner owner (traits_of keys cidrs a) ≡ with_owner owner (traits_of keys cidrs b) → IsSameKind lists a b
  to_kind owner equal = record {
    namespace = ap (λ (t : Traits). t.namespace) equal;
    labels = λ key here. values-from_labels a.labels b.labels keys (ap (λ (t : Traits). t.labels) equal) key (same key ∙ here);
    ports = ap (λ (t : Traits). t.ports) equal;
    blocks = All-from_recursion _ (cidrs_of_estate lists) (agree-from_blocks cidrs (cidrs_of_estate lists) blocks (is_in a.addresses) (is_in b.addresses) (ap (λ (t : Traits). t.blocks) equal));
  }

  from_kind : (owner : Owner) → IsSameKind lists a b → with_owner owner (traits_of keys cidrs a) ≡ with_owner owner (traits_of keys cidrs b)
  from_kind owner kind =
      let labels : filter_map (label_of a.labels) keys ≡ filter_map (label_of b.labels) keys = labels-from_values a.labels b.labels keys (λ key here. kind.labels key (sym (same key) ∙ here)) in
      let places : blocks_of cidrs a.addresses ≡ blocks_of cidrs b.addresses = blocks-from_agree cidrs (cidrs_of_estate lists) blocks (is_in a.addresses) (is_in b.addresses)
      (recursion_from_All _ (cidrs_of_estate lists) kind.blocks) in
      rw (kind.namespace, labels, kind.ports, places) refl

  pub traits-same_kind : (owner : Owner) → (with_owner owner (traits_of keys cidrs a) ≡ with_owner owner (traits_of keys cidrs b)) ↔ IsSameKind lists a b
  traits-same_kind owner = (to_kind owner, from_kind owner)

  pub traits-alike : (traits_of keys cidrs a ≡ traits_of keys cidrs b) ↔ Alike lists a b
  traits-alike = (
    λ equal. record { kind = to_kind a.owner (ap (with_owner a.owner) equal); owner = ap (λ (t : Traits). t.owner) equal },
    λ alike. from_kind a.owner alike.kind ∙ ap (λ (owner : Owner). with_owner owner (traits_of keys cidrs b)) alike.owner,
  )
