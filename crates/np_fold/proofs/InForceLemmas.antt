-- A key that is among those of the estate is one that a selector in force names. For `each_key_is_named_by_a_selector`.
use Rattle.std.proofs.Common.{◌≡◌, ℕ, suc, List, [], ◌∷◌, ◌++◌, Option, Some, None, true, inl, inr, refl, sym, ap, ◌∙◌, arith}
use Rattle.std.specs.Prelude.{◌⊎◌, Contains}
use Rattle.std.specs.List.{flat_map}
use Rattle.std.specs.Str.{bytes_eq}
use Rattle.std.proofs.lemmas.Bool.{false≢true, or_cases}
use Rattle.std.proofs.lemmas.List.Folds.{list_any-append}
use Rattle.np_fold.specs.Prelude.{AdminPeer, EstateLists, IsInForce, IsNamed, IsOfAdminPeer, IsOfNetDirection, IsOfNetPeer, IsOfNetPolicy, IsOfNetRule, IsOfSubject, NetPeer, NetPolicy, NetRule, Selector, Subject, admin_subjects, keys_of_admin_peer, keys_of_estate, keys_of_net_direction, keys_of_net_peer, keys_of_net_policy, keys_of_net_rule, keys_of_optional, keys_of_selector, keys_of_service, keys_of_subject}
use Rattle.np_fold.specs.InForce as force
use Rattle.np_labels.specs.Prelude.{is_listed}
use Rattle.np_model.specs.Prelude.{admin_peers}
use Rattle.np_model.specs.declared.admin_policy.AdminPeer.TheVariants as admin
use Rattle.np_model.specs.declared.network_policy.NetPeer.TheVariants as net

-- what one of two lists has, or one of the lists that are made of the items of a list
halves : (key : List ℕ) (xs ys : List (List ℕ)) → is_listed (xs ++ ys) key ≡ true → (is_listed xs key ≡ true) ⊎ (is_listed ys key ≡ true)
halves key xs ys is = or_cases (is_listed xs key) (is_listed ys key) (sym (list_any-append (λ listed. bytes_eq listed key) xs ys) ∙ is)

record Where {X : Type 0} (keys_of : X → List (List ℕ)) (xs : List X) (key : List ℕ) : Type 0 where
  item : X
  listed : Contains xs item
  has : is_listed (keys_of item) key ≡ true

somewhere : {X : Type 0} (keys_of : X → List (List ℕ)) (key : List ℕ) (xs : List X) → is_listed (flat_map keys_of xs) key ≡ true → Where keys_of xs key
somewhere keys_of key [] is = absurd (false≢true is)
somewhere {X} keys_of key (x ∷ xs) is = go (somewhere keys_of key xs) (halves key (keys_of x) (flat_map keys_of xs) is)
  where
    go : (is_listed (flat_map keys_of xs) key ≡ true → Where keys_of xs key) → (is_listed (keys_of x) key ≡ true) ⊎ (is_listed (flat_map keys_of xs) key ≡ true) → Where keys_of (x ∷ xs) key
    go further (inl here) = record { item = x; listed = (0, omega arith, refl); has = here }
    go further (inr later) =
        let found = further later in
        record { item = found.item; listed = (suc found.listed.0, (let inside = found.listed.1 in omega (arith, inside)), found.listed.2); has = found.has }

module _ (key : List ℕ) where
  -- a selector of some kind has a requirement of the key
  record Found (Is : Selector → Type 0) : Type 0 where
    selector : Selector
    is : Is selector
    names : is_listed (keys_of_selector selector) key ≡ true

  again : {Is Are : Selector → Type 0} → ((selector : Selector) → Is selector → Are selector) → Found Is → Found Are
  again more found = record { selector = found.selector; is = more found.selector found.is; names = found.names }

  optional : (given : Option Selector) → is_listed (keys_of_optional given) key ≡ true → Found (λ selector. given ≡ Some selector)
  optional None is = absurd (false≢true is)
  optional (Some selector) is = record { selector = selector; is = refl; names = is }

  net_peer : (peer : NetPeer) → is_listed (keys_of_net_peer peer) key ≡ true → Found (λ selector. IsOfNetPeer selector peer)
  net_peer (net.Pods namespaces pods) is =
      elim (halves key (keys_of_optional namespaces) (keys_of_optional pods) is) [
        | inl one ↦ again (λ selector given. force.IsOfNetPeer.namespaces pods (ap (λ (some : Option Selector). net.Pods some pods) given)) (optional namespaces one)
        | inr other ↦ again (λ selector given. force.IsOfNetPeer.pods namespaces (ap (λ (some : Option Selector). net.Pods namespaces some) given)) (optional pods other)
      ]
  net_peer (net.Block cidr excepts) is = absurd (false≢true is)

  net_rule : (rule : NetRule) → is_listed (keys_of_net_rule rule) key ≡ true → Found (λ selector. IsOfNetRule selector rule)
  net_rule rule is =
      let found = somewhere keys_of_net_peer key rule.peers is in
      again (λ selector has. record { peer = found.item; listed = found.listed; has = has }) (net_peer found.item found.has)

  net_direction : (direction : Option (List NetRule)) → is_listed (keys_of_net_direction direction) key ≡ true → Found (λ selector. IsOfNetDirection selector direction)
  net_direction None is = absurd (false≢true is)
  net_direction (Some rules) is =
      let found = somewhere keys_of_net_rule key rules is in
      again (λ selector has. record { rules = rules; there = refl; rule = found.item; listed = found.listed; has = has }) (net_rule found.item found.has)

  net_policy : (policy : NetPolicy) → is_listed (keys_of_net_policy policy) key ≡ true → Found (λ selector. IsOfNetPolicy selector policy)
  net_policy policy is =
      elim (halves key (keys_of_selector policy.subject ++ keys_of_net_direction policy.ingress) (keys_of_net_direction policy.egress) is) [
        | inl most ↦ elim (halves key (keys_of_selector policy.subject) (keys_of_net_direction policy.ingress) most) [
          | inl one ↦ record { selector = policy.subject; is = force.IsOfNetPolicy.subject refl; names = one }
          | inr other ↦ again (λ selector has. force.IsOfNetPolicy.ingress has) (net_direction policy.ingress other)
        ]
        | inr other ↦ again (λ selector has. force.IsOfNetPolicy.egress has) (net_direction policy.egress other)
      ]

  admin_peer : (peer : AdminPeer) → is_listed (keys_of_admin_peer peer) key ≡ true → Found (λ selector. IsOfAdminPeer selector peer)
  admin_peer (admin.Pods namespaces pods) is =
      elim (halves key (keys_of_selector namespaces) (keys_of_selector pods) is) [
        | inl one ↦ record { selector = namespaces; is = force.IsOfAdminPeer.namespaces pods refl; names = one }
        | inr other ↦ record { selector = pods; is = force.IsOfAdminPeer.pods namespaces refl; names = other }
      ]
  admin_peer (admin.Networks cidrs) is = absurd (false≢true is)

  subject : (subject : Subject) → is_listed (keys_of_subject subject) key ≡ true → Found (λ selector. IsOfSubject selector subject)
  subject given is =
      elim (halves key (keys_of_selector given.namespaces) (keys_of_selector given.pods) is) [
        | inl one ↦ record { selector = given.namespaces; is = force.IsOfSubject.namespaces refl; names = one }
        | inr other ↦ record { selector = given.pods; is = force.IsOfSubject.pods refl; names = other }
      ]

  in_force : (lists : EstateLists) → is_listed (keys_of_estate lists) key ≡ true → Found (λ selector. IsInForce lists selector)
  in_force lists is =
      let nets = flat_map keys_of_net_policy lists.net_policies in
      let subjects = flat_map keys_of_subject (admin_subjects lists) in
      let peers = flat_map keys_of_admin_peer (admin_peers lists.admin_policies lists.baseline) in
      elim (halves key (nets ++ subjects ++ peers) (flat_map keys_of_service lists.services) is) [
        | inl more ↦ elim (halves key (nets ++ subjects) peers more) [
          | inl most ↦ elim (halves key nets subjects most) [
            | inl one ↦
                let found = somewhere keys_of_net_policy key lists.net_policies one in
                again (λ selector has. force.IsInForce.of_net_policy found.item found.listed has) (net_policy found.item found.has)
            | inr other ↦
                let found = somewhere keys_of_subject key (admin_subjects lists) other in
                again (λ selector has. force.IsInForce.of_subject found.item found.listed has) (subject found.item found.has)
          ]
          | inr other ↦
              let found = somewhere keys_of_admin_peer key (admin_peers lists.admin_policies lists.baseline) other in
              again (λ selector has. force.IsInForce.of_admin_peer found.item found.listed has) (admin_peer found.item found.has)
        ]
        | inr other ↦
            let found = somewhere keys_of_service key lists.services other in
            again (λ selector given. force.IsInForce.of_service found.item found.listed given) (optional found.item.selector found.has)
      ]

  pub named-somewhere : (lists : EstateLists) → is_listed (keys_of_estate lists) key ≡ true → IsNamed lists key
  named-somewhere lists is = let found = in_force lists is in record { selector = found.selector; in_force = found.is; names = found.names }
