-- Places of services that are kept by namespace and name. For `Services::of` and `put`.
use Rattle.std.proofs.Common.{◌≡◌, ◌<◌, ◌+◌, ℕ, List, [], ◌∷◌, Bool, true, false, ◌&&◌, Option, Some, None, Bor, Less, Equal, Greater, Ordering, length, get_or, take, is_some, refl, sym, ap, ◌∙◌, if◌then◌else◌, cond}
use Rattle.std.specs.BTreeMap.{BTreeMap, Updates}
use Rattle.std.specs.Cmp.Lexicographic.{bytes_decides, slice_cmp}
use Rattle.std.specs.Option.{option_or}
use Rattle.std.specs.Ordering.{is_eq, nat_cmp, ordering_then}
use Rattle.std.specs.Str.{bytes_eq}
use Rattle.std.proofs.lemmas.Bool.{and_parts}
use Rattle.std.proofs.lemmas.List.{take_more}
use Rattle.std.proofs.lemmas.List.Folds.{find-append}
use Rattle.std.proofs.lemmas.Map.Text.{is_eq-slice_cmp}
use Rattle.std.proofs.lemmas.Option.{slice_get-get_or}
use Rattle.np_routes.specs.Prelude.{IsPlaceOf, ServiceItem, is_service, place_at, service_named}
use Rattle.np_routes.proofs.PortSetLemmas.{lent}

-- the order of two keys
abbrev pub compare_keys : Bor (List ℕ) × Bor (List ℕ) → Bor (List ℕ) × Bor (List ℕ) → Ordering
compare_keys one other = ordering_then (slice_cmp nat_cmp one.0.now other.0.now) (slice_cmp nat_cmp one.1.now other.1.now)

is_eq-then : (first second : Ordering) → is_eq (ordering_then first second) ≡ (is_eq first && is_eq second)
is_eq-then Less second = refl
is_eq-then Equal second = refl
is_eq-then Greater second = refl

-- two names compare equal where they are equal
names-equal : (namespace name namespace' name' : List ℕ) →
    is_eq (ordering_then (slice_cmp nat_cmp namespace namespace') (slice_cmp nat_cmp name name')) ≡ (bytes_eq namespace namespace' && bytes_eq name name')
names-equal namespace name namespace' name' =
    is_eq-then (slice_cmp nat_cmp namespace namespace') (slice_cmp nat_cmp name name')
    ∙ ap (λ (b : Bool). b && is_eq (slice_cmp nat_cmp name name')) (is_eq-slice_cmp namespace namespace')
    ∙ ap (λ (b : Bool). bytes_eq namespace namespace' && b) (is_eq-slice_cmp name name')

-- ---- one service more

module _ (places : BTreeMap (Bor (List ℕ) × Bor (List ℕ)) ℕ) (service : ServiceItem) (place : ℕ) (namespace name : List ℕ) where
  -- under its own name stands what stands under that name
  own-place : is_service namespace name service ≡ true → place_at places namespace name ≡ place_at places service.namespace service.name
  own-place is =
      let both = and_parts (bytes_eq service.namespace namespace) (bytes_eq service.name name) is in
      ap (λ (text : List ℕ). place_at places text name) (sym ((bytes_decides service.namespace namespace).0 both.0))
      ∙ ap (λ (text : List ℕ). place_at places service.namespace text) (sym ((bytes_decides service.name name).0 both.1))

  or_none : (kept : Option ℕ) → kept ≡ option_or kept None
  or_none None = refl
  or_none (Some one) = refl

  or_some : (kept : Option ℕ) → is_some kept ≡ true → kept ≡ option_or kept (Some place)
  or_some None is = cc
  or_some (Some one) is = refl

  not_some : (kept : Option ℕ) → is_some kept ≡ false → Some place ≡ option_or kept (Some place)
  not_some None is = refl
  not_some (Some one) is = cc

  -- where an earlier one stands there nothing changes
  pub place-stays : is_some (place_at places service.namespace service.name) ≡ true →
      place_at places namespace name ≡ option_or (place_at places namespace name) (if is_service namespace name service then Some place else None)
  place-stays there = by (is_service namespace name service) refl
    where
      by : (here : Bool) → is_service namespace name service ≡ here → place_at places namespace name ≡ option_or (place_at places namespace name) (if here then Some place else None)
      by true is = or_some (place_at places namespace name) (ap is_some (own-place is) ∙ there)
      by false is = or_none (place_at places namespace name)

  -- and else it is put there
  pub place-put : (after : BTreeMap (Bor (List ℕ) × Bor (List ℕ)) ℕ) (own_namespace own_name : Bor (List ℕ)) → own_namespace.now ≡ service.namespace → own_name.now ≡ service.name →
      is_some (place_at places own_namespace.now own_name.now) ≡ false → Updates compare_keys places after (own_namespace, own_name) (Some place)
      → place_at after namespace name ≡ option_or (place_at places namespace name) (if is_service namespace name service then Some place else None)
  place-put after own_namespace own_name of_namespace of_name absent updates =
      updates.0 (lent namespace, lent name)
      ∙ ap (λ (here : Bool). cond here (Some place) (place_at places namespace name)) (names-equal own_namespace.now own_name.now namespace name
      ∙ ap (λ (text : List ℕ). bytes_eq text namespace && bytes_eq own_name.now name) of_namespace
      ∙ ap (λ (text : List ℕ). bytes_eq service.namespace namespace && bytes_eq text name) of_name)
      ∙ by (is_service namespace name service) refl
    where
      none : is_some (place_at places service.namespace service.name) ≡ false
      none = ap (λ (text : List ℕ). is_some (place_at places service.namespace text)) (sym of_name) ∙ ap (λ (text : List ℕ). is_some (place_at places text own_name.now)) (sym of_namespace) ∙ absent

      by : (here : Bool) → is_service namespace name service ≡ here →
          cond here (Some place) (place_at places namespace name) ≡ option_or (place_at places namespace name) (if here then Some place else None)
      by true is = not_some (place_at places namespace name) (ap is_some (own-place is) ∙ none)
      by false is = or_none (place_at places namespace name)

-- ---- the first services of a list

-- the first of one service more
named-more : (listed : List ServiceItem) (i : ℕ) (service : ServiceItem) (namespace name : List ℕ) → i < length listed → service ≡ get_or listed i service →
    service_named (take (i + 1) listed) namespace name ≡ option_or (service_named (take i listed) namespace name) (if is_service namespace name service then Some service else None)
named-more listed i service namespace name within item =
    ap (λ (services : List ServiceItem). service_named services namespace name) (take_more listed i service within)
    ∙ find-append (is_service namespace name) (take i listed) (get_or listed i service ∷ [])
    ∙ ap (λ (one : ServiceItem). option_or (service_named (take i listed) namespace name) (if is_service namespace name one then Some one else None)) (sym item)

pub place-next : (listed : List ServiceItem) (i : ℕ) (service : ServiceItem) (namespace name : List ℕ) (before after : Option ℕ) → i < length listed → service ≡ get_or listed i service →
    IsPlaceOf listed (service_named (take i listed) namespace name) before → after ≡ option_or before (if is_service namespace name service then Some i else None)
    → IsPlaceOf listed (service_named (take (i + 1) listed) namespace name) after
place-next listed i service namespace name before after within item held put =
    rw (put, named-more listed i service namespace name within item) (by before (is_service namespace name service) (service_named (take i listed) namespace name) held)
  where
    by : (kept : Option ℕ) (here : Bool) (found : Option ServiceItem) → IsPlaceOf listed found kept →
        IsPlaceOf listed (option_or found (if here then Some service else None)) (option_or kept (if here then Some i else None))
    by None true found none = rw none (within, sym (slice_get-get_or listed i service within ∙ ap Some (sym item)))
    by None false found none = rw none refl
    by (Some place) here found is =
        let there = slice_get-get_or listed place service is.0 in
        rw (is.1 ∙ there) (is.0, sym there)
