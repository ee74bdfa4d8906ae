-- A list of addresses, and a set of the same addresses. For `keep`.
use Rattle.std.proofs.Common.{◌≡◌, ◌∙◌, ℕ, List, [], ◌∷◌, ◌++◌, Bool, true, false, cond, not, ◌||◌, ◌==◌, if◌then◌else◌, Option, Some, refl, ap, sym, arith}
use Rattle.std.specs.BTreeMap.{is_at}
use Rattle.std.specs.List.{list_any}
use Rattle.std.specs.Ordering.{nat_cmp, is_eq}
use Rattle.std.specs.declared.cmp.Ordering.{Ordering}
use Rattle.std.proofs.lemmas.Bool.Decides.{nat_tests}
use Rattle.std.proofs.lemmas.List.Folds.{list_any-append}
use Rattle.np_addr.specs.contracts.address.AddressOrd.TheImpl as address_ord
use Rattle.np_objects.specs.Prelude.{Address, Four, HaveSame, Six, has_address, is_same_address, kept_with}

-- the order in which sets have addresses
abbrev order : Address → Address → Ordering
order = (address_ord.ghosts).cmp

is_eq-nat_cmp : (a b : ℕ) → is_eq (nat_cmp a b) ≡ (b == a)
is_eq-nat_cmp a b = grind (arith, nat_tests)

is_eq-order : (a b : Address) → is_eq (order a b) ≡ is_same_address b a
is_eq-order (Four a) (Four b) = is_eq-nat_cmp a b
is_eq-order (Six a) (Six b) = is_eq-nat_cmp a b
is_eq-order (Four a) (Six b) = refl
is_eq-order (Six a) (Four b) = refl

is_same-symm : (a b : Address) → is_same_address a b ≡ is_same_address b a
is_same-symm (Four a) (Four b) = grind (arith, nat_tests)
is_same-symm (Six a) (Six b) = grind (arith, nat_tests)
is_same-symm (Four a) (Six b) = refl
is_same-symm (Six a) (Four b) = refl

-- whether the set of these keys contains an address
abbrev contains_key : List Address → Address → Bool
contains_key keys address = list_any (is_at (order address)) keys

contains_key-has_address : (keys : List Address) (address : Address) → contains_key keys address ≡ has_address keys address
contains_key-has_address [] address = refl
contains_key-has_address (key ∷ keys) address =
    ap (λ first. first || contains_key keys address) (is_eq-order address key) ∙ ap (λ rest. is_same_address key address || rest) (contains_key-has_address keys address)

-- an address is added to the set exactly where it is not kept yet
pub kept_with-added : (kept keys : List Address) (found : Option Address) (address : Address) (added is_new : Bool) → HaveSame kept keys → found ≡ Some address →
    added ≡ not (contains_key keys address) → added ≡ is_new → kept_with kept found ≡ (if is_new then kept ++ address ∷ [] else kept)
kept_with-added kept keys found address added is_new have is_found is_added is =
    ap (kept_with kept) is_found ∙ ap with_known (sym (have.same address) ∙ sym (contains_key-has_address keys address)) ∙ by (contains_key keys address) ∙ ap
    (λ put. if put then kept ++ address ∷ [] else kept) (sym is_added ∙ is)
  where
    with_known : Bool → List Address
    with_known known = if known then kept else kept ++ address ∷ []

    by : (known : Bool) → with_known known ≡ (if not known then kept ++ address ∷ [] else kept)
    by true = refl
    by false = refl

-- one more address in both
pub HaveSame-more : (kept keys more : List Address) (address : Address) → HaveSame kept keys →
    ((other : Address) → contains_key more other ≡ cond (is_at (order address) other) true (contains_key keys other)) → HaveSame (kept ++ address ∷ []) more
HaveSame-more kept keys more address have added = record {
  same = λ other. sym (contains_key-has_address more other) ∙ added other ∙ is_kept other ∙ sym
      (list_any-append (λ one. is_same_address one other) kept (address ∷ []));
}
  where
    either : (same before : Bool) → cond same true before ≡ (before || (same || false))
    either true true = refl
    either true false = refl
    either false true = refl
    either false false = refl

    is_kept : (other : Address) → cond (is_at (order address) other) true (contains_key keys other) ≡ (has_address kept other || (is_same_address address other || false))
    is_kept other =
        ap (λ same. cond same true (contains_key keys other)) (is_eq-order address other ∙ is_same-symm other address)
        ∙ ap (λ before. cond (is_same_address address other) true before) (contains_key-has_address keys other ∙ have.same other)
        ∙ either (is_same_address address other) (has_address kept other)
