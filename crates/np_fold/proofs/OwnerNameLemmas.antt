-- Names of top owners. For `owner_names_tell_owners_apart` and crates above.
use Rattle.std.proofs.Common.{◌≡◌, ◌↔◌, ℕ, ◌==◌, List, [], ◌∷◌, ◌++◌, true, false, refl, sym, subst, ◌∙◌, append_assoc, eq-eqb}
use Rattle.std.specs.Prelude.{codes}
use Rattle.std.specs.List.{list_all, list_any}
use Rattle.std.proofs.lemmas.Bool.{and_parts, eqb-true, false_from_ne_true, not-true, or_from, or_parts, true≢false}
use Rattle.std.proofs.lemmas.List.{same_from_push}
use Rattle.np_model.specs.Prelude.{is_name, is_well_pod, is_word_byte}
use Rattle.np_fold.specs.Prelude.{Pod, owner_name}

-- ---- texts without a byte

abbrev pub Lacks : ℕ → List ℕ → Type 0
Lacks byte text = list_any (λ other. other == byte) text ≡ false

-- a byte does not come first where it is missing
not-first : (byte other : ℕ) (others : List ℕ) → Lacks byte (other ∷ others) → byte ≡ other → ⊥
not-first byte other others lacks same =
    true≢false (sym (eq-eqb other byte (sym same)) ∙ (or_parts (other == byte) (list_any (λ next. next == byte) others) lacks).0)

-- texts that are cut at the first of a byte are equal part by part
pub cut : (byte : ℕ) (front front' rest rest' : List ℕ) → Lacks byte front → Lacks byte front' → front ++ byte ∷ rest ≡ front' ++ byte ∷ rest' → (front ≡ front') × (rest ≡ rest')
cut byte [] [] rest rest' lacks lacks' same = (refl, cc)
cut byte [] (y ∷ ys) rest rest' lacks lacks' same = absurd (not-first byte y ys lacks' cc)
cut byte (x ∷ xs) [] rest rest' lacks lacks' same = absurd (not-first byte x xs lacks cc)
cut byte (x ∷ xs) (y ∷ ys) rest rest' lacks lacks' same =
    let heads : x ≡ y = cc in
    let tails : xs ++ byte ∷ rest ≡ ys ++ byte ∷ rest' = cc in
    let fronts = (or_parts (x == byte) (list_any (λ next. next == byte) xs) lacks).1 in
    let fronts' = (or_parts (y == byte) (list_any (λ next. next == byte) ys) lacks').1 in
    let both = cut byte xs ys rest rest' fronts fronts' tails in
    (rw (heads, both.0) refl, both.1)

-- ---- names

-- `[` is no byte of a word
word-lacks : (text : List ℕ) → list_all is_word_byte text ≡ true → Lacks 91 text
word-lacks [] word = refl
word-lacks (x ∷ xs) word =
    let parts = and_parts (is_word_byte x) (list_all is_word_byte xs) word in
    or_from (x == 91) (list_any (λ next. next == 91) xs)
    (false_from_ne_true (x == 91) (λ is. true≢false (sym (subst (λ (n : ℕ). is_word_byte n ≡ true) (eqb-true x 91 is) parts.0))))
    (word-lacks xs parts.1)

pub name-lacks_slash : (text : List ℕ) → is_name text ≡ true → Lacks 47 text
name-lacks_slash text name = not-true _ (and_parts _ _ name).1

name-lacks_bracket : (text : List ℕ) → is_name text ≡ true → Lacks 91 text
name-lacks_bracket text name = word-lacks text (and_parts _ _ (and_parts _ _ name).0).1

-- the parts of an owner's name
spelled : (namespace name kind : List ℕ) → namespace ++ codes "/" ++ name ++ codes "[" ++ kind ≡ namespace ++ 47 ∷ (name ++ 91 ∷ kind)
spelled namespace name kind = simp append_assoc

namespace-is_name : (pod : Pod) → is_well_pod pod ≡ true → is_name pod.namespace ≡ true
namespace-is_name pod well =
    (and_parts _ _ (and_parts _ _ (and_parts _ _ (and_parts _ _ (and_parts _ _ (and_parts _ _ well).0).0).0).0).0).0

owner-is_name : (pod : Pod) → is_well_pod pod ≡ true → is_name pod.owner.name ≡ true
owner-is_name pod well = (and_parts _ _ well).1

pub owner_names-apart : (a b : Pod) → is_well_pod a ≡ true → is_well_pod b ≡ true → (owner_name a ≡ owner_name b) ↔ ((a.namespace ≡ b.namespace) × (a.owner ≡ b.owner))
owner_names-apart a b well_a well_b = (to, from)
  where
    to : owner_name a ≡ owner_name b → (a.namespace ≡ b.namespace) × (a.owner ≡ b.owner)
    to same =
        let fronts = (same_from_push (a.namespace ++ codes "/" ++ a.owner.name ++ codes "[" ++ a.owner.kind) (b.namespace ++ codes "/" ++ b.owner.name ++ codes "[" ++ b.owner.kind) 93 93 same).0 in
        let parts = cut 47 a.namespace b.namespace (a.owner.name ++ 91 ∷ a.owner.kind) (b.owner.name ++ 91 ∷ b.owner.kind)
        (name-lacks_slash a.namespace (namespace-is_name a well_a)) (name-lacks_slash b.namespace (namespace-is_name b well_b))
        (sym (spelled a.namespace a.owner.name a.owner.kind) ∙ fronts ∙ spelled b.namespace b.owner.name b.owner.kind) in
        let owners = cut 91 a.owner.name b.owner.name a.owner.kind b.owner.kind
        (name-lacks_bracket a.owner.name (owner-is_name a well_a)) (name-lacks_bracket b.owner.name (owner-is_name b well_b)) parts.1 in
        (parts.0, rw (owners.1, owners.0) refl)

    from : (a.namespace ≡ b.namespace) × (a.owner ≡ b.owner) → owner_name a ≡ owner_name b
    from same = rw (same.0, same.1) refl
