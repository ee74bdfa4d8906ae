-- Entries that name ports of which an end has none.
-- For `AdminPortPortEntry::names_no_port`, `NetPortPortEntry::names_no_port` and `entries_toward`.
use Rattle.std.proofs.Common.{◌≡◌, ℕ, List, ◌++◌, [], ◌∷◌, Bool, true, false, not, ◌||◌, ◌<◌, ◌+◌, take, get_or, refl, sym, ap, ◌∙◌, length}
use Rattle.std.specs.Bool.{OnTrue}
use Rattle.std.specs.List.{list_any}
use Rattle.std.specs.Str.{bytes_eq}
use Rattle.std.proofs.Math.Bool.{or-false}
use Rattle.std.proofs.lemmas.List.{take_more}
use Rattle.std.proofs.lemmas.List.Folds.{list_any-append}
use Rattle.np_rules.proofs.KeptLemmas.{quieter}
use Rattle.np_rules.specs.PortNames.{has_name}
use Rattle.np_rules.specs.Prelude.{ModelEnd, PortSpot, address, has_named, is_named, pod}

-- no spot is a port of a name that no port has
pub no_name : (name : List ℕ) (end : ModelEnd) → has_name name end ≡ false → (spot : PortSpot) → has_named name spot end ≡ false
no_name name (pod p) none spot = quieter (λ port. bytes_eq port.name name) (is_named name spot) p.ports (λ port other. rw other refl) none
no_name name (address a) none spot = refl

-- so an answer that says so tells that a test which wants such a port fails
pub tells_none : (name : List ℕ) (end : ModelEnd) (found : Bool) (test : PortSpot → Bool) → found ≡ has_name name end → ((spot : PortSpot) → has_named name spot end ≡ false → test spot ≡ false) →
    OnTrue (not found) ((spot : PortSpot) → test spot ≡ false)
tells_none name end true test is fails = tt
tells_none name end false test is fails = λ spot. fails spot (no_name name end (sym is) spot)

-- whether some item passes, of one more
any_next : {X : Type 0} (test : X → Bool) (xs : List X) (i : ℕ) (x : X) → i < length xs → x ≡ get_or xs i x → list_any test (take (i + 1) xs) ≡ (list_any test (take i xs) || test x)
any_next {X} test xs i x within is =
    ap (list_any test) (take_more xs i x within) ∙ list_any-append test (take i xs) (get_or xs i x ∷ [])
    ∙ ap (λ (y : X). list_any test (take i xs) || (test y || false)) (sym is) ∙ ap (λ b. list_any test (take i xs) || b) (or-false (test x))

-- What the items so far that were kept have is what the first ones have, with one more that is kept, or left out since it has nothing.
pub any_kept-next : {X Y : Type 0} (here : X → Bool) (there : Y → Bool) (made made' : List X) (x : X) (ys : List Y) (i : ℕ) (y : Y) → i < length ys → y ≡ get_or ys i y →
    made' ≡ made ++ x ∷ [] → here x ≡ there y → list_any here made ≡ list_any there (take i ys) → list_any here made' ≡ list_any there (take (i + 1) ys)
any_kept-next here there made made' x ys i y within is more same so_far =
    ap (list_any here) more ∙ list_any-append here made (x ∷ []) ∙ ap (λ b. b || (here x || false)) so_far
    ∙ ap (λ b. list_any there (take i ys) || b) (or-false (here x) ∙ same) ∙ sym (any_next there ys i y within is)

pub any_left-next : {X Y : Type 0} (here : X → Bool) (there : Y → Bool) (made : List X) (ys : List Y) (i : ℕ) (y : Y) → i < length ys → y ≡ get_or ys i y →
    there y ≡ false → list_any here made ≡ list_any there (take i ys) → list_any here made ≡ list_any there (take (i + 1) ys)
any_left-next here there made ys i y within is none so_far =
    so_far ∙ sym (or-false (list_any there (take i ys))) ∙ ap (λ b. list_any there (take i ys) || b) (sym none) ∙ sym (any_next there ys i y within is)
