-- What the rest of a list says of the pods of its items. For `contexts`.
use Rattle.std.proofs.Common.{◌≡◌, ℕ, suc, ◌+◌, ◌<◌, List, [], ◌∷◌, ◌++◌, length, drop, get_or, Bool, true, false, Option, None, refl, sym, ap, ◌∙◌, append_assoc, add-one}
use Rattle.std.proofs.Math.Nat.{zero-add}
use Rattle.std.proofs.Math.Seq.{drop-cons}
use Rattle.std.proofs.lemmas.List.FromFn.{length-map-range_with_len, get_or-map-range_with_len}
use Rattle.np_reading.specs.Prelude.{Item, Owner, PodContext, context_at, context_of, contexts_from, contexts_of, gives_end}
use Rattle.np_owners.specs.Prelude.{makes_pod, top_owner, top_owners}

-- there is a top owner, or none, for each item
pub length-top_owners : (items : List Item) (owners : List (Option Owner)) → owners ≡ top_owners items → length owners ≡ length items
length-top_owners items owners are = ap length are ∙ length-map-range_with_len (top_owner items) 0 (length items)

pub owner_at : (items : List Item) (owners : List (Option Owner)) (place : ℕ) (d : Option Owner) → owners ≡ top_owners items → place < length items → get_or owners place d ≡ top_owner items place
owner_at items owners place d are within =
    ap (λ (all : List (Option Owner)). get_or all place d) are
    ∙ get_or-map-range_with_len (top_owner items) 0 (length items) place place d within (zero-add place)

-- what the rest of the list says of the pod of the item at a place, where it gives one, and where it gives none
pub context_there : (items : List Item) (place : ℕ) (one : Item) (makes : Bool) (owner : Option Owner) (context : Option PodContext) → gives_end makes one ≡ true
    → makes ≡ makes_pod items place → owner ≡ top_owner items place → context ≡ context_of items one owner → context ≡ context_at items place one
context_there items place one makes owner context gives marked owned is = is ∙ rw (← marked, gives, owned) refl

pub context_none : (items : List Item) (place : ℕ) (one : Item) (makes : Bool) → gives_end makes one ≡ false → makes ≡ makes_pod items place → None ≡ context_at items place one
context_none items place one makes gives marked = rw (← marked, gives) refl

-- one item more
pub contexts-more : (items : List Item) (place : ℕ) (one : Item) (context : Option PodContext) (before after : List (Option PodContext)) → place < length items → one ≡ get_or items place one
    → context ≡ context_at items place one → after ≡ before ++ context ∷ []
    → before ++ contexts_from items place (drop place items) ≡ contexts_of items
    → after ++ contexts_from items (place + 1) (drop (place + 1) items) ≡ contexts_of items
contexts-more items place one context before after within at is pushed so_far =
    let left : drop place items ≡ one ∷ drop (place + 1) items =
    drop-cons items place one within ∙ ap (λ (x : Item). x ∷ drop (suc place) items) (sym at) ∙ ap (λ n. one ∷ drop n items) (sym (add-one place)) in
    let rest = contexts_from items (place + 1) (drop (place + 1) items) in
    ap (λ (made : List (Option PodContext)). made ++ rest) pushed ∙ append_assoc before (context ∷ []) rest
    ∙ ap (λ (x : Option PodContext). before ++ x ∷ rest) is
    ∙ ap (λ (others : List Item). before ++ contexts_from items place others) (sym left) ∙ so_far
