-- Shapes and what the code gives of them. For `at_item`, `at` and 2 more.
use Rattle.std.proofs.Common.{◌≡◌, ℕ, ◌+◌, List, [], ◌∷◌, ◌++◌, length, Ok, Err, IsOk, All, refl, sym, ap, ◌∙◌, add-zero, arith}
use Rattle.std.proofs.lemmas.Bool.{false≢true}
use Rattle.std.proofs.lemmas.List.Elements.{All-head, All-tail}
use Rattle.serde_json.specs.Data.{Data}
use Rattle.serde_json.specs.View.{items_of}
use Rattle.np_json.specs.Prelude.{Bad, FaultKind, Flaw, Gives, IsUnder, Item, NoMemory, Read, ShapeFault, Step, each_item, under}

same_flaw : (a b : Flaw) → a.path ≡ b.path → a.kind ≡ b.kind → a ≡ b
same_flaw a b path kind =
    let with_path : List Step → Flaw = λ p. record { path = p; kind = a.kind } in
    let with_kind : FaultKind → Flaw = λ k. record { path = b.path; kind = k } in
    ap with_path path ∙ ap with_kind kind

pub Gives-under_output : {A : Type 0} (step : Step) (output : A) (shape : Read A) → Gives (Ok output) shape → Gives (Ok output) (under step shape)
unfolding under
Gives-under_output step output shape gives = rw gives

pub Gives-under_fault : {A : Type 0} (step : Step) (part fault : ShapeFault) (shape : Read A) → IsUnder step part fault → Gives {A = A} (Err part) shape → Gives {A = A} (Err fault) (under step shape)
unfolding under
Gives-under_fault step (Bad part) (Bad flaw) shape is gives = rw gives (ap Err (same_flaw _ _ (sym is.0) (sym is.1)))
Gives-under_fault step (Bad part) NoMemory shape is gives = tt
Gives-under_fault step NoMemory (Bad flaw) shape is gives = cc
Gives-under_fault step NoMemory NoMemory shape is gives = tt

-- outputs that were read, and then what is read of the rest
abbrev pub after : {A : Type 0} → List A → Read (List A) → Read (List A)
after outputs (Ok more) = Ok (outputs ++ more)
after outputs (Err flaw) = Err flaw

row_of : {A : Type 0} (read : Read A) → IsOk read → (output : A) × (read ≡ Ok output)
row_of (Ok output) is = (output, refl)
row_of (Err flaw) is = absurd (false≢true is)

-- the items before the first flaw are read, and the flaw stands under the place of its item
pub each_item-first_flaw : {A : Type 0} (shape : Data → Read A) (place : ℕ) (before others : List Data) (item : Data) (flaw : Flaw) → All (λ value. IsOk (shape value)) before → shape item ≡ Err flaw →
    each_item shape place (items_of (before ++ item ∷ others)) ≡ under (Item (place + length before)) (Err flaw)
unfolding under
each_item-first_flaw shape place [] others item flaw all is = rw (is, add-zero)
each_item-first_flaw shape place (first ∷ before) others item flaw all is =
    let read = row_of (shape first) (All-head (λ value. IsOk (shape value)) first before all) in
    let rest = each_item-first_flaw shape (place + 1) before others item flaw (All-tail (λ value. IsOk (shape value)) first before all) is in
    let same : (place + 1) + length before ≡ place + length (first ∷ before) = omega arith in
    rw (read.1, rest, same)
