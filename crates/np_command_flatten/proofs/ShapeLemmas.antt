-- What shapes read of members that are as they ask. For FlatLemmas, ListLemmas and 5 more.
use Rattle.std.proofs.Common.{◌≡◌, ℕ, ◌+◌, List, [], ◌∷◌, Bool, true, map, Option, Some, None, Ok, refl}
use Rattle.std.proofs.lemmas.Bool.{and_parts}
use Rattle.std.specs.List.{AllByRecursion, list_all}
use Rattle.serde_json.specs.Data.{Data}
use Rattle.serde_json.specs.View.{items_of}
use Rattle.np_json.specs.Prelude.{Read, each_item, listed, member_of, optional, required, under}
use Rattle.np_written.specs.Values.{list_with}

-- ---- tests of all

pub all-passed : {X : Type 0} (test : X → Bool) (P : X → Type 0) → ((x : X) → test x ≡ true → P x) → (xs : List X) → list_all test xs ≡ true → AllByRecursion P xs
all-passed test P each [] all = tt
all-passed test P each (x ∷ xs) all =
    let parts = and_parts (test x) (list_all test xs) all in
    (each x parts.0, all-passed test P each xs parts.1)

pub all-mapped : {X Y : Type 0} (P : Y → Type 0) (f : X → Y) (xs : List X) → AllByRecursion (λ x. P (f x)) xs → AllByRecursion P (map f xs)
all-mapped P f [] all = tt
all-mapped P f (x ∷ xs) all = (all.0, all-mapped P f xs all.1)

-- ---- one member

pub required-read : {A : Type 0} (name : List ℕ) (shape : Data → Read A) (value found : Data) (x : A) → member_of name value ≡ Some found → shape found ≡ Ok x → required name shape value ≡ Ok x
unfolding required under
required-read name shape value found x there reads = rw (there, reads) refl

pub optional-read : {A : Type 0} (name : List ℕ) (shape : Data → Read A) (value found : Data) (x : A) → member_of name value ≡ Some found → shape found ≡ Ok x → optional name shape value ≡ Ok (Some x)
unfolding optional under
optional-read name shape value found x there reads = rw (there, reads) refl

pub optional-none : {A : Type 0} (name : List ℕ) (shape : Data → Read A) (value : Data) → member_of name value ≡ None → optional name shape value ≡ Ok None
unfolding optional under
optional-none name shape value missing = rw missing refl

-- ---- lists

each-read : {A : Type 0} (shape : Data → Read A) (written : A → Data) (xs : List A) → AllByRecursion (λ x. shape (written x) ≡ Ok x) xs → (place : ℕ) →
    each_item shape place (items_of (map written xs)) ≡ Ok xs
unfolding under
each-read shape written [] all place = refl
each-read shape written (x ∷ xs) all place = rw (all.0, each-read shape written xs all.1 (place + 1)) refl

pub listed-read : {A : Type 0} (name : List ℕ) (shape : Data → Read A) (written : A → Data) (value : Data) (xs : List A) → member_of name value ≡ Some (list_with (map written xs)) →
    AllByRecursion (λ x. shape (written x) ≡ Ok x) xs → listed name shape value ≡ Ok xs
unfolding listed under
listed-read name shape written value xs there all = rw (there, each-read shape written xs all 0) refl

pub listed-none : {A : Type 0} (name : List ℕ) (shape : Data → Read A) (value : Data) → member_of name value ≡ None → listed name shape value ≡ Ok []
unfolding listed under
listed-none name shape value missing = rw missing refl

-- the member of a list that is left out where it is empty
abbrev pub some_member : List Data → Option Data
some_member [] = None
some_member (value ∷ values) = Some (list_with (value ∷ values))

pub some-read : {A : Type 0} (name : List ℕ) (shape : Data → Read A) (written : A → Data) (value : Data) (xs : List A) → member_of name value ≡ some_member (map written xs) →
    AllByRecursion (λ x. shape (written x) ≡ Ok x) xs → listed name shape value ≡ Ok xs
some-read name shape written value [] missing all = listed-none name shape value missing
some-read name shape written value (x ∷ xs) there all = listed-read name shape written value (x ∷ xs) there all
