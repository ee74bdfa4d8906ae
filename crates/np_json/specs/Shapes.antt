-- Shapes of members: a JSON value is read as an output, or refused with the flaw that stands first: first by the lines
-- of the shape and, in a list, by its items, whatever the order of the members in the text. Members that no line names
-- are ignored: an API server drops those that it does not know, and the others say nothing of connections. Only an
-- unknown member of a label selector is refused.
use Rattle.std.specs.Prelude.{◌≡◌, ℕ, ◌+◌, ◌==◌, List, [], ◌∷◌, count_by, Bool, if◌then◌else◌, is_none, is_some, Option, Some, None, unwrap_or, not, Result, Ok, Err, ⊤}
use Rattle.serde_json.specs.Data.{Data, Items, no_items, item}
use Rattle.serde_json.specs.Find.{as_array, as_object}
use Rattle.np_base.specs.declared.no_memory.NoMemory as np
use Rattle.np_json.specs.Members.{member_of}
use Rattle.np_json.specs.Types.{Bad, BadField, FaultKind, Field, Flaw, Item, NoMemory, ReadFault, ShapeFault, Step}
use Rattle.np_json.specs.declared.fault.ReadFault.TheVariants as whole

-- A shape takes a value to its output, or to the first flaw.
abbrev pub Read : Type 0 → Type 0
Read Output = Result Output Flaw

-- one line after another; the first flaw stands, of whatever type flaws are
infixl 10 ◌>>=◌
abbrev pub ◌>>=◌ : {A B E : Type 0} → Result A E → (A → Result B E) → Result B E
(Ok x) >>= rest = rest x
(Err flaw) >>= rest = Err flaw

infixl 10 ◌>>◌
abbrev pub ◌>>◌ : {A B E : Type 0} → Result A E → Result B E → Result B E
(Ok x) >> rest = rest
(Err flaw) >> rest = Err flaw

-- what the code gives of a shape: its output, or its very flaw; want of memory may always come
abbrev pub Gives : {A : Type 0} → Result A ShapeFault → Read A → Type 0
Gives (Ok output) read = read ≡ Ok output
Gives (Err (Bad flaw)) read = read ≡ Err flaw
Gives (Err NoMemory) read = ⊤

-- the same for an item of a list of objects, whose number its fault has
abbrev pub GivesItem : {A : Type 0} → ℕ → Result A ReadFault → Read A → Type 0
GivesItem number (Ok output) read = read ≡ Ok output
GivesItem number (Err (whole.Bad fault)) read = (fault.item ≡ number) × (read ≡ Err (record { path = fault.path; kind = fault.kind }))
GivesItem number (Err whole.NoMemory) read = ⊤

-- the fault of an item
abbrev pub fault_of : ℕ → ShapeFault → ReadFault
fault_of number (Bad flaw) = whole.Bad (record { item = number; path = flaw.path; kind = flaw.kind })
fault_of number NoMemory = whole.NoMemory

-- a flaw of the whole value
abbrev pub refuse : {A : Type 0} → FaultKind → Read A
refuse kind = Err (record { path = []; kind = kind })

-- what a value stands for, else a flaw of the whole value
abbrev pub or_refuse : {A : Type 0} → FaultKind → Option A → Read A
or_refuse kind None = refuse kind
or_refuse kind (Some x) = Ok x

-- what is read of the part of a value at one step
unfoldable pub under : {A : Type 0} → Step → Read A → Read A
under step (Ok output) = Ok output
under step (Err flaw) = Err (record { path = step ∷ flaw.path; kind = flaw.kind })

-- a fault of the part at a step, and the same seen from the whole
abbrev pub IsUnder : Step → ShapeFault → ShapeFault → Type 0
IsUnder step (Bad part) (Bad flaw) = (flaw.path ≡ step ∷ part.path) × (flaw.kind ≡ part.kind)
IsUnder step (Bad part) NoMemory = ⊤
IsUnder step NoMemory fault = fault ≡ NoMemory

-- the flaw at a path, or want of memory where that path could not be made
abbrev pub IsFlawAt : Result (List Step) np.NoMemory → FaultKind → ShapeFault → Type 0
IsFlawAt (Ok path) kind fault = fault ≡ Bad (record { path = path; kind = kind })
IsFlawAt (Err none) kind fault = fault ≡ NoMemory

-- a rule: the flaw of the whole value where it is broken
unfoldable pub refuse_if : Bool → FaultKind → Read ⊤
refuse_if broken kind = if broken then refuse kind else Ok tt

-- what is read, where it passes a test, else a flaw of the whole value
abbrev pub passing : {A : Type 0} → (A → Bool) → FaultKind → Read A → Read A
passing passes kind read = read >>= λ output. refuse_if (not (passes output)) kind >> Ok output

-- a rule on a member: the member's flaw where it is broken
unfoldable pub refuse_member_if : List ℕ → Bool → FaultKind → Read ⊤
refuse_member_if name broken kind = under (Field name) (refuse_if broken kind)

-- the rule that a value is an object
unfoldable pub must_be_object : Data → Read ⊤
must_be_object value = refuse_if (is_none (as_object value)) BadField

-- whether there is a member of that name that is not null
abbrev pub has_member : List ℕ → Data → Bool
has_member name value = is_some (member_of name value)

-- whether exactly one of the members of those names is there
abbrev pub has_one_of : List (List ℕ) → Data → Bool
has_one_of names value = count_by (λ name. has_member name value) names == 1

-- what is read of a member, or `missing` where there is none
abbrev pub read_member : {A : Type 0} → Read A → (Data → Read A) → Option Data → Read A
read_member missing shape None = missing
read_member missing shape (Some value) = shape value

-- what is read, as a value that is there
abbrev pub given : {A : Type 0} → Read A → Read (Option A)
given read = do Ok (Some (← read))

-- each item by the shape, under its place
abbrev pub each_item : {A : Type 0} → (Data → Read A) → ℕ → Items → Read (List A)
each_item shape place no_items = Ok []
each_item shape place (item value items) = do Ok ((← under (Item place) (shape value)) ∷ (← each_item shape (place + 1) items))

-- the items of a list by the shape
abbrev pub list_by : {A : Type 0} → (Data → Read A) → Option Items → Read (List A)
list_by shape None = refuse BadField
list_by shape (Some items) = each_item shape 0 items

-- a member that must be there
unfoldable pub required : {A : Type 0} → List ℕ → (Data → Read A) → Data → Read A
required name shape value = under (Field name) (read_member (refuse BadField) shape (member_of name value))

-- a member that may be missing
unfoldable pub optional : {A : Type 0} → List ℕ → (Data → Read A) → Data → Read (Option A)
optional name shape value = under (Field name) (read_member (Ok None) (λ found. given (shape found)) (member_of name value))

-- a member that stands for this value where it is missing
abbrev pub optional_or : {A : Type 0} → A → List ℕ → (Data → Read A) → Data → Read A
optional_or missing name shape value = do Ok (unwrap_or (← optional name shape value) missing)

-- a member that is a list, and empty where it is missing
unfoldable pub listed : {A : Type 0} → List ℕ → (Data → Read A) → Data → Read (List A)
listed name shape value = under (Field name) (read_member (Ok []) (λ found. list_by shape (as_array found)) (member_of name value))
