-- Pairs of texts, entry by entry of a map. For `pairs_of_members`.
use Rattle.std.proofs.Common.{◌≡◌, ℕ, List, [], ◌∷◌, ◌++◌, Option, Some, None, option_map, String, Global, string_bytes, map, nat_cmp, Less, refl, sym, ap, ◌∙◌, subst, append_assoc}
use Rattle.std.proofs.lemmas.List.{append-nil}
use Rattle.std.specs.Cmp.Lexicographic.{slice_cmp}
use Rattle.std.specs.List.{AllByRecursion}
use Rattle.std.specs.List.Sorted.{IsStrictlySortedBy}
use Rattle.std.specs.Map.{keys_of}
use Rattle.std.specs.String.{string_cmp}
use Rattle.serde_json.proofs.Views.{Entry}
use Rattle.serde_json.specs.Find.{as_str}
use Rattle.serde_json.specs.View.{view, members_view}
use Rattle.np_json.specs.Prelude.{pairs_of_members}

abbrev pub Pair : Type 0
Pair = List ℕ × List ℕ

-- the pairs so far, and then those of the entries left, are the pairs of all entries, and have their keys
pub record IsReadUpTo (entries : List Entry) (pairs : List Pair) (left : List Entry) : Type 0 where
  pub values : pairs_of_members (members_view entries) ≡ option_map (λ more. pairs ++ more) (pairs_of_members (members_view left))
  pub keys : map string_bytes (keys_of entries) ≡ keys_of pairs ++ map string_bytes (keys_of left)

-- one more pair behind those so far is one less before those left
moved : (pairs : List Pair) (pair : Pair) (rest : Option (List Pair)) →
    option_map (λ more. pairs ++ more) (option_map (λ more. pair ∷ more) rest) ≡ option_map (λ more. (pairs ++ pair ∷ []) ++ more) rest
moved pairs pair None = refl
moved pairs pair (Some more) = ap Some (sym (append_assoc pairs (pair ∷ []) more))

keys_of-push : (pairs : List Pair) (pair : Pair) (rest : List (List ℕ)) → keys_of pairs ++ pair.0 ∷ rest ≡ keys_of (pairs ++ pair ∷ []) ++ rest
keys_of-push [] pair rest = refl
keys_of-push (first ∷ pairs) pair rest = ap (λ keys. first.0 ∷ keys) (keys_of-push pairs pair rest)

-- an entry whose value is a text joins the pairs so far
pub IsReadUpTo-turn : (entries : List Entry) (pairs : List Pair) (entry : Entry) (left : List Entry) (text : List ℕ) → as_str (view entry.1) ≡ Some text → IsReadUpTo entries pairs (entry ∷ left) →
    IsReadUpTo entries (pairs ++ (string_bytes entry.0, text) ∷ []) left
IsReadUpTo-turn entries pairs entry left text is read = record {
  values = read.values ∙ rw is (moved pairs (string_bytes entry.0, text) (pairs_of_members (members_view left)));
  keys = read.keys ∙ keys_of-push pairs (string_bytes entry.0, text) (map string_bytes (keys_of left));
}

-- what is below the others stays so, seen by its bytes
below_by_bytes : (key : String Global) (keys : List (String Global)) → AllByRecursion (λ other. string_cmp key other ≡ Less) keys →
    AllByRecursion (λ other. slice_cmp nat_cmp (string_bytes key) other ≡ Less) (map string_bytes keys)
below_by_bytes key [] below = tt
below_by_bytes key (other ∷ keys) below = (below.0, below_by_bytes key keys below.1)

-- keys in order are in the order of their bytes
sorted_by_bytes : (keys : List (String Global)) → IsStrictlySortedBy string_cmp keys → IsStrictlySortedBy (slice_cmp nat_cmp) (map string_bytes keys)
unfolding IsStrictlySortedBy
sorted_by_bytes [] sorted = tt
sorted_by_bytes (key ∷ keys) sorted = (below_by_bytes key keys sorted.0, sorted_by_bytes keys sorted.1)

-- pairs of all entries of a map are in the order of their keys
pub IsReadUpTo-ordered : (entries : List Entry) (pairs : List Pair) → IsReadUpTo entries pairs [] → IsStrictlySortedBy string_cmp (keys_of entries) →
    IsStrictlySortedBy (slice_cmp nat_cmp) (keys_of pairs)
IsReadUpTo-ordered entries pairs read sorted = subst (IsStrictlySortedBy (slice_cmp nat_cmp)) (read.keys ∙ append-nil (keys_of pairs)) (sorted_by_bytes (keys_of entries) sorted)
