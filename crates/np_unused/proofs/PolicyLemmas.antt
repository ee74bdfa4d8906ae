-- Rules are told by the names of their policies and their places. For NameLemmas.
use Rattle.std.proofs.Common.{◌≡◌, ◌≢◌, ℕ, zero, suc, List, [], ◌∷◌, ◌++◌, Bool, true, not, get_or, Some, AllPairs, Ordering, Equal, append_assoc, refl, sym, ◌∙◌, ap}
use Rattle.std.specs.Cmp.Lexicographic.{slice_cmp}
use Rattle.std.specs.List.{list_all, slice_get}
use Rattle.std.specs.Ordering.{nat_cmp}
use Rattle.std.proofs.lemmas.Bool.{and_parts, false≢true}
use Rattle.std.proofs.lemmas.Cmp.{nat_list_cmp_total, tied_itself}
use Rattle.std.proofs.lemmas.Slice.Eq.{bytes_eq-Decides}
use Rattle.np_fold.proofs.OwnerNameLemmas.{cut, name-lacks_slash}
use Rattle.np_model.specs.Prelude.{AreNamesApart, IsLawful, PolicyStandsBefore, decides_before, is_name, is_well, is_well_net_policy}
use Rattle.np_unused.specs.Prelude.{AdminPolicy, EstateLists, NetPolicy}
use Rattle.np_rules.specs.Prelude.{net_policy_name}
use Rattle.np_explain.proofs.PlaceLemmas.{place_told}

-- ---- admin policies

admin_names_differ : (policies : List AdminPolicy) → AllPairs AreNamesApart policies → AllPairs (λ a b. a.name ≢ b.name) policies
admin_names_differ policies apart = λ i j d before within same.
    absurd (false≢true (ap not (sym ((bytes_eq-Decides (get_or policies i d).name (get_or policies j d).name).1 same)) ∙ apart i j d before within))

pub one_admin_policy : (lists : EstateLists) → IsLawful lists → (p q : ℕ) (a b : AdminPolicy) → slice_get lists.admin_policies p ≡ Some a → slice_get lists.admin_policies q ≡ Some b →
    a.name ≡ b.name → p ≡ q
one_admin_policy lists lawful = place_told (λ policy. policy.name) lists.admin_policies (admin_names_differ lists.admin_policies lawful.admin_policies_apart)

-- ---- NetworkPolicies

spelled : (policy : NetPolicy) → net_policy_name policy ≡ policy.namespace ++ 47 ∷ policy.name
spelled policy = simp append_assoc

pub passes_at : {X : Type 0} (test : X → Bool) (xs : List X) (k : ℕ) (x : X) → list_all test xs ≡ true → slice_get xs k ≡ Some x → test x ≡ true
passes_at test [] k x all at = cc
passes_at test (y ∷ xs) zero x all at = let same : y ≡ x = cc in ap test (sym same) ∙ (and_parts _ _ all).0
passes_at test (y ∷ xs) (suc k) x all at = passes_at test xs k x (and_parts (test y) (list_all test xs) all).1 at

namespace_is_name : (policy : NetPolicy) → is_well_net_policy policy ≡ true → is_name policy.namespace ≡ true
namespace_is_name policy well = (and_parts _ _ (and_parts _ _ (and_parts _ _ (and_parts _ _ well).0).0).0).0

net_policies_well : (lists : EstateLists) → is_well lists ≡ true → list_all is_well_net_policy lists.net_policies ≡ true
net_policies_well lists well = (and_parts _ _ (and_parts _ _ (and_parts _ _ (and_parts _ _ (and_parts _ _ well).0).0).0).0).1

-- a namespace and a name
abbrev full_name : NetPolicy → List ℕ × List ℕ
full_name policy = (policy.namespace, policy.name)

not_before : (a b : NetPolicy) → PolicyStandsBefore a b → full_name a ≡ full_name b → ⊥
not_before a b before same =
    let spaces : a.namespace ≡ b.namespace = ap (λ (p : List ℕ × List ℕ). p.0) same in
    let names : a.name ≡ b.name = ap (λ (p : List ℕ × List ℕ). p.1) same in
    let equal : slice_cmp nat_cmp a.namespace b.namespace ≡ Equal = ap (slice_cmp nat_cmp a.namespace) (sym spaces) ∙ tied_itself nat_list_cmp_total a.namespace in
    let equal' : slice_cmp nat_cmp a.name b.name ≡ Equal = ap (slice_cmp nat_cmp a.name) (sym names) ∙ tied_itself nat_list_cmp_total a.name in
    false≢true (sym (ap (λ (o : Ordering). decides_before o (slice_cmp nat_cmp a.name b.name)) equal ∙ ap (decides_before Equal) equal') ∙ before)

pub one_net_policy : (lists : EstateLists) → IsLawful lists → (p q : ℕ) (a b : NetPolicy) → slice_get lists.net_policies p ≡ Some a → slice_get lists.net_policies q ≡ Some b →
    net_policy_name a ≡ net_policy_name b → p ≡ q
one_net_policy lists lawful p q a b at_p at_q same =
    let well = net_policies_well lists lawful.well in
    let name_a = name-lacks_slash a.namespace (namespace_is_name a (passes_at is_well_net_policy lists.net_policies p a well at_p)) in
    let name_b = name-lacks_slash b.namespace (namespace_is_name b (passes_at is_well_net_policy lists.net_policies q b well at_q)) in
    let parts = cut 47 a.namespace b.namespace a.name b.name name_a name_b (sym (spelled a) ∙ same ∙ spelled b) in
    place_told full_name lists.net_policies (λ i j d before within. not_before (get_or lists.net_policies i d) (get_or lists.net_policies j d) (lawful.net_policies_ascend i j d before within)) p q a b
    at_p at_q (rw (parts.0, parts.1) refl)
