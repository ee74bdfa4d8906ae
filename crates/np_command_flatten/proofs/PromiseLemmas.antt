-- What follows of a whole report of `flatten`, and of what is refused. For crates above.
use Rattle.std.proofs.Common.{◌≡◌, ℕ, List, [], ◌∷◌, Option, None, Some, Ok, refl, subst, ◌∙◌}
use Rattle.std.specs.Prelude.{IsPermutation}
use Rattle.std.proofs.lemmas.Option.{none-some, same_Some}
use Rattle.np_command.specs.Prelude.{SinkTrace, TookWhole, fault_in, lists_of, text_in}
use Rattle.np_command_flatten.specs.Prelude.{Alike, EstateLists, Fault, FlatFault, FlattensAll, NetPolicy, NoMemory, RefusesFlatten, Split, estate_with, flatten_reply, flatten_text, policies_unless}
use Rattle.np_command.proofs.InputLemmas.{read-small}
use Rattle.np_command_flatten.proofs.RefusedLemmas.{tells-alike, tells-split}
use Rattle.np_command_flatten.proofs.VerdictLemmas.{address-same, between-same}
use Rattle.np_command_flatten.proofs.EstateLemmas.{policies-once}
use Rattle.np_command_flatten.proofs.FlatLemmas.{estate_of-flat, policies-apart, policies-printable}
use Rattle.np_command_flatten.proofs.LawfulReads.{estate-lawful}
use Rattle.np_command_flatten.proofs.ListLemmas.{json_of-list_line}
use Rattle.np_manifests.specs.Lists.{list_line}
use Rattle.np_model.specs.Prelude.{IsLawful}
use Rattle.np_reading.specs.Prelude.{estate_of}
use Rattle.np_flatten.proofs.FlatVerdicts.{addresses-same, pods-same}
use Rattle.np_flatten.specs.Prelude.{fault_by, first_pair, flat_fault, flat_policies, is_split, is_unlike}
use Rattle.np_kinds.specs.Prelude.{number_of_workloads}

-- ---- what is said

memory-none : (split unlike : Option (ℕ × ℕ)) → fault_by split unlike ≡ Some NoMemory → ⊥
memory-none (Some pair) unlike is = cc
memory-none None (Some pair) is = cc
memory-none None None is = cc

fault-memory : (lists : EstateLists) → flat_fault lists ≡ Some NoMemory → ⊥
unfolding flat_fault
fault-memory lists is = memory-none (first_pair (is_split lists) (number_of_workloads lists)) (first_pair (is_unlike lists) (number_of_workloads lists)) is

again : (lists : EstateLists) → estate_of (list_line (flat_policies lists) ∷ []) ≡ Ok (estate_with (flat_policies lists)) → estate_of (flatten_text lists ∷ []) ≡ Ok (estate_with (flat_policies lists))
unfolding flatten_text
again lists is = is

says_policies : (out : SinkTrace) (texts : List (List ℕ)) (lists : EstateLists) (fault : Option FlatFault) → lists_of texts ≡ Ok lists → IsLawful lists
    → flat_fault lists ≡ fault → fault_in (policies_unless lists fault) ≡ None → TookWhole out (text_in (policies_unless lists fault)) → FlattensAll out texts
says_policies out texts lists (Some (Split source destination)) read lawful is none took = cc
says_policies out texts lists (Some (Alike a b)) read lawful is none took = cc
says_policies out texts lists (Some NoMemory) read lawful is none took = absurd (fault-memory lists is)
says_policies out texts lists None read lawful is none took =
    let reads : estate_of texts ≡ Ok lists = read-small (estate_of texts) lists read in
    let flat : List NetPolicy = flat_policies lists in
    let nets : List NetPolicy = (estate_with flat).net_policies in
    let same : IsPermutation flat nets = policies-once flat (policies-apart lists lawful) in
    record {
      lists = lists;
      read = read;
      text = flatten_text lists;
      policies = nets;
      printed = took;
      again = again lists (estate_of-flat texts lists (list_line flat) reads (json_of-list_line flat (policies-printable lists (estate-lawful texts lists reads))));
      pods = λ p q family spot p_in q_in apart listed inside. between-same lists flat nets same p q family spot ∙ pods-same lists p q family spot lawful is p_in q_in apart listed inside;
      addresses = λ p direction family number spot p_in in_family inside. address-same lists flat nets same direction _ family number spot
          ∙ addresses-same lists p direction family number spot lawful is p_in in_family inside;
    }

-- a whole report of accepted inputs says what passes without any other policy
pub promised : (out : SinkTrace) (texts : List (List ℕ)) (lists : EstateLists) → lists_of texts ≡ Ok lists → IsLawful lists
    → fault_in (flatten_reply lists) ≡ None → TookWhole out (text_in (flatten_reply lists)) → FlattensAll out texts
unfolding flatten_reply
promised out texts lists read lawful no_fault took = says_policies out texts lists (flat_fault lists) read lawful refl no_fault took

-- ---- what is refused

refused-by : (lists : EstateLists) (found : Option FlatFault) (fault : Fault) → IsLawful lists → flat_fault lists ≡ found → fault_in (policies_unless lists found) ≡ Some fault →
    RefusesFlatten lists fault
refused-by lists None fault lawful is told = absurd (none-some fault told)
refused-by lists (Some NoMemory) fault lawful is told = absurd (none-some fault told)
refused-by lists (Some (Split a b)) fault lawful is told = subst (RefusesFlatten lists) (same_Some _ fault told) (tells-split lists a b lawful is)
refused-by lists (Some (Alike a b)) fault lawful is told = subst (RefusesFlatten lists) (same_Some _ fault told) (tells-alike lists a b lawful is)

-- a refusal names two workloads for which there are no flat policies, and they are the first
pub refused : (lists : EstateLists) (fault : Fault) → IsLawful lists → fault_in (flatten_reply lists) ≡ Some fault → RefusesFlatten lists fault
unfolding flatten_reply
refused lists fault lawful told = refused-by lists (flat_fault lists) fault lawful refl told
