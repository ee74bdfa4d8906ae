-- Words that name pods of workloads, and the numbers of these. For ExplainLemmas and PromiseLemmas.
use Rattle.std.proofs.Common.{◌≡◌, ◌<◌, ℕ, List, [], length, map, get_or, Bool, true, false, Less, inl, inr, Contains, Option, None, Some, Ok, Err, arith, eq-eqb, refl, sym, ap, subst, ◌∙◌}
use Rattle.std.proofs.lemmas.Bool.{cases_eq, cases_order, false≢true, true≢false}
use Rattle.std.proofs.lemmas.List.{get_or-map, length-map}
use Rattle.std.proofs.lemmas.List.Elements.{Contains-get_or}
use Rattle.std.proofs.lemmas.List.Folds.{list_any_at}
use Rattle.std.proofs.lemmas.Map.Keys.{Less-from_sorted}
use Rattle.std.proofs.lemmas.Option.{slice_get-get_or}
use Rattle.std.proofs.lemmas.Slice.Eq.{bytes_eq-Decides}
use Rattle.std.specs.Cmp.Lexicographic.{slice_cmp}
use Rattle.std.specs.List.Sorted.{IsStrictlySortedBy}
use Rattle.std.specs.Option.{option_map_or}
use Rattle.std.specs.Ordering.{nat_cmp}
use Rattle.std.specs.Str.{bytes_eq}
use Rattle.np_base.proofs.Orders.{not-before}
use Rattle.np_command_explain.specs.Prelude.{Address, AskedEnd, At, End, EndWord, EstateLists, Fault, NamesEnd, NamesNone, UnknownEnd, Work, are_one, asked_end, destination_end, source_end}
use Rattle.np_args.specs.declared.end_word.EndWord.TheVariants as word
use Rattle.np_classes.proofs.Lists.{no_position}
use Rattle.np_classes.proofs.Relations.{firsts-le-count}
use Rattle.np_command.proofs.EndLemmas.{named_workload, found-named}
use Rattle.np_command.specs.Prelude.{end_text, or_unknown}
use Rattle.np_explain.specs.Prelude.{are_one_pod}
use Rattle.np_fold.proofs.WorkloadLemmas.{workloads-by_name}
use Rattle.np_fold.specs.Prelude.{Workload, folding_of, members_of, number_named, pods_alike, workload_number, workloads_of}
use Rattle.np_model.specs.Prelude.{IsLawful}
use Rattle.np_rules.specs.declared.packet.End.TheVariants as end
use Rattle.np_kinds.proofs.MemberLemmas.{destination-member, member-number, members-some, members-within, not-alone, source-member}
use Rattle.np_kinds.specs.Prelude.{destination_pod, source_pod}

-- an end is one of those that are asked about: a pod of the workload, or the address
abbrev pub IsOf : EstateLists → AskedEnd → End → Type 0
IsOf lists (Work number) (end.Pod place) = (place < length lists.pods) × (workload_number lists place ≡ number)
IsOf lists (Work number) (end.At address) = ⊥
IsOf lists (At address) one = one ≡ end.At address

-- what a word asks for: its address, or the workload of its name
abbrev pub AsksFor : EstateLists → EndWord → AskedEnd → Type 0
AsksFor lists (word.At address) (At other) = address ≡ other
AsksFor lists (word.At address) (Work number) = ⊥
AsksFor lists (word.Named name) (At address) = ⊥
AsksFor lists (word.Named name) (Work number) = number_named (folding_of lists) name ≡ Some number

-- ---- names of workloads

names-ascend : (lists : EstateLists) → IsLawful lists → IsStrictlySortedBy (slice_cmp nat_cmp) (map (λ (one : Workload). one.name) (workloads_of lists))
names-ascend lists lawful = let count = firsts-le-count (pods_alike lists) (length lists.pods) in let most = lawful.few.pods in workloads-by_name lists (omega (arith, count, most))

-- a workload at an earlier place has another name
earlier-differs : (lists : EstateLists) (a b : ℕ) (d : Workload) → IsLawful lists → a < b → b < length (workloads_of lists)
    → (get_or (workloads_of lists) a d).name ≡ (get_or (workloads_of lists) b d).name → ⊥
earlier-differs lists a b d lawful before within same =
    let name : Workload → List ℕ = λ one. one.name in
    let ws = workloads_of lists in
    let counted = length-map ws name in
    let less = Less-from_sorted (slice_cmp nat_cmp) (map name ws) a b [] (names-ascend lists lawful) before (omega (arith, counted, within)) in
    let a_is : get_or (map name ws) a [] ≡ name (get_or ws a d) = get_or-map name ws a d [] (omega (arith, before, within)) in
    let b_is : get_or (map name ws) b [] ≡ name (get_or ws b d) = get_or-map name ws b d [] within in
    not-before (get_or (map name ws) b []) (subst (λ (text : List ℕ). slice_cmp nat_cmp text (get_or (map name ws) b []) ≡ Less) (a_is ∙ same ∙ sym b_is) less)

-- so two workloads of one name stand at one place
one-name : (lists : EstateLists) (a b : ℕ) (d : Workload) → IsLawful lists → a < length (workloads_of lists) → b < length (workloads_of lists)
    → (get_or (workloads_of lists) a d).name ≡ (get_or (workloads_of lists) b d).name → a ≡ b
one-name lists a b d lawful a_in b_in same =
    elim (cases_order a b) [
      | inl equal ↦ equal
      | inr apart ↦ elim apart [
        | inl before ↦ absurd (earlier-differs lists a b d lawful before b_in same)
        | inr after ↦ absurd (earlier-differs lists b a d lawful after a_in (sym same))
      ]
    ]

-- ---- pods of the workload of a name

-- and its pods are those of the number
members-at : (lists : EstateLists) (number : ℕ) (d : Workload) → number < length (workloads_of lists) → members_of (folding_of lists) number ≡ (get_or (workloads_of lists) number d).members
unfolding folding_of
members-at lists number d within = ap (λ (found : Option Workload). option_map_or (λ (one : Workload). one.members) found []) (slice_get-get_or (workloads_of lists) number d within)

pods-named : (lists : EstateLists) (name : List ℕ) (number place : ℕ) → IsLawful lists → number_named (folding_of lists) name ≡ Some number → NamesEnd lists (word.Named name) (end.Pod place)
    → Contains (members_of (folding_of lists) number) place
pods-named lists name number place lawful found (one, has, named, member) =
    let ws = workloads_of lists in
    let told = found-named lists name number one found in
    let here : get_or ws has.0 one ≡ one = has.2 in
    let same : number ≡ has.0 = one-name lists number has.0 one lawful told.0 has.1 (told.1 ∙ sym named ∙ ap (λ (w : Workload). w.name) (sym here)) in
    let members : members_of (folding_of lists) number ≡ one.members =
    members-at lists number one told.0 ∙ ap (λ (n : ℕ). (get_or ws n one).members) same ∙ ap (λ (w : Workload). w.members) here in
    subst (λ (pods : List ℕ). Contains pods place) (sym members) member

named-pods : (lists : EstateLists) (name : List ℕ) (number place : ℕ) → number_named (folding_of lists) name ≡ Some number → Contains (members_of (folding_of lists) number) place
    → NamesEnd lists (word.Named name) (end.Pod place)
named-pods lists name number place found member =
    let d : Workload = record { name = []; members = [] } in
    let told = found-named lists name number d found in (
      get_or (workloads_of lists) number d,
      Contains-get_or (workloads_of lists) number d told.0,
      told.1,
      subst (λ (pods : List ℕ). Contains pods place) (members-at lists number d told.0) member,
    )

-- a name that has no number names no pod
unnamed : (lists : EstateLists) (name : List ℕ) (place : ℕ) → number_named (folding_of lists) name ≡ None → NamesEnd lists (word.Named name) (end.Pod place) → ⊥
unfolding folding_of
unnamed lists name place none (one, has, named, member) =
    let test : Workload → Bool = λ w. bytes_eq w.name name in
    let passes : test (get_or (workloads_of lists) has.0 one) ≡ true = (bytes_eq-Decides (get_or (workloads_of lists) has.0 one).name name).1 (ap (λ (w : Workload). w.name) has.2 ∙ named) in
    true≢false (sym (list_any_at test (workloads_of lists) has.0 one has.1 passes) ∙ no_position test (workloads_of lists) none)

-- ---- what a word names

pub asked-is : (lists : EstateLists) (named : EndWord) (asked : AskedEnd) → asked_end lists named ≡ Ok asked → AsksFor lists named asked
unfolding asked_end
asked-is lists (word.At address) (At other) is = cc
asked-is lists (word.At address) (Work number) is = absurd (cc)
asked-is lists (word.Named name) asked is = by (number_named (folding_of lists) name) refl asked is
  where
    by : (found : Option ℕ) → number_named (folding_of lists) name ≡ found → (asked : AskedEnd) → or_unknown name Work found ≡ Ok asked → AsksFor lists (word.Named name) asked
    by None found asked is = absurd (cc)
    by (Some number) found (At address) is = absurd (cc)
    by (Some number) found (Work other) is = let same : number ≡ other = cc in found ∙ ap (λ (n : ℕ). Some n) same

-- a word that asks for nothing names nothing
pub none-asked : (lists : EstateLists) (named : EndWord) (fault : Fault) → asked_end lists named ≡ Err fault → NamesNone lists named × (fault ≡ UnknownEnd (end_text named))
unfolding asked_end
none-asked lists (word.At address) fault is = absurd (cc)
none-asked lists (word.Named name) fault is = by (number_named (folding_of lists) name) refl is
  where
    none : number_named (folding_of lists) name ≡ None → (one : End) → NamesEnd lists (word.Named name) one → ⊥
    none found (end.Pod place) names = unnamed lists name place found names
    none found (end.At address) names = names

    by : (found : Option ℕ) → number_named (folding_of lists) name ≡ found → or_unknown name Work found ≡ Err fault → NamesNone lists (word.Named name) × (fault ≡ UnknownEnd name)
    by None found is = (none found, cc)
    by (Some number) found is = absurd (cc)

-- all that a word names is of what it asks for
pub named-of : (lists : EstateLists) (named : EndWord) (asked : AskedEnd) (one : End) → IsLawful lists → AsksFor lists named asked → NamesEnd lists named one → IsOf lists asked one
named-of lists (word.At address) (At other) one lawful asks names = names ∙ ap (λ (a : Address). end.At a) asks
named-of lists (word.At address) (Work number) one lawful asks names = absurd asks
named-of lists (word.Named name) (At address) one lawful asks names = absurd asks
named-of lists (word.Named name) (Work number) (end.At address) lawful asks names = names
named-of lists (word.Named name) (Work number) (end.Pod place) lawful asks names =
    let has = pods-named lists name number place lawful asks names in
    let within = members-within lists (folding_of lists) number place refl (named_workload lists name number asks) has in
    (within, member-number lists number place within has)

-- a word names what stands for the source
pub near-named : (lists : EstateLists) (named : EndWord) (asked : AskedEnd) → AsksFor lists named asked → NamesEnd lists named (source_end (folding_of lists) asked)
near-named lists (word.At address) (At other) asks = ap (λ (a : Address). end.At a) (sym asks)
near-named lists (word.At address) (Work number) asks = absurd asks
near-named lists (word.Named name) (At address) asks = absurd asks
near-named lists (word.Named name) (Work number) asks =
    named-pods lists name number (source_pod (folding_of lists) number) asks
    (source-member (folding_of lists) number (members-some lists (folding_of lists) number refl (named_workload lists name number asks)))

-- and what stands for the destination
pub far-named : (lists : EstateLists) (source : AskedEnd) (named : EndWord) (asked : AskedEnd) → AsksFor lists named asked → are_one (folding_of lists) source asked ≡ false
    → NamesEnd lists named (destination_end (folding_of lists) source asked)
far-named lists (At address) named asked asks apart = near-named lists named asked asks
far-named lists (Work source) (word.At address) (At other) asks apart = ap (λ (a : Address). end.At a) (sym asks)
far-named lists (Work source) (word.At address) (Work number) asks apart = absurd asks
far-named lists (Work source) (word.Named name) (At address) asks apart = absurd asks
far-named lists (Work source) (word.Named name) (Work number) asks apart =
    named-pods lists name number (destination_pod (folding_of lists) source number) asks
    (destination-member (folding_of lists) source number (members-some lists (folding_of lists) number refl (named_workload lists name number asks)) apart)

-- where nothing stands for the destination, both words name one pod alone
pub all-one : (lists : EstateLists) (from to : EndWord) (source destination : AskedEnd) (s d : End) → IsLawful lists → AsksFor lists from source → AsksFor lists to destination
    → are_one (folding_of lists) source destination ≡ true → NamesEnd lists from s → NamesEnd lists to d → are_one_pod s d ≡ true
all-one lists from to (At address) destination s d lawful asks asks' one names names' = absurd (false≢true one)
all-one lists from to (Work a) (At address) s d lawful asks asks' one names names' = absurd (false≢true one)
all-one lists (word.At address) to (Work a) (Work b) s d lawful asks asks' one names names' = absurd asks
all-one lists (word.Named name) (word.At address) (Work a) (Work b) s d lawful asks asks' one names names' = absurd asks'
all-one lists (word.Named name) (word.Named other) (Work a) (Work b) (end.At address) d lawful asks asks' one names names' = absurd names
all-one lists (word.Named name) (word.Named other) (Work a) (Work b) (end.Pod p) (end.At address) lawful asks asks' one names names' = absurd names'
all-one lists (word.Named name) (word.Named other) (Work a) (Work b) (end.Pod p) (end.Pod q) lawful asks asks' one names names' =
    elim (cases_eq p q) [
      | inl same ↦ eq-eqb p q same
      | inr apart ↦
          absurd (false≢true (sym (not-alone (folding_of lists) a b p q (pods-named lists name a p lawful asks names) (pods-named lists other b q lawful asks' names') apart) ∙ one))
    ]
