-- What a report of `explain` says. For `ends_between`.
use Rattle.std.proofs.Common.{◌≡◌, ◌≢◌, ◌<◌, ℕ, List, [], ◌∷◌, cond, length, Bool, true, false, inr, Contains, Option, None, Some, Result, Ok, Err, if◌then◌else◌, arith, refl, sym, ap, subst, ◌∙◌}
use Rattle.std.proofs.lemmas.Bool.{false≢true, ne_eqb}
use Rattle.np_base.proofs.Lists.{Contains-one}
use Rattle.np_command_explain.specs.Prelude.{Address, AreEnds, AreNamed, AskedEnd, At, End, EndWord, EstateLists, ExplainedEnds, Explains, Explanation, Family, Fault, Four, HasPods, HaveBothFamilies, IsAsked, IsRightIn, SameEnd, Six, Work, are_one, asked_end, destination_end, ends_between, explanations, in_families, one_for_all, one_for_each, shown_of_both, source_end}
use Rattle.np_command.proofs.EndLemmas.{named_workload}
use Rattle.np_command_explain.proofs.NamedLemmas.{AsksFor, IsOf, named-of}
use Rattle.np_command.specs.Prelude.{or_unknown}
use Rattle.np_model.specs.Prelude.{IsLawful, families_of, has_family, or_four}
use Rattle.np_model.specs.declared.pod.Pod.{Pod}
use Rattle.np_explain.proofs.ExplanationLemmas.{explanation-right, right-alike, same_sides-Decides, same_sides-right}
use Rattle.np_explain.specs.Prelude.{IsRightFor, explanation_of, family_asked, only_family, packet_families, same_sides}
use Rattle.np_fold.specs.Prelude.{Folding, folding_of, members_of, number_named, workload_number}
use Rattle.np_routes.proofs.KindRoutes.{one_workload-alike}
use Rattle.np_rules.specs.Prelude.{IsEndOf, end_of}
use Rattle.np_rules.specs.declared.packet.End.TheVariants as end
use Rattle.np_kinds.proofs.KindVerdicts.{SameKindEnd, SameKindEnd-ends, got-same, sent-same}
use Rattle.np_kinds.proofs.MemberLemmas.{destination-member, member-number, members-some, members-within, pods-apart, source-member}
use Rattle.np_kinds.specs.Prelude.{IsWorkload, destination_pod, source_pod}
use Rattle.np_args.specs.declared.end_word.EndWord.TheVariants as word
use Rattle.np_addr.specs.Prelude.{family_of}

-- ---- ends

-- a result gives one thing
one_ok : (found : Result AskedEnd Fault) (a b : AskedEnd) → found ≡ Ok a → found ≡ Ok b → a ≡ b
one_ok found a b is is' = cc

at-there : (lists : EstateLists) (address : Address) (asked : AskedEnd) → At address ≡ asked → IsAsked lists asked
at-there lists address (At other) is = tt
at-there lists address (Work number) is = absurd (cc)

work-there : (lists : EstateLists) (number : ℕ) (asked : AskedEnd) → Work number ≡ asked → IsWorkload lists number → IsAsked lists asked
work-there lists number (At address) is there = absurd (cc)
work-there lists number (Work other) is there = let same : number ≡ other = cc in subst (IsWorkload lists) same there

-- what a word names is there
pub asked-there : (lists : EstateLists) (named : EndWord) (asked : AskedEnd) → asked_end lists named ≡ Ok asked → IsAsked lists asked
unfolding asked_end
asked-there lists (word.At address) asked is = at-there lists address asked (one_ok (asked_end lists (word.At address)) (At address) asked refl is)
asked-there lists (word.Named name) asked is = by (number_named (folding_of lists) name) refl is
  where
    by : (found : Option ℕ) → number_named (folding_of lists) name ≡ found → or_unknown name Work found ≡ Ok asked → IsAsked lists asked
    by None found is = absurd (cc)
    by (Some number) found is =
        let told : Work number ≡ asked = one_ok (Ok (Work number)) (Work number) asked refl is in
        work-there lists number asked told (named_workload lists name number found)

pub asked-pods : (lists : EstateLists) (asked : AskedEnd) → IsAsked lists asked → HasPods (folding_of lists) asked
asked-pods lists (At address) there = tt
asked-pods lists (Work number) there = (there, members-some lists (folding_of lists) number refl there)

-- what stands for an end is there
near-there : (lists : EstateLists) (asked : AskedEnd) → IsAsked lists asked → IsEndOf lists (source_end (folding_of lists) asked)
near-there lists (At address) there = tt
near-there lists (Work number) there =
    members-within lists (folding_of lists) number (source_pod (folding_of lists) number) refl there (source-member (folding_of lists) number (members-some lists (folding_of lists) number refl there))

pub ends-there : (lists : EstateLists) (source destination : AskedEnd) → IsAsked lists source → IsAsked lists destination → are_one (folding_of lists) source destination ≡ false
    → AreEnds lists (record { source = source_end (folding_of lists) source; destination = destination_end (folding_of lists) source destination })
ends-there lists (At address) destination source_in destination_in apart =
    record { source = tt; destination = near-there lists destination destination_in; apart = refl }
ends-there lists (Work source) (At address) source_in destination_in apart =
    record { source = near-there lists (Work source) source_in; destination = tt; apart = refl }
ends-there lists (Work source) (Work destination) source_in destination_in apart = record {
  source = near-there lists (Work source) source_in;
  destination = members-within lists (folding_of lists) destination (destination_pod (folding_of lists) source destination) refl destination_in
      (destination-member (folding_of lists) source destination (members-some lists (folding_of lists) destination refl destination_in) apart);
  apart = ne_eqb (source_pod (folding_of lists) source) (destination_pod (folding_of lists) source destination) (pods-apart lists source destination source_in destination_in apart);
}

-- so are those that stand for them where there is one for the destination
pub ends-far : (lists : EstateLists) (folding : Folding) (source destination : AskedEnd) (near far : End) → folding ≡ folding_of lists → IsAsked lists source → IsAsked lists destination
    → Some far ≡ (if are_one folding source destination then None else Some (destination_end folding source destination)) → near ≡ source_end folding source
    → AreEnds lists (record { source = near; destination = far })
ends-far lists folding source destination near far folded source_in destination_in far_is near_is =
    by (are_one (folding_of lists) source destination) refl (subst
    (λ (f : Folding). Some far ≡ (if are_one f source destination then None else Some (destination_end f source destination))) folded far_is)
  where
    near_there : near ≡ source_end (folding_of lists) source
    near_there = near_is ∙ ap (λ (f : Folding). source_end f source) folded

    by : (one : Bool) → are_one (folding_of lists) source destination ≡ one → Some far ≡ (if one then None else Some (destination_end (folding_of lists) source destination))
        → AreEnds lists (record { source = near; destination = far })
    by true is far_is = absurd (cc)
    by false is far_is =
        let far_there : far ≡ destination_end (folding_of lists) source destination = cc in
        let of_near : End → ExplainedEnds = λ one. record { source = one; destination = far } in
        let of_far : End → ExplainedEnds = λ one. record { source = source_end (folding_of lists) source; destination = one } in
        subst (AreEnds lists) (sym (ap of_near near_there ∙ ap of_far far_there)) (ends-there lists source destination source_in destination_in is)

-- ends that are told are no one pod's
pub ends-between : (lists : EstateLists) (from : List ℕ) (source destination : AskedEnd) (ends : ExplainedEnds) → ends_between (folding_of lists) from source destination ≡ Ok ends
    → (are_one (folding_of lists) source destination ≡ false) × (ends ≡ record { source = source_end (folding_of lists) source; destination = destination_end (folding_of lists) source destination })
unfolding ends_between
ends-between lists from source destination ends is = by (are_one (folding_of lists) source destination) refl is
  where
    told : ExplainedEnds
    told = record { source = source_end (folding_of lists) source; destination = destination_end (folding_of lists) source destination }

    by : (one : Bool) → are_one (folding_of lists) source destination ≡ one → (if one then Err (SameEnd from) else Ok told) ≡ Ok ends
        → (are_one (folding_of lists) source destination ≡ false) × (ends ≡ told)
    by true same is = absurd (cc)
    by false apart is = (apart, cc)

-- ---- pods of one workload

-- a pod of the workload is of one kind with the one that stands for it
member-same : (lists : EstateLists) (number place p : ℕ) → IsLawful lists → IsWorkload lists number → Contains (members_of (folding_of lists) number) place
    → p < length lists.pods → workload_number lists p ≡ number → SameKindEnd lists (end_of lists (end.Pod place)) (end_of lists (end.Pod p))
member-same lists number place p lawful number_in has p_in is =
    let place_in = members-within lists (folding_of lists) number place refl number_in has in
    SameKindEnd-ends lists (end_of lists (end.Pod place)) (end_of lists (end.Pod p))
    (one_workload-alike lists place p lawful place_in p_in (member-number lists number place place_in has ∙ sym is)).kind

source-same : (lists : EstateLists) (asked : AskedEnd) (s : End) → IsLawful lists → IsAsked lists asked → IsOf lists asked s
    → SameKindEnd lists (end_of lists (source_end (folding_of lists) asked)) (end_of lists s)
source-same lists (At address) s lawful there is = SameKindEnd-ends lists _ _ (inr (ap (end_of lists) (sym is)))
source-same lists (Work number) (end.Pod p) lawful there is =
    member-same lists number (source_pod (folding_of lists) number) p lawful there (source-member (folding_of lists) number (members-some lists (folding_of lists) number refl there)) is.0 is.1
source-same lists (Work number) (end.At address) lawful there is = absurd is

destination-same : (lists : EstateLists) (source asked : AskedEnd) (d : End) → IsLawful lists → IsAsked lists asked → are_one (folding_of lists) source asked ≡ false → IsOf lists asked d
    → SameKindEnd lists (end_of lists (destination_end (folding_of lists) source asked)) (end_of lists d)
destination-same lists (At address) asked d lawful there apart is = source-same lists asked d lawful there is
destination-same lists (Work source) (At address) d lawful there apart is = SameKindEnd-ends lists _ _ (inr (ap (end_of lists) (sym is)))
destination-same lists (Work source) (Work number) (end.Pod q) lawful there apart is =
    member-same lists number (destination_pod (folding_of lists) source number) q lawful there
    (destination-member (folding_of lists) source number (members-some lists (folding_of lists) number refl there) apart) is.0 is.1
destination-same lists (Work source) (Work number) (end.At address) lawful there apart is = absurd is

-- what is right for the ends that stand for two is right for all of theirs
right-for : (lists : EstateLists) (s d s' d' : End) (family : Family) (made : Explanation) → SameKindEnd lists (end_of lists s) (end_of lists s') → SameKindEnd lists (end_of lists d) (end_of lists d')
    → IsRightFor lists s d family made → IsRightFor lists s' d' family made
right-for lists s d s' d' family made first second =
    right-alike lists s d s' d' family made
    (λ spot. sent-same lists family spot (end_of lists s) (end_of lists s') (end_of lists d) (end_of lists d') first second)
    (λ spot. got-same lists family spot (end_of lists s) (end_of lists s') (end_of lists d) (end_of lists d') first second)

-- ---- families

only-contained : (families : List Family) (one family : Family) → only_family families ≡ Some one → Contains families family → one ≡ family
only-contained [] one family is has = absurd (cc)
only-contained (x ∷ []) one family is has = cc (Contains-one x family has)
only-contained (x ∷ y ∷ more) one family is has = absurd (cc)

asked-family : (lists : EstateLists) (source destination : AskedEnd) (s d : End) (one family : Family) → IsOf lists source s → IsOf lists destination d → Contains (packet_families lists s d) family
    → family_asked lists (source_end (folding_of lists) source) (destination_end (folding_of lists) source destination) ≡ Some one → one ≡ family
asked-family lists (At address) destination s d one family s_is d_is between asked =
    only-contained (family_of address ∷ []) one family asked (subst (λ (x : End). Contains (packet_families lists x d) family) s_is between)
asked-family lists (Work source) (At address) (end.Pod p) d one family s_is d_is between asked =
    only-contained (family_of address ∷ []) one family asked (subst (λ (x : End). Contains (packet_families lists (end.Pod p) x) family) d_is between)
asked-family lists (Work source) (Work destination) (end.Pod p) (end.Pod q) one family s_is d_is between asked = only-contained (families_of lists.pods) one family asked between
asked-family lists (Work source) destination (end.At address) d one family s_is d_is between asked = absurd s_is
asked-family lists (Work source) (Work destination) (end.Pod p) (end.At address) one family s_is d_is between asked = absurd d_is

-- a list that has no family alone has both
both-of : (four six : Bool) → only_family (or_four (cond four (Four ∷ cond six (Six ∷ []) []) (cond six (Six ∷ []) []))) ≡ None
    → (family : Family) → Contains (or_four (cond four (Four ∷ cond six (Six ∷ []) []) (cond six (Six ∷ []) []))) family
both-of true true none Four = (0, omega arith, refl)
both-of true true none Six = (1, omega arith, refl)
both-of true false none family = absurd (cc)
both-of false true none family = absurd (cc)
both-of false false none family = absurd (cc)

both-contained : (pods : List Pod) (family : Family) → only_family (families_of pods) ≡ None → Contains (families_of pods) family
both-contained pods family none = both-of (has_family pods Four) (has_family pods Six) none family

-- where no family alone is asked about there are packets of both
both-asked : (lists : EstateLists) (source destination : AskedEnd) (s d : End) (family : Family) → IsOf lists source s → IsOf lists destination d
    → family_asked lists (source_end (folding_of lists) source) (destination_end (folding_of lists) source destination) ≡ None → Contains (packet_families lists s d) family
both-asked lists (At address) destination s d family s_is d_is asked = absurd (cc)
both-asked lists (Work source) (At address) s d family s_is d_is asked = absurd (cc)
both-asked lists (Work source) (Work destination) (end.Pod p) (end.Pod q) family s_is d_is asked = both-contained lists.pods family asked
both-asked lists (Work source) (Work destination) (end.At address) d family s_is d_is asked = absurd s_is
both-asked lists (Work source) (Work destination) (end.Pod p) (end.At address) family s_is d_is asked = absurd d_is

-- ---- what is shown

-- an explanation of each family gives what is shown, where it is right in what it is shown of
explains-by : (lists : EstateLists) (from to : EndWord) (asked : Option Family) (make : Family → Explanation)
    → ((one family : Family) → asked ≡ Some one → IsRightIn lists from to family (make one)) → ((family : Family) → IsRightIn lists from to family (make family))
    → (same_sides (make Four) (make Six) ≡ true → IsRightIn lists from to Six (make Four)) → (asked ≡ None → HaveBothFamilies lists from to)
    → Explains lists from to (in_families asked make)
explains-by lists from to (Some one) make only own both two = one_for_all (make one) refl (λ family. only one family refl)
explains-by lists from to None make only own both two = by (same_sides (make Four) (make Six)) refl
  where
    each : same_sides (make Four) (make Six) ≡ true → (family : Family) → IsRightIn lists from to family (make Four)
    each same Four = own Four
    each same Six = both same

    by : (same : Bool) → same_sides (make Four) (make Six) ≡ same → Explains lists from to (shown_of_both (make Four) (make Six))
    by true same = one_for_all (make Four) (rw same refl) (each same)
    by false differ =
        one_for_each (make Four) (make Six) (rw differ refl) (own Four) (own Six) (two refl)
        (λ equal. false≢true (sym differ ∙ (same_sides-Decides (make Four) (make Six)).1 equal))

pub explained : (lists : EstateLists) (from to : EndWord) (source destination : AskedEnd) → IsLawful lists → AsksFor lists from source → AsksFor lists to destination
    → IsAsked lists source → IsAsked lists destination → are_one (folding_of lists) source destination ≡ false
    → Explains lists from to (explanations lists (record { source = source_end (folding_of lists) source; destination = destination_end (folding_of lists) source destination }))
unfolding explanations
explained lists from to source destination lawful asks asks' source_in destination_in apart =
    explains-by lists from to (family_asked lists near far) make only own both two
  where
    near : End
    near = source_end (folding_of lists) source

    far : End
    far = destination_end (folding_of lists) source destination

    make : Family → Explanation
    make = explanation_of lists near far

    right : (family : Family) (one : Explanation) → IsRightFor lists near far family one → (s d : End) → AreNamed lists from to s d → IsRightFor lists s d family one
    right family one is s d named =
        right-for lists near far s d family one (source-same lists source s lawful source_in (named-of lists from source s lawful asks named.0))
        (destination-same lists source destination d lawful destination_in apart (named-of lists to destination d lawful asks' named.1)) is

    only : (one family : Family) → family_asked lists near far ≡ Some one → IsRightIn lists from to family (make one)
    only one family is = λ s d named between.
        let same : one ≡ family =
        asked-family lists source destination s d one family (named-of lists from source s lawful asks named.0) (named-of lists to destination d lawful asks' named.1) between is in
        subst (λ (f : Family). IsRightFor lists s d f (make one)) same (right one (make one) (explanation-right lists near far one) s d named)

    own : (family : Family) → IsRightIn lists from to family (make family)
    own family = λ s d named between. right family (make family) (explanation-right lists near far family) s d named

    both : same_sides (make Four) (make Six) ≡ true → IsRightIn lists from to Six (make Four)
    both same = λ s d named between. right Six (make Four) (same_sides-right lists near far Four Six same) s d named

    two : family_asked lists near far ≡ None → HaveBothFamilies lists from to
    two none = λ s d family named.
        both-asked lists source destination s d family (named-of lists from source s lawful asks named.0) (named-of lists to destination d lawful asks' named.1) none
