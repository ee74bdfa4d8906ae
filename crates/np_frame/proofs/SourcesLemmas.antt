-- Reading the inputs of a job one after another. For `read_all` and crates above.
use Rattle.std.proofs.Common.{◌≡◌, ℕ, zero, suc, ◌+◌, ◌^◌, ◌<◌, ◌≤◌, List, [], ◌∷◌, ◌++◌, length, take, drop, get_or, map, Option, Some, None, is_some, IsSome, true, refl, sym, ap, ◌∙◌, subst, inl, inr, arith, Vec, append_assoc, append-nil, add-zero, sum_by}
use Rattle.std.specs.Prelude.{◌⊎◌, Contains}
use Rattle.std.specs.Option.{option_map}
use Rattle.std.specs.declared.alloc.Global.{Global}
use Rattle.std.proofs.lemmas.Bool.{lt-ltb, cases_lt, true≢false}
use Rattle.std.proofs.lemmas.List.{get_or_read, length-take-le, map-append, take-append-drop, take_more}
use Rattle.std.proofs.lemmas.List.Elements.{Contains-append_left, Contains-append_right, Contains-get_or}
use Rattle.std.proofs.lemmas.List.Sums.{sum_by-append, sum_by_more_le}
use Rattle.np_io.specs.Prelude.{BeganNext, IsTold, Rose, handed_after}
use Rattle.np_frame.specs.Prelude.{AreTold, BeganFront, FailedAt, HandedOut, NextUnread, SourceTrace, Unread, is_too_large}
use Rattle.np_frame.specs.declared.sources.TheConstants.{SIZE_LIMIT}
use Rattle.np_frame.specs.declared.sources.SourceFault.{SourceFault}
use Rattle.np_frame.specs.declared.sources.SourceFault.TheVariants.{CannotRead, TooLarge, NoMemory}

-- the bytes of texts, as contracts see them
abbrev pub bytes_of : List (Vec ℕ Global) → List (List ℕ)
bytes_of texts = map (λ text. text.items) texts

-- the count rose by so many, or stands at its end
abbrev pub RoseBy : ℕ → ℕ → ℕ → Type 0
RoseBy n old new = (old + n ≤ new) ⊎ (2 ^ 64 ≤ new + 1)

-- as many names as texts are told
pub AreTold-length : (holds : List ℕ → Option (List ℕ)) (left : Option (List ℕ)) (names texts : List (List ℕ)) → AreTold holds left names texts → length texts ≡ length names
AreTold-length holds left [] [] told = refl
AreTold-length holds left [] (text ∷ texts) told = absurd told
AreTold-length holds left (name ∷ names) [] told = absurd told
AreTold-length holds left (name ∷ names) (text ∷ texts) told = ap (λ (n : ℕ). suc n) (AreTold-length holds left names texts told.1)

-- what is told for the name at a place
pub AreTold-at : (holds : List ℕ → Option (List ℕ)) (left : Option (List ℕ)) (names texts : List (List ℕ)) (i : ℕ) → AreTold holds left names texts → i < length names →
    IsTold holds left (get_or names i []) (get_or texts i [])
AreTold-at holds left [] [] i told below = absurd (omega arith)
AreTold-at holds left [] (text ∷ texts) i told below = absurd told
AreTold-at holds left (name ∷ names) [] i told below = absurd told
AreTold-at holds left (name ∷ names) (text ∷ texts) zero told below = told.0
AreTold-at holds left (name ∷ names) (text ∷ texts) (suc i) told below = AreTold-at holds left names texts i told.1 (omega arith)

-- the bytes so far, and those of the next input
pub bytes_of-more : (texts : List (List ℕ)) (made : List (Vec ℕ Global)) (next : Vec ℕ Global) (i : ℕ) → i < length texts → bytes_of made ≡ take i texts → next.items ≡ get_or texts i [] →
    bytes_of (made ++ next ∷ []) ≡ take (i + 1) texts
bytes_of-more texts made next i below so_far is =
    map-append (λ (text : Vec ℕ Global). text.items) made (next ∷ [])
    ∙ ap (λ (front : List (List ℕ)). front ++ next.items ∷ []) so_far
    ∙ ap (λ (bytes : List ℕ). take i texts ++ bytes ∷ []) is
    ∙ sym (take_more texts i [] below)

pub total_size-more : (made : List (Vec ℕ Global)) (next : Vec ℕ Global) → sum_by length (bytes_of (made ++ next ∷ [])) ≡ sum_by length (bytes_of made) + length next.items
total_size-more made next =
    ap (sum_by length) (map-append (λ (text : Vec ℕ Global). text.items) made (next ∷ []))
    ∙ sum_by-append length (bytes_of made) (next.items ∷ [])
    ∙ omega arith

pub RoseBy-more : (n m old new : ℕ) → RoseBy n old new → RoseBy (n + m) old (handed_after new m)
RoseBy-more n m old new rose = elim rose [
  | inl by ↦ elim (cases_lt (new + m) (2 ^ 64)) [ inl below ↦ inl (omega arith) | inr above ↦ inr (omega arith) ]
  | inr end ↦ inr (omega arith)
]

-- past the room that is left is past the limit
pub past-joined : (n room limit old mid new : ℕ) → room + n ≡ limit → RoseBy n old mid → Rose (mid + room) new → Rose (old + limit) new
past-joined n room limit old mid new whole rose past = elim past [
  | inl by ↦ elim rose [ inl far ↦ inl (omega arith) | inr end ↦ inr (omega arith) ]
  | inr end ↦ inr end
]

-- the inputs so far leave room for fewer bytes than the next one has
pub is_too_large-told : (texts : List (List ℕ)) (made : List (Vec ℕ Global)) (i room : ℕ) → i < length texts → bytes_of made ≡ take i texts → room + sum_by length (bytes_of made) ≡ SIZE_LIMIT →
    room < length (get_or texts i []) → is_too_large texts ≡ true
is_too_large-told texts made i room below so_far counted past =
    let sizes : sum_by length (bytes_of made) ≡ sum_by length (take i texts) = ap (sum_by length) so_far in
    let more = sum_by_more_le length texts i [] below in
    lt-ltb SIZE_LIMIT (sum_by length texts) (omega arith)

still_some : {X : Type 0} (old new : Option X) → is_some new ≡ is_some old → IsSome old → IsSome new
still_some None None same is = is
still_some None (Some y) same is = refl
still_some (Some x) None same is = absurd (true≢false (sym same))
still_some (Some x) (Some y) same is = refl

-- what the source told of the next name at first, it tells still
pub told-next : (holds holds_now : List ℕ → Option (List ℕ)) (left left_now : Option (List ℕ)) (names texts : List (List ℕ)) (i : ℕ) (name : List ℕ) → holds_now ≡ holds →
    is_some left_now ≡ is_some left → i < length names → name ≡ get_or names i name → AreTold holds left names texts → IsTold holds_now left_now name (get_or texts i [])
told-next holds holds_now left left_now names texts i name same_holds same_left below is told =
    let at_first = AreTold-at holds left names texts i told below in
    let here : name ≡ get_or names i [] = get_or_read names i name below is [] in
    record {
      holding = ap (λ (h : List ℕ → Option (List ℕ)). h name) same_holds ∙ ap holds here ∙ at_first.holding;
      what_is_left = still_some left left_now same_left at_first.what_is_left;
    }

-- ---- names that were begun

-- no name
pub BeganNext-none : (old new : Option (List (List ℕ))) → new ≡ old → BeganNext old new []
BeganNext-none None new same = inl same
BeganNext-none (Some names) new same = inr (same ∙ ap (λ (ns : List (List ℕ)). Some ns) (sym (append-nil names)))

-- some names, and then others
pub BeganNext-more : (old middle new : Option (List (List ℕ))) (first second : List (List ℕ)) → BeganNext old middle first → BeganNext middle new second → BeganNext old new (first ++ second)
BeganNext-more old middle new first second before after = elim after [
  | inl untold ↦ inl untold
  | inr more ↦ elim before [
    | inl untold ↦ inl (more ∙ ap (option_map (λ (ns : List (List ℕ)). ns ++ second)) untold)
    | inr some ↦ inr (more ∙ ap (option_map (λ (ns : List (List ℕ)). ns ++ second)) some ∙ both old)
  ]
]
  where
    both : (known : Option (List (List ℕ))) →
        option_map (λ (ns : List (List ℕ)). ns ++ second) (option_map (λ (ns : List (List ℕ)). ns ++ first) known) ≡ option_map (λ (ns : List (List ℕ)). ns ++ (first ++ second)) known
    both None = refl
    both (Some names) = ap (λ (ns : List (List ℕ)). Some ns) (append_assoc names first second)

-- the names before a place, and then that of the place
pub Began-next : (old middle new : Option (List (List ℕ))) (names : List (List ℕ)) (i : ℕ) (name : List ℕ) → i < length names → name ≡ get_or names i name → BeganNext old middle (take i names) →
    BeganNext middle new (name ∷ []) → BeganNext old new (take (i + 1) names)
Began-next old middle new names i name below is before after =
    let here : name ≡ get_or names i [] = get_or_read names i name below is [] in
    let front : take i names ++ name ∷ [] ≡ take (i + 1) names = ap (λ (n : List ℕ). take i names ++ n ∷ []) here ∙ sym (take_more names i [] below) in
    subst (BeganNext old new) front (BeganNext-more old middle new (take i names) (name ∷ []) before after)

-- so a front of the names was begun
pub BeganFront-next : (source : SourceTrace) (names : List (List ℕ)) (i : ℕ) → BeganNext source.began_before source.began_after (take (i + 1) names) → BeganFront source names
BeganFront-next source names i began = record { front = take (i + 1) names; rest = drop (i + 1) names; order = sym (take-append-drop (i + 1) names); began = began }

-- a name between others is one of them
pub Contains-middle : (earlier : List (List ℕ)) (name : List ℕ) (later : List (List ℕ)) → Contains (earlier ++ name ∷ later) name
Contains-middle earlier name later =
    Contains-append_right earlier (name ∷ later) name (Contains-append_left (name ∷ []) later name (Contains-get_or (name ∷ []) 0 name (omega arith)))

-- ---- bytes that were handed out

pub HandedOut-none : (count : ℕ) → HandedOut count count 0
HandedOut-none count = record { exact = rw add-zero refl; most = omega arith }

pub HandedOut-more : (old middle new n m : ℕ) → HandedOut old middle n → new ≡ handed_after middle m → HandedOut old new (n + m)
HandedOut-more old middle new n m out is =
    let exact = out.exact in
    let most = out.most in
    record { exact = omega arith; most = omega arith }

-- ---- why the next input was not read is why all were not

-- a name between those before it and those behind it
parted : (names : List (List ℕ)) (i : ℕ) (name : List ℕ) → i < length names → name ≡ get_or names i [] → names ≡ take i names ++ (name ∷ drop (i + 1) names)
parted names i name below here =
    sym (take-append-drop (i + 1) names)
    ∙ ap (λ (front : List (List ℕ)). front ++ drop (i + 1) names) (take_more names i [] below ∙ ap (λ (n : List ℕ). take i names ++ n ∷ []) (sym here))
    ∙ append_assoc (take i names) (name ∷ []) (drop (i + 1) names)

pub Unread-next : (source : SourceTrace) (holds_now : List ℕ → Option (List ℕ)) (left_now : Option (List ℕ)) (faults_now : List ℕ → ℕ) (handed_now : ℕ) (began_now : Option (List (List ℕ)))
    (names : List (List ℕ)) (made : List (Vec ℕ Global)) (i room : ℕ) (name : List ℕ) (fault : SourceFault) →
    holds_now ≡ source.holds → is_some left_now ≡ is_some source.left → faults_now ≡ source.faults_before → i < length names → name ≡ get_or names i name →
    ((texts : List (List ℕ)) → AreTold source.holds source.left names texts → bytes_of made ≡ take i texts) → room + sum_by length (bytes_of made) ≡ SIZE_LIMIT →
    RoseBy (sum_by length (bytes_of made)) source.handed_before handed_now → HandedOut source.handed_before handed_now (sum_by length (bytes_of made)) →
    BeganNext source.began_before began_now (take i names) → BeganNext began_now source.began_after (name ∷ []) →
    NextUnread (record {
      holds = holds_now;
      left = left_now;
      faults_before = faults_now;
      faults_after = source.faults_after;
      handed_before = handed_now;
      handed_after = source.handed_after;
      began_before = began_now;
      began_after = source.began_after;
    }) name room fault →
    Unread source names fault
Unread-next source holds_now left_now faults_now handed_now began_now names made i room name (CannotRead named) same_holds same_left same_faults below is so_far counted rose out before after why =
    let at_name : (n : ℕ) → Rose n (source.faults_after name) → (source.faults_before name ≡ n) → Rose (source.faults_before name) (source.faults_after name) = λ n r e. subst
    (λ (m : ℕ). Rose m (source.faults_after name)) (sym e) r in
    let here : name ≡ get_or names i [] = get_or_read names i name below is [] in
    let most = out.most in
    let more = why.2 in
    subst (FailedAt source names) (sym why.0) (record {
      earlier = take i names;
      later = drop (i + 1) names;
      order = parted names i name below here;
      began = BeganNext-more source.began_before began_now source.began_after (take i names) (name ∷ []) before after;
      in_room = omega arith;
      rose = at_name (faults_now name) why.1 (ap (λ (f : List ℕ → ℕ). f name) (sym same_faults));
    })
Unread-next source holds_now left_now faults_now handed_now began_now names made i room name TooLarge same_holds same_left same_faults below is so_far counted rose out before after why =
    let here : name ≡ get_or names i [] = get_or_read names i name below is [] in
    let most = out.most in
    let more = why.1 in
    record {
      earlier = take i names;
      name = name;
      later = drop (i + 1) names;
      order = parted names i name below here;
      began = BeganNext-more source.began_before began_now source.began_after (take i names) (name ∷ []) before after;
      past = past-joined (sum_by length (bytes_of made)) room SIZE_LIMIT source.handed_before handed_now source.handed_after counted rose why.0;
      most = omega arith;
      unfailed = why.2 ∙ same_faults;
      large = λ texts told.
          let fewer = AreTold-length source.holds source.left names texts told in
          is_too_large-told texts made i room (omega arith) (so_far texts told) counted
          (why.3 (get_or texts i []) (told-next source.holds holds_now source.left left_now names texts i name same_holds same_left below is told));
      fits = λ texts told.
          let size : sum_by length (bytes_of made) ≡ sum_by length (take (length (take i names)) texts) = ap (sum_by length)
          (so_far texts told ∙ ap (λ (n : ℕ). take n texts) (sym (length-take-le i names (omega (arith, below))))) in
          omega (arith, size, counted);
    }
Unread-next source holds_now left_now faults_now handed_now began_now names made i room name NoMemory same_holds same_left same_faults below is so_far counted rose out before after why =
    BeganFront-next source names i (Began-next source.began_before began_now source.began_after names i name below is before after)
