-- A text of requirements belongs to one list of them. For `one_text_has_one_peer`.
use Rattle.std.proofs.Common.{◌≡◌, ℕ, List, [], ◌∷◌, ◌++◌, length, flat_map, drop, Bool, true, false, not, ◌&&◌, ◌==◌, codes, refl, sym, ap, ◌∙◌, append_assoc}
use Rattle.std.specs.List.{list_all}
use Rattle.std.proofs.lemmas.Bool.{and_parts, false≢true, true≢false, not-true, eqb-false}
use Rattle.np_base.proofs.Lists.{some-more}
use Rattle.np_base.proofs.Texts.{texts-apart}
use Rattle.np_exposure.proofs.SameLemmas.{requirement-equal, sided-equal}
use Rattle.np_exposure.specs.Prelude.{Absent, Namespace, NoneOf, OneOf, Op, Pod, Present, Side, SidedRequirement, are_well, asked_text, named_side_text, peer_text, requirement_text, values_text}
use Rattle.np_model.specs.Prelude.{is_whole_word, is_word, is_worded}
use Rattle.np_labels.specs.Prelude.{fits, is_ascending, is_well_requirement}
use Rattle.np_model.proofs.WordLemmas.{words-cut}

-- ---- values

abbrev others_text : List (List ℕ) → List ℕ
others_text values = flat_map (λ value. codes "," ++ value) values

values-one : (v v' : List ℕ) (vs vs' : List (List ℕ)) (t t' : List ℕ) → list_all is_word (v ∷ vs) ≡ true → list_all is_word (v' ∷ vs') ≡ true →
    v ++ (others_text vs ++ 41 ∷ t) ≡ v' ++ (others_text vs' ++ 41 ∷ t') → (v ∷ vs ≡ v' ∷ vs') × (t ≡ t')
values-one v v' [] [] t t' words words' same =
    let parts = words-cut v v' 41 41 t t' (and_parts (is_word v) true words).0 (and_parts (is_word v') true words').0 refl refl same in
    (rw parts.0 refl, parts.2)
values-one v v' [] (u' ∷ us') t t' words words' same =
    let parts = words-cut v v' 41 44 t (u' ++ (others_text us' ++ 41 ∷ t')) (and_parts (is_word v) true words).0 (and_parts (is_word v') (list_all is_word (u' ∷ us')) words').0 refl refl
    (same ∙ ap (λ (rest : List ℕ). v' ++ 44 ∷ rest) (append_assoc u' (others_text us') (41 ∷ t'))) in
    absurd (eqb-false 41 44 refl parts.1)
values-one v v' (u ∷ us) [] t t' words words' same =
    let parts = words-cut v v' 44 41 (u ++ (others_text us ++ 41 ∷ t)) t' (and_parts (is_word v) (list_all is_word (u ∷ us)) words).0 (and_parts (is_word v') true words').0 refl refl
    (sym (ap (λ (rest : List ℕ). v ++ 44 ∷ rest) (append_assoc u (others_text us) (41 ∷ t))) ∙ same) in
    absurd (eqb-false 44 41 refl parts.1)
values-one v v' (u ∷ us) (u' ∷ us') t t' words words' same =
    let here = and_parts (is_word v) (list_all is_word (u ∷ us)) words in
    let there = and_parts (is_word v') (list_all is_word (u' ∷ us')) words' in
    let parts = words-cut v v' 44 44 (u ++ (others_text us ++ 41 ∷ t)) (u' ++ (others_text us' ++ 41 ∷ t')) here.0 there.0 refl refl
    (sym (ap (λ (rest : List ℕ). v ++ 44 ∷ rest) (append_assoc u (others_text us) (41 ∷ t))) ∙ same ∙ ap (λ (rest : List ℕ). v' ++ 44 ∷ rest) (append_assoc u' (others_text us') (41 ∷ t'))) in
    let rest = values-one u u' us us' t t' here.1 there.1 parts.2 in
    (rw (parts.0, rest.0) refl, rest.1)

listed-one : (values values' : List (List ℕ)) (t t' : List ℕ) → (length values == 0) ≡ false → (length values' == 0) ≡ false → list_all is_word values ≡ true → list_all is_word values' ≡ true →
    values_text values ++ 41 ∷ t ≡ values_text values' ++ 41 ∷ t' → (values ≡ values') × (t ≡ t')
listed-one [] values' t t' some some' words words' same = absurd (true≢false some)
listed-one (v ∷ vs) [] t t' some some' words words' same = absurd (true≢false some')
listed-one (v ∷ vs) (v' ∷ vs') t t' some some' words words' same =
    values-one v v' vs vs' t t' words words' (sym (append_assoc v (others_text vs) (41 ∷ t)) ∙ same ∙ append_assoc v' (others_text vs') (41 ∷ t'))

-- ---- what is asked

none-listed : (values : List (List ℕ)) → (length values == 0) ≡ true → values ≡ []
none-listed [] none = refl
none-listed (v ∷ vs) none = absurd (false≢true (sym (some-more v vs) ∙ none))

twice-true : (b : Bool) → not (not b) ≡ true → b ≡ true
twice-true true is = refl
twice-true false is = absurd (false≢true is)

pub record IsSameAsked (one other : Op) (these those : List (List ℕ)) (t t' : List ℕ) : Type 0 where
  pub op : one ≡ other
  pub values : these ≡ those
  pub rest : t ≡ t'

opened : (values : List (List ℕ)) (t : List ℕ) → asked_text OneOf values ++ t ≡ codes "In (" ++ (values_text values ++ 41 ∷ t)
opened values t = simp append_assoc

opened-none : (values : List (List ℕ)) (t : List ℕ) → asked_text NoneOf values ++ t ≡ codes "NotIn (" ++ (values_text values ++ 41 ∷ t)
opened-none values t = simp append_assoc

asked-one : (op op' : Op) (values values' : List (List ℕ)) (t t' : List ℕ) → list_all is_word values ≡ true → list_all is_word values' ≡ true → fits op (not (length values == 0)) ≡ true →
    fits op' (not (length values' == 0)) ≡ true → asked_text op values ++ t ≡ asked_text op' values' ++ t' → IsSameAsked op op' values values' t t'
asked-one OneOf OneOf values values' t t' words words' fit fit' same =
    let both : codes "In (" ++ (values_text values ++ 41 ∷ t) ≡ codes "In (" ++ (values_text values' ++ 41 ∷ t') = sym (opened values t) ∙ same ∙ opened values' t' in
    let parts = listed-one values values' t t' (not-true _ fit) (not-true _ fit') words words' (ap (λ (text : List ℕ). drop 4 text) both) in
    record { op = refl; values = parts.0; rest = parts.1 }
asked-one NoneOf NoneOf values values' t t' words words' fit fit' same =
    let both : codes "NotIn (" ++ (values_text values ++ 41 ∷ t) ≡ codes "NotIn (" ++ (values_text values' ++ 41 ∷ t') = sym (opened-none values t) ∙ same ∙ opened-none values' t' in
    let parts = listed-one values values' t t' (not-true _ fit) (not-true _ fit') words words' (ap (λ (text : List ℕ). drop 7 text) both) in
    record { op = refl; values = parts.0; rest = parts.1 }
asked-one Present Present values values' t t' words words' fit fit' same =
    record { op = refl; values = none-listed values (twice-true _ fit) ∙ sym (none-listed values' (twice-true _ fit')); rest = ap (λ (text : List ℕ). drop 6 text) same }
asked-one Absent Absent values values' t t' words words' fit fit' same =
    record { op = refl; values = none-listed values (twice-true _ fit) ∙ sym (none-listed values' (twice-true _ fit')); rest = ap (λ (text : List ℕ). drop 12 text) same }
asked-one OneOf NoneOf values values' t t' words words' fit fit' same = absurd (texts-apart 0 73 78 (asked_text OneOf values ++ t) (asked_text NoneOf values' ++ t') same refl refl refl)
asked-one OneOf Present values values' t t' words words' fit fit' same = absurd (texts-apart 0 73 69 (asked_text OneOf values ++ t) (asked_text Present values' ++ t') same refl refl refl)
asked-one OneOf Absent values values' t t' words words' fit fit' same = absurd (texts-apart 0 73 68 (asked_text OneOf values ++ t) (asked_text Absent values' ++ t') same refl refl refl)
asked-one NoneOf OneOf values values' t t' words words' fit fit' same = absurd (texts-apart 0 78 73 (asked_text NoneOf values ++ t) (asked_text OneOf values' ++ t') same refl refl refl)
asked-one NoneOf Present values values' t t' words words' fit fit' same = absurd (texts-apart 0 78 69 (asked_text NoneOf values ++ t) (asked_text Present values' ++ t') same refl refl refl)
asked-one NoneOf Absent values values' t t' words words' fit fit' same = absurd (texts-apart 0 78 68 (asked_text NoneOf values ++ t) (asked_text Absent values' ++ t') same refl refl refl)
asked-one Present OneOf values values' t t' words words' fit fit' same = absurd (texts-apart 0 69 73 (asked_text Present values ++ t) (asked_text OneOf values' ++ t') same refl refl refl)
asked-one Present NoneOf values values' t t' words words' fit fit' same = absurd (texts-apart 0 69 78 (asked_text Present values ++ t) (asked_text NoneOf values' ++ t') same refl refl refl)
asked-one Present Absent values values' t t' words words' fit fit' same = absurd (texts-apart 0 69 68 (asked_text Present values ++ t) (asked_text Absent values' ++ t') same refl refl refl)
asked-one Absent OneOf values values' t t' words words' fit fit' same = absurd (texts-apart 0 68 73 (asked_text Absent values ++ t) (asked_text OneOf values' ++ t') same refl refl refl)
asked-one Absent NoneOf values values' t t' words words' fit fit' same = absurd (texts-apart 0 68 78 (asked_text Absent values ++ t) (asked_text NoneOf values' ++ t') same refl refl refl)
asked-one Absent Present values values' t t' words words' fit fit' same = absurd (texts-apart 0 68 69 (asked_text Absent values ++ t) (asked_text Present values' ++ t') same refl refl refl)

-- ---- requirements

side-one : (side side' : Side) → named_side_text side ≡ named_side_text side' → side ≡ side'
side-one Namespace Namespace same = refl
side-one Pod Pod same = refl
side-one Namespace Pod same = absurd (texts-apart 0 110 112 (codes "namespace") (codes "pod") same refl refl refl)
side-one Pod Namespace same = absurd (texts-apart 0 112 110 (codes "pod") (codes "namespace") same refl refl refl)

side-word : (side : Side) → is_word (named_side_text side) ≡ true
side-word Namespace = refl
side-word Pod = refl

spelled : (asked : SidedRequirement) (t : List ℕ) →
    requirement_text asked ++ t ≡ named_side_text asked.side ++ 32 ∷ (asked.requirement.key ++ 32 ∷ (asked_text asked.requirement.op asked.requirement.values ++ t))
spelled asked t = simp append_assoc

abbrev is_well : SidedRequirement → Bool
is_well asked = is_worded asked.requirement && is_well_requirement asked.requirement

requirement-one : (a b : SidedRequirement) (t t' : List ℕ) → is_well a ≡ true → is_well b ≡ true → requirement_text a ++ t ≡ requirement_text b ++ t' → (a ≡ b) × (t ≡ t')
requirement-one a b t t' well well' same =
    let one = and_parts (is_worded a.requirement) (is_well_requirement a.requirement) well in
    let two = and_parts (is_worded b.requirement) (is_well_requirement b.requirement) well' in
    let words = and_parts (is_whole_word a.requirement.key) (list_all is_word a.requirement.values) one.0 in
    let words' = and_parts (is_whole_word b.requirement.key) (list_all is_word b.requirement.values) two.0 in
    let key = and_parts (not (length a.requirement.key == 0)) (is_word a.requirement.key) words.0 in
    let key' = and_parts (not (length b.requirement.key == 0)) (is_word b.requirement.key) words'.0 in
    let fit = and_parts (is_ascending a.requirement.values) (fits a.requirement.op (not (length a.requirement.values == 0))) one.1 in
    let fit' = and_parts (is_ascending b.requirement.values) (fits b.requirement.op (not (length b.requirement.values == 0))) two.1 in
    let sides = words-cut (named_side_text a.side) (named_side_text b.side) 32 32 _ _ (side-word a.side) (side-word b.side) refl refl (sym (spelled a t) ∙ same ∙ spelled b t') in
    let keys = words-cut a.requirement.key b.requirement.key 32 32 _ _ key.1 key'.1 refl refl sides.2 in
    let asked = asked-one a.requirement.op b.requirement.op a.requirement.values b.requirement.values t t' words.1 words'.1 fit.1 fit'.1 keys.2 in
    (sided-equal a b (side-one a.side b.side sides.0) (requirement-equal a.requirement b.requirement keys.0 asked.op asked.values), asked.rest)

-- ---- lists of requirements

abbrev more_text : List SidedRequirement → List ℕ
more_text all = flat_map (λ asked. codes " and " ++ requirement_text asked) all

behind : (one : SidedRequirement) (all : List SidedRequirement) → more_text (one ∷ all) ++ codes "}" ≡ codes " and " ++ (requirement_text one ++ (more_text all ++ codes "}"))
behind one all =
    append_assoc (codes " and " ++ requirement_text one) (more_text all) (codes "}") ∙ append_assoc (codes " and ") (requirement_text one) (more_text all ++ codes "}")

list-one : (a b : SidedRequirement) (xs ys : List SidedRequirement) → are_well (a ∷ xs) ≡ true → are_well (b ∷ ys) ≡ true →
    requirement_text a ++ (more_text xs ++ codes "}") ≡ requirement_text b ++ (more_text ys ++ codes "}") → a ∷ xs ≡ b ∷ ys
list-one a b [] [] well well' same =
    let here = and_parts (is_well a) true well in
    let there = and_parts (is_well b) true well' in
    ap (λ (asked : SidedRequirement). asked ∷ []) (requirement-one a b (codes "}") (codes "}") here.0 there.0 same).0
list-one a b [] (next ∷ ys) well well' same =
    let here = and_parts (is_well a) true well in
    let there = and_parts (is_well b) (are_well (next ∷ ys)) well' in
    let parts = requirement-one a b (codes "}") (more_text (next ∷ ys) ++ codes "}") here.0 there.0 same in
    absurd (texts-apart 0 125 32 (codes "}") _ (parts.1 ∙ behind next ys) refl refl refl)
list-one a b (next ∷ xs) [] well well' same =
    let here = and_parts (is_well a) (are_well (next ∷ xs)) well in
    let there = and_parts (is_well b) true well' in
    let parts = requirement-one a b (more_text (next ∷ xs) ++ codes "}") (codes "}") here.0 there.0 same in
    absurd (texts-apart 0 32 125 _ (codes "}") (sym (behind next xs) ∙ parts.1) refl refl refl)
list-one a b (next ∷ xs) (next' ∷ ys) well well' same =
    let here = and_parts (is_well a) (are_well (next ∷ xs)) well in
    let there = and_parts (is_well b) (are_well (next' ∷ ys)) well' in
    let parts = requirement-one a b (more_text (next ∷ xs) ++ codes "}") (more_text (next' ∷ ys) ++ codes "}") here.0 there.0 same in
    let both : codes " and " ++ (requirement_text next ++ (more_text xs ++ codes "}")) ≡ codes " and " ++ (requirement_text next' ++ (more_text ys ++ codes "}")) = sym (behind next xs) ∙ parts.1
    ∙ behind next' ys in
    let rest = list-one next next' xs ys here.1 there.1 (ap (λ (text : List ℕ). drop 5 text) both) in
    rw (parts.0, rest) refl

some-text : (first : SidedRequirement) (others : List SidedRequirement) → peer_text (first ∷ others) ≡ codes "{" ++ (requirement_text first ++ (more_text others ++ codes "}"))
unfolding peer_text
some-text first others =
    append_assoc (codes "{") (requirement_text first ++ more_text others) (codes "}") ∙ ap (λ (rest : List ℕ). codes "{" ++ rest) (append_assoc (requirement_text first) (more_text others) (codes "}"))

-- no requirement begins as `any pod` does
any-apart : (first : SidedRequirement) (others : List SidedRequirement) → codes "{any pod}" ≡ codes "{" ++ (requirement_text first ++ (more_text others ++ codes "}")) → ⊥
any-apart first others same = by first.side (same ∙ ap (λ (rest : List ℕ). codes "{" ++ rest) (spelled first (more_text others ++ codes "}")))
  where
    by : (side : Side) →
        codes "{any pod}" ≡ codes "{" ++ (named_side_text side ++ 32 ∷ (first.requirement.key ++ 32 ∷ (asked_text first.requirement.op first.requirement.values ++ (more_text others ++ codes "}")))) → ⊥
    by Namespace is = texts-apart 1 97 110 (codes "{any pod}") _ is refl refl refl
    by Pod is = texts-apart 1 97 112 (codes "{any pod}") _ is refl refl refl

-- a text belongs to one list of requirements
pub peer_text-one : (a b : List SidedRequirement) → are_well a ≡ true → are_well b ≡ true → peer_text a ≡ peer_text b → a ≡ b
unfolding peer_text
peer_text-one [] [] well well' same = refl
peer_text-one [] (b ∷ ys) well well' same = absurd (any-apart b ys (same ∙ some-text b ys))
peer_text-one (a ∷ xs) [] well well' same = absurd (any-apart a xs (sym same ∙ some-text a xs))
peer_text-one (a ∷ xs) (b ∷ ys) well well' same =
    let both : codes "{" ++ (requirement_text a ++ (more_text xs ++ codes "}")) ≡ codes "{" ++ (requirement_text b ++ (more_text ys ++ codes "}")) = sym (some-text a xs) ∙ same ∙ some-text b ys in
    list-one a b xs ys well well' (ap (λ (text : List ℕ). drop 1 text) both)
