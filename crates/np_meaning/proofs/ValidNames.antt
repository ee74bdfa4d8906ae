-- Names, labels and metadata of valid objects are read. For ValidAdminReads, ValidControllerReads and 6 more.
use Rattle.std.proofs.Common.{◌≡◌, ◌≤◌, ◌∙◌, length-append, ℕ, ◌==◌, List, [], ◌∷◌, ◌++◌, length, map, not, Bool, true, false, Some, codes, Ok, refl, sym, ap, subst, inl, inr, arith}
use Rattle.std.proofs.lemmas.Bool.{and_from, and_parts, ne_eqb}
use Rattle.std.proofs.lemmas.Bool.Decides.{nat_tests}
use Rattle.std.specs.List.{list_all}
use Rattle.serde_json.specs.Data.{Data, Members, no_members, member}
use Rattle.np_json.specs.Prelude.{labels, name, pairs_of_members, refuse_if, required, text, type_meta, under, word}
use Rattle.np_labels.specs.Prelude.{labels_of, pair_of}
use Rattle.np_model.specs.Prelude.{has_slash, is_label, is_name, is_whole_word, is_word, is_word_byte}
use Rattle.np_objects.specs.Prelude.{label_map}
use Rattle.np_meaning.proofs.ValidReads.{Reads, object-reads}
use Rattle.np_meaning.specs.ValidMembers.{AreEntries, Has, IsDnsLabel, IsLabel, IsLabelKey, IsLabelValue, IsMapOf, IsSegment, IsSubdomain, IsText, IsThe, IsTyped, is_label_byte, is_segment_byte, is_subdomain_byte}

-- ---- bytes

-- what passes one test passes another
pub all-weaker : (test more : ℕ → Bool) → ((byte : ℕ) → test byte ≡ true → more byte ≡ true) → (text : List ℕ) → list_all test text ≡ true → list_all more text ≡ true
all-weaker test more so [] all = refl
all-weaker test more so (byte ∷ text) all =
    let parts = and_parts (test byte) (list_all test text) all in
    and_from (more byte) (list_all more text) (so byte parts.0) (all-weaker test more so text parts.1)

-- what passes no byte that is a slash has none
none-slash : (test : ℕ → Bool) → ((byte : ℕ) → test byte ≡ true → (byte == 47) ≡ false) → (text : List ℕ) → list_all test text ≡ true → has_slash text ≡ false
none-slash test other [] all = refl
none-slash test other (byte ∷ text) all =
    let parts = and_parts (test byte) (list_all test text) all in
    rw (other byte parts.0) (none-slash test other text parts.1)

subdomain-word : (byte : ℕ) → is_subdomain_byte byte ≡ true → is_word_byte byte ≡ true
subdomain-word byte is = grind (arith, nat_tests, is)

subdomain-no_slash : (byte : ℕ) → is_subdomain_byte byte ≡ true → (byte == 47) ≡ false
subdomain-no_slash byte is = grind (arith, nat_tests, is)

label-word : (byte : ℕ) → is_label_byte byte ≡ true → is_word_byte byte ≡ true
label-word byte is = grind (arith, nat_tests, is)

label-no_slash : (byte : ℕ) → is_label_byte byte ≡ true → (byte == 47) ≡ false
label-no_slash byte is = grind (arith, nat_tests, is)

segment-word : (byte : ℕ) → is_segment_byte byte ≡ true → is_word_byte byte ≡ true
segment-word byte is = grind (arith, nat_tests, is)

pub not_empty : (text : List ℕ) → 1 ≤ length text → (length text == 0) ≡ false
not_empty text some = ne_eqb (length text) 0 (λ none. omega (arith, some, none))

pub label-word-all : (text : List ℕ) → list_all is_label_byte text ≡ true → is_word text ≡ true
label-word-all text all = all-weaker is_label_byte is_word_byte label-word text all

-- ---- names

pub name-of-bytes : (test : ℕ → Bool) → ((byte : ℕ) → test byte ≡ true → is_word_byte byte ≡ true) → ((byte : ℕ) → test byte ≡ true → (byte == 47) ≡ false)
    → (text : List ℕ) → 1 ≤ length text → list_all test text ≡ true → is_name text ≡ true
name-of-bytes test word other text some all = rw (not_empty text some, all-weaker test is_word_byte word text all, none-slash test other text all) refl

pub subdomain-name : (text : List ℕ) → IsSubdomain text → is_name text ≡ true
subdomain-name text is = name-of-bytes is_subdomain_byte subdomain-word subdomain-no_slash text is.some is.bytes

pub label-name : (text : List ℕ) → IsDnsLabel text → is_name text ≡ true
label-name text is = name-of-bytes is_label_byte label-word label-no_slash text is.some is.bytes

pub name-reads : (IsName : List ℕ → Type 0) → ((text : List ℕ) → IsName text → is_name text ≡ true) → (value : Data) → IsText IsName value → Reads (name value)
unfolding name refuse_if
name-reads IsName so value is = (is.0, rw (is.1, so is.0 is.2) refl)

-- ---- labels

segment-is_word : (text : List ℕ) → IsSegment text → is_word text ≡ true
segment-is_word text is = all-weaker is_segment_byte is_word_byte segment-word text is.bytes

word-append : (before after : List ℕ) → is_word before ≡ true → is_word after ≡ true → is_word (before ++ after) ≡ true
word-append [] after first second = second
word-append (byte ∷ before) after first second =
    let parts = and_parts (is_word_byte byte) (is_word before) first in
    and_from (is_word_byte byte) (is_word (before ++ after)) parts.0 (word-append before after parts.1 second)

-- a text that is not empty, of word bytes
whole : (text : List ℕ) → 1 ≤ length text → is_word text ≡ true → is_whole_word text ≡ true
whole text some is = and_from (not (length text == 0)) (is_word text) (ap not (not_empty text some)) is

pub key-word : (text : List ℕ) → IsLabelKey text → is_whole_word text ≡ true
key-word text (inl is) = whole text is.some (segment-is_word text is)
key-word text (inr is) =
    let front : List ℕ = is.before ++ codes "/" in
    let word = word-append front is.after (word-append is.before (codes "/") (all-weaker is_subdomain_byte is_word_byte subdomain-word is.before is.prefix.bytes) refl) (segment-is_word is.after is.name) in
    let longer : 1 ≤ length (front ++ is.after) = subst (λ (n : ℕ). 1 ≤ n) (sym (length-append front is.after)) (omega (arith, is.name.some)) in
    ap is_whole_word is.spelled ∙ whole (front ++ is.after) longer word

pub value-word : (text : List ℕ) → IsLabelValue text → is_word text ≡ true
value-word text (inl none) = rw none refl
value-word text (inr is) = segment-is_word text is

-- the pairs of a map of labels, each of which may be a label
pairs-valid : (members : Members) → AreEntries IsLabel members → (pairs : List (List ℕ × List ℕ)) × (pairs_of_members members ≡ Some pairs) × (list_all is_label pairs ≡ true)
pairs-valid no_members all = ([], refl, refl)
pairs-valid (member key value members) all =
    let others = pairs-valid members all.1 in
    let text = all.0.1 in (
      (key, text.0) ∷ others.0,
      rw (text.1, others.1) refl,
      and_from (is_label (key, text.0)) (list_all is_label others.0) (rw (key-word key all.0.0, value-word text.0 text.2) refl) others.2,
    )

pub labels-reads : (value : Data) → IsMapOf IsLabel value → Reads (labels value)
unfolding labels refuse_if
labels-reads value is = let pairs = pairs-valid is.0 is.2 in (pairs.0, rw (is.1, pairs.1, pairs.2) refl)

pub label_map-reads : (value : Data) → IsMapOf IsLabel value → Reads (label_map value)
unfolding label_map
label_map-reads value is = let pairs = labels-reads value is in (labels_of (map pair_of pairs.0), rw pairs.1 refl)

-- ---- types

pub text-reads : (Is : List ℕ → Type 0) (value : Data) → IsText Is value → Reads (text value)
text-reads Is value is = (is.0, rw is.1 refl)

-- the text of a member that has to be this one
the-read : (name one : List ℕ) (value : Data) → Has name (IsText (IsThe one)) value → required name text value ≡ Ok one
unfolding required under
the-read name one value has = rw (has.1, has.2.1, has.2.2) refl

pub type-read : (version kind : List ℕ) (value : Data) → IsTyped version kind value → type_meta value ≡ Ok (record { api_version = version; kind = kind })
unfolding type_meta
type-read version kind value is = rw ((object-reads value is.object).1, the-read (codes "apiVersion") version value is.version, the-read (codes "kind") kind value is.kind) refl
