-- A line is read as the statement whose text it is. For `lines_are_read_by_the_grammar` and crates above.
use Rattle.std.proofs.Common.{◌≡◌, ℕ, List, [], ◌∷◌, ◌++◌, ◌&&◌, not, Bool, true, false, All, Option, Some, None, codes, option_map, refl, sym, ap, subst, ◌∙◌, append_assoc, if◌then◌else◌}
use Rattle.std.specs.Option.{option_and_then}
use Rattle.std.specs.Str.{bytes_eq}
use Rattle.std.proofs.lemmas.Bool.{and_from, and_parts, not-true, not_from_false}
use Rattle.std.proofs.lemmas.List.Elements.{All-from_recursion, recursion_from_All}
use Rattle.std.proofs.lemmas.Option.{none-some, same_Some}
use Rattle.std.proofs.lemmas.Slice.Eq.{bytes_eq-Decides}
use Rattle.np_addr.specs.Prelude.{cidr_of}
use Rattle.np_check.proofs.FirstLemmas.{first_of-from, none_both, none_each}
use Rattle.np_statements.proofs.OneStatement.{one_form, one_statement}
use Rattle.np_check.specs.Prelude.{first_given}
use Rattle.np_statements.specs.Prelude.{Addresses, Allow, Block, Deny, EndForm, IsEndText, IsSpelled, IsStatementText, IsWorkText, Namespace, Pods, StatementText, Wanted, Work, all_addresses, all_pods_form, behind, block_form, conns_read, end_read, first_cut, has_mark, is_address_form, is_work_text, namespace_form, said, said_between, statement_read, wanted_text, workload_form}
use Rattle.np_model.specs.Prelude.{has_slash, is_name}
use Rattle.np_statements.proofs.ConnsLemmas.{conns_read-is, conns_read-text}
use Rattle.np_statements.proofs.CutLemmas.{behind-append, behind-is, by-lacks, first_cut-none, first_cut-some, if_some, lacks-by, then_some}

-- ---- what a test admits

when : {Y : Type 0} (test : Bool) (y : Y) → test ≡ true → (if test then Some y else None) ≡ Some y
when test y passes = rw passes refl

-- ---- names of workloads

work_text-is : (name : List ℕ) → is_work_text name ≡ true → IsWorkText name
unfolding is_work_text
work_text-is name is =
    let parts = and_parts (has_slash name && not (has_mark (codes " => ") name)) (not (has_mark (codes " : ") name)) is in
    let first = and_parts (has_slash name) (not (has_mark (codes " => ") name)) parts.0 in
    record {
      slash = first.0;
      no_arrow = lacks-by (codes " => ") name (not-true (has_mark (codes " => ") name) first.1);
      no_colon = lacks-by (codes " : ") name (not-true (has_mark (codes " : ") name) parts.1);
    }

is-work_text : (name : List ℕ) → IsWorkText name → is_work_text name ≡ true
unfolding is_work_text
is-work_text name is =
    and_from (has_slash name && not (has_mark (codes " => ") name)) (not (has_mark (codes " : ") name))
    (and_from (has_slash name) (not (has_mark (codes " => ") name)) is.slash (not_from_false (has_mark (codes " => ") name) (by-lacks (codes " => ") name is.no_arrow)))
    (not_from_false (has_mark (codes " : ") name) (by-lacks (codes " : ") name is.no_colon))

-- ---- ends

-- what a reader of a form gives is a form of that text
abbrev IsReader : (List ℕ → Option EndForm) → Type 0
IsReader read = (text : List ℕ) (form : EndForm) → read text ≡ Some form → IsEndText text form

-- a text that is one of these words
word-reads : (text word : List ℕ) (form other : EndForm) → IsEndText word form → (if bytes_eq text word then Some form else None) ≡ Some other → IsEndText text other
word-reads text word form other of is =
    let parts = if_some (bytes_eq text word) (Some form) other is in
    let same : text ≡ word = (bytes_eq-Decides text word).0 parts.0 in
    subst (IsEndText text) (same_Some form other parts.1) (subst (λ (t : List ℕ). IsEndText t form) (sym same) of)

namespace-reads : IsReader namespace_form
namespace-reads text form is =
    let (name, stands, made) = then_some (λ name. if is_name name then Some (Namespace name) else None) (behind (codes "namespace ") text) form is in
    let parts = if_some (is_name name) (Some (Namespace name)) form made in
    subst (IsEndText text) (same_Some (Namespace name) form parts.1) (behind-is (codes "namespace ") text name stands, parts.0)

workload-reads : IsReader workload_form
workload-reads text form is =
    let (name, stands, made) = then_some (λ name. if is_work_text name then Some (Work name) else None) (behind (codes "workload ") text) form is in
    let parts = if_some (is_work_text name) (Some (Work name)) form made in
    subst (IsEndText text) (same_Some (Work name) form parts.1) (behind-is (codes "workload ") text name stands, work_text-is name parts.0)

block-reads : IsReader block_form
block-reads text form is = of (cidr_of text) refl is
  where
    of : (found : Option _) → cidr_of text ≡ found → option_map Block found ≡ Some form → IsEndText text form
    of None none is = absurd (none-some form is)
    of (Some cidr) found is = subst (IsEndText text) (same_Some (Block cidr) form is) found

readers : List (List ℕ → Option EndForm)
readers = all_pods_form ∷ all_addresses ∷ namespace_form ∷ workload_form ∷ block_form ∷ []

all-read : All IsReader readers
unfolding readers
all-read = All-from_recursion IsReader readers (
  λ text form. word-reads text (codes "any pod") Pods form refl,
  (λ text form. word-reads text (codes "any address") Addresses form refl, (namespace-reads, (workload-reads, (block-reads, tt)))),
)

-- what is read is a form of that text
end_read-is : (text : List ℕ) (form : EndForm) → end_read text ≡ Some form → IsEndText text form
unfolding end_read readers
end_read-is text form is =
    let (read, reads, given) = first_of-from IsReader (λ one. one text) readers form all-read is in
    reads text form given

-- where nothing is read, no reader gives a form
none-read : (text : List ℕ) (form : EndForm) → end_read text ≡ None → IsEndText text form → ⊥
unfolding end_read readers
none-read text form none is =
    let each = recursion_from_All (λ one. one text ≡ None) readers (none_each (λ one. one text) readers none) in
    some form each is
  where
    by_word : (word : List ℕ) (one : EndForm) → (if bytes_eq text word then Some one else None) ≡ None → text ≡ word → ⊥
    by_word word one none same = none-some one (sym none ∙ when (bytes_eq text word) one ((bytes_eq-Decides text word).1 same))

    some : (one : EndForm) → (all_pods_form text ≡ None) × ((all_addresses text ≡ None) × ((namespace_form text ≡ None) × ((workload_form text ≡ None) × ((block_form text ≡ None) × Unit {0})))) → IsEndText text one → ⊥
    some Pods each same = by_word (codes "any pod") Pods each.0 same
    some Addresses each same = by_word (codes "any address") Addresses each.1.0 same
    some (Namespace name) each (spelled, named) =
        none-some (Namespace name) (sym each.1.1.0 ∙ ap namespace_form spelled ∙ ap (option_and_then (λ n. if is_name n then Some (Namespace n) else None)) (behind-append (codes "namespace ") name) ∙ when
        (is_name name) (Namespace name) named)
    some (Work name) each (spelled, named) =
        none-some (Work name) (sym each.1.1.1.0 ∙ ap workload_form spelled ∙ ap (option_and_then (λ n. if is_work_text n then Some (Work n) else None)) (behind-append (codes "workload ") name) ∙ when
        (is_work_text name) (Work name) (is-work_text name named))
    some (Block cidr) each reads = none-some (Block cidr) (sym each.1.1.1.1.0 ∙ ap (option_map Block) reads)

-- a text of a form is read as that form
end_read-text : (text : List ℕ) (form : EndForm) → IsEndText text form → end_read text ≡ Some form
end_read-text text form is = of (end_read text) refl
  where
    of : (found : Option EndForm) → end_read text ≡ found → found ≡ Some form
    of None none = absurd (none-read text form none is)
    of (Some other) reads = ap Some (one_form text other form (end_read-is text other reads) is)

-- ---- lines

-- what is said between two sides
said_between-is : (wanted : Wanted) (source destination conns : List ℕ) (statement : StatementText) → said_between wanted source destination conns ≡ Some statement → (line : List ℕ) →
    IsSpelled line wanted source destination conns → IsStatementText line statement
unfolding said_between
said_between-is wanted source destination conns statement is line spelled =
    let (from, from_is, next) = then_some _ (end_read source) statement is in
    let (to, to_is, rest) = then_some _ (end_read destination) statement next in
    let (set, set_is, made) = then_some _ (conns_read conns) statement rest in
    let (apart, same) = kept (is_address_form from && is_address_form to) (record { wanted = wanted; source = from; destination = to; conns = set }) made in
    let read = conns_read-is conns set set_is in
    subst (IsStatementText line) same (record {
      source = source;
      destination = destination;
      conns = conns;
      spelled = spelled;
      source_text = end_read-is source from from_is;
      destination_text = end_read-is destination to to_is;
      one_side = apart;
      conns_text = read.1;
      well = read.0;
    })
  where
    kept : (both : Bool) (one : StatementText) → (if both then None else Some one) ≡ Some statement → (both ≡ false) × (one ≡ statement)
    kept true one made = absurd (none-some statement made)
    kept false one made = (refl, same_Some one statement made)

said_between-text : (statement : StatementText) (line : List ℕ) (is : IsStatementText line statement) → said_between statement.wanted is.source is.destination is.conns ≡ Some statement
unfolding said_between
said_between-text statement line is =
    rw (
      end_read-text is.source statement.source is.source_text,
      end_read-text is.destination statement.destination is.destination_text,
      ap conns_read is.conns_text
          ∙ conns_read-text statement.conns is.well,
      is.one_side,
    ) refl

-- what is said behind `allow ` or `deny `
said-is : (wanted : Wanted) (line sides : List ℕ) (statement : StatementText) → line ≡ wanted_text wanted ++ (codes " " ++ sides) → said wanted sides ≡ Some statement → IsStatementText line statement
unfolding said
said-is wanted line sides statement begins is =
    let first = first_cut-some (codes " => ") (λ source. first_cut (codes " : ") (said_between wanted source)) sides statement is in
    let second = first_cut-some (codes " : ") (said_between wanted first.before) first.after statement first.made in
    said_between-is wanted first.before second.before second.after statement second.made line
    (begins ∙ ap (λ (rest : List ℕ). wanted_text wanted ++ (codes " " ++ rest)) (first.spelled ∙ ap (λ (rest : List ℕ). first.before ++ (codes " => " ++ rest)) second.spelled))

-- what is read is the statement of the line
pub read-is : (line : List ℕ) (statement : StatementText) → statement_read line ≡ Some statement → IsStatementText line statement
unfolding statement_read
read-is line statement is =
    let (wanted, _, given) = first_of-from (λ (wanted : Wanted). Unit {0}) (λ wanted. option_and_then (said wanted) (behind (wanted_text wanted ++ codes " ") line)) (Allow ∷ Deny ∷ []) statement
    (All-from_recursion (λ (wanted : Wanted). Unit {0}) (Allow ∷ Deny ∷ []) (tt, (tt, tt))) is in
    let (sides, stands, made) = then_some (said wanted) (behind (wanted_text wanted ++ codes " ") line) statement given in
    said-is wanted line sides statement (behind-is (wanted_text wanted ++ codes " ") line sides stands ∙ append_assoc (wanted_text wanted) (codes " ") sides) made

-- where nothing is read, the line is that of no statement
pub none-is : (line : List ℕ) (statement : StatementText) → statement_read line ≡ None → IsStatementText line statement → ⊥
unfolding statement_read said
none-is line statement none is =
    let behind_source = is.destination ++ (codes " : " ++ is.conns) in
    let sides = is.source ++ (codes " => " ++ behind_source) in
    let begins : line ≡ (wanted_text statement.wanted ++ codes " ") ++ sides = is.spelled ∙ sym (append_assoc (wanted_text statement.wanted) (codes " ") sides) in
    let each = none_both (gives Allow) (first_given gives (Deny ∷ [])) none in
    let nothing : said statement.wanted sides ≡ None = sym (ap (option_and_then (said statement.wanted))
    (ap (behind (wanted_text statement.wanted ++ codes " ")) begins ∙ behind-append (wanted_text statement.wanted ++ codes " ") sides)) ∙ of statement.wanted each.0
    (none_both (gives Deny) None each.1).0 in
    let after_source = first_cut-none (codes " => ") (λ source. first_cut (codes " : ") (said_between statement.wanted source)) is.source behind_source nothing in
    none-some statement (sym (first_cut-none (codes " : ") (said_between statement.wanted is.source) is.destination is.conns after_source) ∙ said_between-text statement line is)
  where
    gives : Wanted → Option StatementText
    gives wanted = option_and_then (said wanted) (behind (wanted_text wanted ++ codes " ") line)

    of : (wanted : Wanted) → gives Allow ≡ None → gives Deny ≡ None → gives wanted ≡ None
    of Allow allow deny = allow
    of Deny allow deny = deny

-- so the function reads what the relation relates
pub read-text : (line : List ℕ) (statement : StatementText) → IsStatementText line statement → statement_read line ≡ Some statement
read-text line statement is = of (statement_read line) refl
  where
    of : (found : Option StatementText) → statement_read line ≡ found → found ≡ Some statement
    of None none = absurd (none-is line statement none is)
    of (Some other) reads = ap Some (one_statement line other statement (read-is line other reads) is)
