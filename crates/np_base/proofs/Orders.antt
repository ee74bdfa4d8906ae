-- Orders: of texts, and one after another. For crates above.
use Rattle.std.proofs.Common.{◌≡◌, ℕ, false, List, Less, sym, ap, ◌∙◌, Ordering, Equal, Greater}
use Rattle.std.specs.Cmp.Lexicographic.{nat_list_cmp_total, slice_cmp}
use Rattle.std.specs.Ordering.{nat_cmp, is_eq, ordering_reverse, ordering_then}
use Rattle.std.proofs.lemmas.Map.Text.{is_eq-slice_cmp}
use Rattle.std.specs.Str.{bytes_eq}

-- no text comes before itself
pub not-before : (text : List ℕ) → slice_cmp nat_cmp text text ≡ Less → ⊥
not-before text less =
    let turned : slice_cmp nat_cmp text text ≡ ordering_reverse (slice_cmp nat_cmp text text) = nat_list_cmp_total.antisymm text text in
    let never = sym less ∙ turned ∙ ap ordering_reverse less in
    absurd cc

-- of orders one after another that tie, the second ties
pub second_ties : (first second : Ordering) → ordering_then first second ≡ Equal → second ≡ Equal
second_ties Less second ties = cc
second_ties Equal second ties = ties
second_ties Greater second ties = cc

-- texts that compare otherwise are two
pub texts-differ : (one other : List ℕ) (o : Ordering) → slice_cmp nat_cmp one other ≡ o → is_eq o ≡ false → bytes_eq one other ≡ false
texts-differ one other o is apart = sym (is_eq-slice_cmp one other) ∙ ap is_eq is ∙ apart
