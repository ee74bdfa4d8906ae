-- Only equal traits tie in their order. For `only_equal_traits_tie` and crates above.
use Rattle.std.proofs.Common.{◌≡◌, ◌↔◌, [], ◌∷◌, arith, Ordering, Less, Equal, Greater, refl, sym}
use Rattle.std.specs.Cmp.{ranked, tied_itself}
use Rattle.std.specs.Cmp.Lexicographic.{slice_cmp}
use Rattle.std.specs.Ordering.{nat_cmp, ordering_then}
use Rattle.np_base.proofs.Orders.{second_ties}
use Rattle.np_base.specs.Texts.{compare_texts}
use Rattle.np_conns.specs.declared.proto.Proto.{Proto}
use Rattle.np_conns.specs.declared.proto.Proto.TheVariants.{Tcp, Udp, Sctp}
use Rattle.np_conns.specs.Prelude.{proto_number}
use Rattle.np_fold.specs.Prelude.{Traits, compare_labels, compare_owners, compare_ports, compare_traits, traits_total}

-- only equal values tie
abbrev TiesOnlyEqual : {K : Type 0} → (K → K → Ordering) → Type 0
TiesOnlyEqual {K} R = (x y : K) → R x y ≡ Equal → x ≡ y

pub first_ties : (first second : Ordering) → ordering_then first second ≡ Equal → first ≡ Equal
first_ties Less second ties = cc
first_ties Equal second ties = refl
first_ties Greater second ties = cc

pub numbers : TiesOnlyEqual nat_cmp
numbers x y ties = ranked x y Equal (sym ties)

lists : {K : Type 0} (R : K → K → Ordering) → TiesOnlyEqual R → TiesOnlyEqual (slice_cmp R)
lists R only [] [] ties = refl
lists R only [] (y ∷ ys) ties = cc
lists R only (x ∷ xs) [] ties = cc
lists R only (x ∷ xs) (y ∷ ys) ties = rw (only x y (first_ties (R x y) (slice_cmp R xs ys) ties), lists R only xs ys (second_ties (R x y) (slice_cmp R xs ys) ties)) refl

texts : TiesOnlyEqual compare_texts
texts = lists nat_cmp numbers

pub protos : (x y : Proto) → proto_number x ≡ proto_number y → x ≡ y
protos Tcp Tcp same = refl
protos Tcp Udp same = absurd (omega (arith, same))
protos Tcp Sctp same = absurd (omega (arith, same))
protos Udp Tcp same = absurd (omega (arith, same))
protos Udp Udp same = refl
protos Udp Sctp same = absurd (omega (arith, same))
protos Sctp Tcp same = absurd (omega (arith, same))
protos Sctp Udp same = absurd (omega (arith, same))
protos Sctp Sctp same = refl

owners : TiesOnlyEqual compare_owners
owners x y ties =
    rw (
      texts x.kind y.kind (first_ties (compare_texts x.kind y.kind) (compare_texts x.name y.name) ties),
      texts x.name y.name
          (second_ties (compare_texts x.kind y.kind) (compare_texts x.name y.name) ties),
    ) refl

labels : TiesOnlyEqual compare_labels
labels x y ties =
    rw (
      texts x.key y.key (first_ties (compare_texts x.key y.key) (compare_texts x.value y.value) ties),
      texts x.value y.value
          (second_ties (compare_texts x.key y.key) (compare_texts x.value y.value) ties),
    ) refl

ports : TiesOnlyEqual compare_ports
ports x y ties =
    let name : Ordering = compare_texts x.name y.name in
    let proto : Ordering = nat_cmp (proto_number x.proto) (proto_number y.proto) in
    let number : Ordering = nat_cmp x.number y.number in
    let before : ordering_then name proto ≡ Equal = first_ties (ordering_then name proto) number ties in
    rw (
      texts x.name y.name (first_ties name proto before),
      protos x.proto y.proto (numbers (proto_number x.proto) (proto_number y.proto) (second_ties name proto before)),
      numbers x.number y.number
          (second_ties (ordering_then name proto) number ties),
    ) refl

only_equal : TiesOnlyEqual compare_traits
only_equal x y ties =
    let one : Ordering = compare_texts x.namespace y.namespace in
    let two : Ordering = compare_owners x.owner y.owner in
    let three : Ordering = slice_cmp compare_labels x.labels y.labels in
    let four : Ordering = slice_cmp compare_ports x.ports y.ports in
    let five : Ordering = slice_cmp nat_cmp x.blocks y.blocks in
    let to_four : ordering_then (ordering_then (ordering_then one two) three) four ≡ Equal = first_ties (ordering_then (ordering_then (ordering_then one two) three) four) five ties in
    let to_three : ordering_then (ordering_then one two) three ≡ Equal = first_ties (ordering_then (ordering_then one two) three) four to_four in
    let to_two : ordering_then one two ≡ Equal = first_ties (ordering_then one two) three to_three in
    rw (
      texts x.namespace y.namespace (first_ties one two to_two),
      owners x.owner y.owner (second_ties one two to_two),
      lists compare_labels labels x.labels y.labels (second_ties (ordering_then one two) three to_three),
      lists compare_ports ports x.ports y.ports (second_ties (ordering_then (ordering_then one two) three) four to_four),
      lists nat_cmp numbers x.blocks y.blocks (second_ties (ordering_then (ordering_then (ordering_then one two) three) four) five ties),
    ) refl

pub ties-equal : (x y : Traits) → (compare_traits x y ≡ Equal) ↔ (x ≡ y)
ties-equal x y = (only_equal x y, λ same. rw same (tied_itself traits_total y))
