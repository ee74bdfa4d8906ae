-- When no rule can tell two pods apart.
use Rattle.std.specs.Prelude.{◌≡◌, ℕ, List, Bool, true, ◌&&◌, ◌==◌, All}
use Rattle.std.specs.Cmp.Lexicographic.{pointwise}
use Rattle.std.specs.List.{list_all, list_any}
use Rattle.std.specs.Option.{option_eq}
use Rattle.std.specs.Str.{bytes_eq}
use Rattle.np_conns.specs.Prelude.{proto_number}
use Rattle.np_addr.specs.Prelude.{cidr_has}
use Rattle.np_fold.specs.Types.{Address, Cidr, EstateLists, NamedPort, Owner, Pod}
use Rattle.np_fold.specs.Blocks.{cidrs_of_estate}
use Rattle.np_fold.specs.Keys.{keys_of_estate}
use Rattle.np_labels.specs.Prelude.{is_listed, value_of}
use mathlib.Core.Bool.{beq}

-- whether some of the addresses is in the block
abbrev pub is_in : List Address → Cidr → Bool
is_in addresses cidr = list_any (cidr_has cidr) addresses

-- Two pods have the same namespace, the same values of the keys that selectors name, the same named ports, and
-- addresses in the same blocks.
pub record IsSameKind (lists : EstateLists) (a b : Pod) : Type 0 where
  pub namespace : a.namespace ≡ b.namespace
  pub labels : (key : List ℕ) → is_listed (keys_of_estate lists) key ≡ true → value_of a.labels key ≡ value_of b.labels key
  pub ports : a.ports ≡ b.ports
  pub blocks : All (λ cidr. is_in a.addresses cidr ≡ is_in b.addresses cidr) (cidrs_of_estate lists)

-- and they have the same top owner
pub record Alike (lists : EstateLists) (a b : Pod) : Type 0 where
  pub kind : IsSameKind lists a b
  pub owner : a.owner ≡ b.owner

-- ---- the same as questions

abbrev pub are_same_owner : Owner → Owner → Bool
are_same_owner a b = bytes_eq a.kind b.kind && bytes_eq a.name b.name

abbrev pub are_same_port : NamedPort → NamedPort → Bool
are_same_port a b = bytes_eq a.name b.name && proto_number a.proto == proto_number b.proto && a.number == b.number

-- whether two pods have the same value of a key, or neither has the key
abbrev pub have_same_value : Pod → Pod → List ℕ → Bool
have_same_value a b key = option_eq bytes_eq (value_of a.labels key) (value_of b.labels key)

-- whether both or neither of two pods have an address in a block
abbrev pub are_both_in : Pod → Pod → Cidr → Bool
are_both_in a b cidr = beq (is_in a.addresses cidr) (is_in b.addresses cidr)

-- Whether two pods are of one kind: they are of one namespace, have the same value of each label key that a selector of
-- any policy or Service names, the same named ports in the same order, and addresses in the same blocks of `networks`
-- peers. No rule of a lawful estate can tell such pods apart; two that no rule tells apart may still be of two kinds.
unfoldable pub are_same_kind : EstateLists → Pod → Pod → Bool
are_same_kind lists a b = bytes_eq a.namespace b.namespace && list_all (have_same_value a b) (keys_of_estate lists)
    && pointwise are_same_port a.ports b.ports && list_all (are_both_in a b) (cidrs_of_estate lists)

-- whether two pods are alike: of one kind, and with top owners of one kind and one name
unfoldable pub are_alike : EstateLists → Pod → Pod → Bool
are_alike lists a b = are_same_kind lists a b && are_same_owner a.owner b.owner
