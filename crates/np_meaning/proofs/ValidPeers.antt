-- Valid peers of NetworkPolicies are read. For ValidAdminReads and ValidNetworkReads.
use Rattle.std.proofs.Common.{◌≡◌, ◌∙◌, ◌⊎◌, ℕ, ◌||◌, not, List, Bool, true, false, Option, Some, None, Ok, codes, refl, sym, ap, inl, inr, if◌then◌else◌, nat_lt}
use Rattle.std.proofs.lemmas.Bool.{and_from, lt-ltb, true≢false}
use Rattle.std.proofs.lemmas.List.Elements.{All-from_recursion, All-get_or}
use Rattle.std.proofs.lemmas.List.Quantifiers.{position-Some}
use Rattle.std.specs.List.{AllByRecursion, position}
use Rattle.serde_json.specs.Data.{Data}
use Rattle.np_addr.proofs.GrammarLemmas.{cidr_text_iff}
use Rattle.np_addr.specs.Prelude.{base_of, bits_of, cidr_has, first_bad_except, is_strict_part}
use Rattle.np_json.specs.Prelude.{has_member, member_of, refuse_if}
use Rattle.np_meaning.proofs.ValidReads.{Reads, listed-reads_so, may-have, none-read, object-reads, optional-reads, there-read}
use Rattle.np_meaning.proofs.ValidSelectors.{selector-reads}
use Rattle.np_meaning.specs.Types.{Cidr}
use Rattle.np_meaning.specs.ValidMembers.{Has, IsText}
use Rattle.np_meaning.specs.ValidPolicies.{IsBlockPeer, IsCidrOf, IsExcept, IsPodsPeer, IsValidBlock, IsValidPeer, IsValidSelector}
use Rattle.np_policies.specs.Prelude.{cidr, ip_block, is_misshapen, net_peer, net_peer_by, selector}

-- ---- blocks

pub cidr-read : (block : Cidr) (value : Data) (is : IsText (IsCidrOf block) value) → cidr value ≡ Ok block
unfolding cidr
cidr-read block value is = rw (is.1, (cidr_text_iff is.0 block).1 is.2) refl

-- an except that is read is a strict part of the block
abbrev IsPart : Cidr → Cidr → Type 0
IsPart block except = is_strict_part block except ≡ true

except-reads : (block : Cidr) (value : Data) → IsText (IsExcept block) value → (output : Cidr) × (cidr value ≡ Ok output) × IsPart block output
except-reads block value is =
    let one = is.2 in (
      one.except,
      cidr-read one.except value (is.0, is.1, one.writes),
      and_from (nat_lt (bits_of block) (bits_of one.except)) (cidr_has block (base_of one.except)) (lt-ltb (bits_of block) (bits_of one.except) one.longer) one.begins,
    )

-- where all are parts, none is bad
none-bad : (block : Cidr) (excepts : List Cidr) → AllByRecursion (IsPart block) excepts → first_bad_except block excepts ≡ None
none-bad block excepts all = by (first_bad_except block excepts) refl
  where
    by : (found : Option ℕ) → position (λ except. not (is_strict_part block except)) excepts ≡ found → found ≡ None
    by None is = refl
    by (Some place) is =
        let bad = position-Some (λ except. not (is_strict_part block except)) excepts place block is in
        let good = All-get_or (IsPart block) excepts place block bad.0 (All-from_recursion (IsPart block) excepts all) in
        absurd (true≢false (sym bad.1 ∙ ap not good))

pub block-reads : (value : Data) → IsValidBlock value → Reads (ip_block value)
unfolding ip_block
block-reads value is =
    let read = cidr-read is.block is.cidr.0 is.cidr.2 in
    let excepts = listed-reads_so cidr (IsText (IsExcept is.block)) (IsPart is.block) (except-reads is.block) (codes "except") value is.excepts in (
      record { cidr = is.block; excepts = excepts.0 },
      rw ((object-reads value is.object).1, there-read cidr (codes "cidr") value is.cidr.0 is.block is.cidr.1 read, excepts.1, none-bad is.block excepts.0 excepts.2) refl,
    )

-- ---- peers

-- a peer with a selector and without a block is well shaped
shaped-pods : (value : Data) → member_of (codes "ipBlock") value ≡ None → Has (codes "podSelector") IsValidSelector value ⊎ Has (codes "namespaceSelector") IsValidSelector value
    → is_misshapen value ≡ false
shaped-pods value none (inl has) = rw (none, has.1) refl
shaped-pods value none (inr has) = by (has_member (codes "podSelector") value)
  where
    by : (b : Bool) → (if has_member (codes "ipBlock") value then b || has_member (codes "namespaceSelector") value else not (b || has_member (codes "namespaceSelector") value)) ≡ false
    by true = rw none refl
    by false = rw (none, has.1) refl

pub peer-reads : (value : Data) → IsValidPeer value → Reads (net_peer value)
unfolding net_peer refuse_if
peer-reads value is = by is.peer
  where
    by : IsBlockPeer value ⊎ IsPodsPeer value → Reads (net_peer value)
    by (inl one) =
        let read = optional-reads ip_block IsValidBlock block-reads (codes "ipBlock") value (may-have IsValidBlock (codes "ipBlock") value one.block) in
        let shaped : is_misshapen value ≡ false = rw (one.block.1, one.pods, one.namespaces) refl in (
          net_peer_by None None read.0,
          rw (
            (object-reads value is.object).1,
            shaped,
            none-read selector (codes "podSelector") value one.pods,
            none-read selector (codes "namespaceSelector") value one.namespaces,
            read.1,
          ) refl,
        )
    by (inr one) =
        let pods = optional-reads selector IsValidSelector selector-reads (codes "podSelector") value one.pods in
        let namespaces = optional-reads selector IsValidSelector selector-reads (codes "namespaceSelector") value one.namespaces in (
          net_peer_by pods.0 namespaces.0 None,
          rw (
            (object-reads value is.object).1,
            shaped-pods value one.no_block one.some,
            pods.1,
            namespaces.1,
            none-read ip_block (codes "ipBlock") value one.no_block,
          ) refl,
        )
