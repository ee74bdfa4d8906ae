-- Looking a block up among numbers that ascend. For `Addresses::some_in` and `some_covered`.
use Rattle.std.proofs.Common.{◌≡◌, ℕ, suc, ◌+◌, ◌-◌, ◌^◌, ◌<◌, ◌≤◌, List, [], ◌∷◌, Bool, true, false, ◌||◌, length, get_or, nat_le, nat_lt, refl, sym, ap, subst, ◌∙◌, arith}
use Rattle.std.specs.List.{filter_map, list_any}
use Rattle.std.specs.List.Sorted.{IsNonDecreasing, IsPartitionPoint}
use Rattle.std.proofs.lemmas.Bool.{false≢true, le-leb, le-ltb, lt-leb, ltb-false, ltb-true, and_right}
use Rattle.std.proofs.lemmas.List.Folds.{list_any_at}
use Rattle.np_addr.specs.Prelude.{Address, cidr_has, is_covered, number_in}
use Rattle.np_addr.specs.declared.address.Address.TheVariants as address
use Rattle.np_addr.specs.declared.address.Family.TheVariants as family
use Rattle.np_addr.specs.declared.cidr.Cidr.TheVariants as cidr

-- ---- what a block has among the addresses of a list it has among their numbers

pub any-four : (base len : ℕ) (listed : List Address) → list_any (is_covered base (32 - len)) (filter_map (number_in family.Four) listed) ≡ list_any (cidr_has (cidr.Four base len)) listed
any-four base len [] = refl
any-four base len (address.Four n ∷ rest) = ap (λ b. cidr_has (cidr.Four base len) (address.Four n) || b) (any-four base len rest)
any-four base len (address.Six n ∷ rest) = any-four base len rest

pub any-six : (base len : ℕ) (listed : List Address) → list_any (is_covered base (128 - len)) (filter_map (number_in family.Six) listed) ≡ list_any (cidr_has (cidr.Six base len)) listed
any-six base len [] = refl
any-six base len (address.Four n ∷ rest) = any-six base len rest
any-six base len (address.Six n ∷ rest) = ap (λ b. cidr_has (cidr.Six base len) (address.Six n) || b) (any-six base len rest)

-- ---- the first number that is not below the base tells whether some are in the block

none-any : {X : Type 0} (p : X → Bool) (xs : List X) → ((k : ℕ) (d : X) → k < length xs → p (get_or xs k d) ≡ false) → list_any p xs ≡ false
none-any p [] none = refl
none-any p (x ∷ xs) none = rw (none 0 x (omega arith)) (none-any p xs (λ k d within. none (suc k) d (omega arith)))

-- a number below the base is not of the block, and one as high as one that is beyond it is beyond it too
low : (base free n : ℕ) → nat_lt n base ≡ true → is_covered base free n ≡ false
low base free n is = rw (lt-leb base n (ltb-true n base is)) refl

beyond : (base free n m : ℕ) → nat_lt n base ≡ false → is_covered base free n ≡ false → n ≤ m → is_covered base free m ≡ false
beyond base free n m reached past order = go (nat_lt n (base + 2 ^ free)) refl
  where
    go : (b : Bool) → nat_lt n (base + 2 ^ free) ≡ b → is_covered base free m ≡ false
    go true is = absurd (false≢true (sym past ∙ rw (le-leb base n (ltb-false n base reached), is) refl))
    go false is =
        let least = ltb-false n (base + 2 ^ free) is in
        let out = le-ltb m (base + 2 ^ free) (omega (arith, least, order)) in
        and_right (nat_le base m) (nat_lt m (base + 2 ^ free)) out

module _ (base free : ℕ) (numbers : List ℕ) (rise : IsNonDecreasing numbers) (place : ℕ) (parted : IsPartitionPoint (λ n. nat_lt n base ≡ true) (λ n. nat_lt n base ≡ false) numbers place) where
  pub none-covered : length numbers ≤ place → list_any (is_covered base free) numbers ≡ false
  none-covered end = none-any (is_covered base free) numbers (λ k d within. low base free (get_or numbers k d) (parted.0 k d (omega arith) (omega (arith, end, within))))

  pub first-tells : (n : ℕ) → place < length numbers → ((d : ℕ) → get_or numbers place d ≡ n) → is_covered base free n ≡ list_any (is_covered base free) numbers
  first-tells n within here = by (is_covered base free n) refl
    where
      reached : nat_lt n base ≡ false
      reached = ap (λ m. nat_lt m base) (sym (here 0)) ∙ parted.1 place 0 (omega arith) within

      other : is_covered base free n ≡ false → (k d : ℕ) → k < length numbers → is_covered base free (get_or numbers k d) ≡ false
      other past k d inside = split (nat_lt k place) refl
        where
          split : (b : Bool) → nat_lt k place ≡ b → is_covered base free (get_or numbers k d) ≡ false
          split true is = low base free (get_or numbers k d) (parted.0 k d (omega arith) (ltb-true k place is))
          split false is =
              let order = rise place k d (ltb-false k place is) inside in
              beyond base free n (get_or numbers k d) reached past (subst (λ m. m ≤ get_or numbers k d) (here d) order)

      by : (b : Bool) → is_covered base free n ≡ b → is_covered base free n ≡ list_any (is_covered base free) numbers
      by true is = is ∙ sym (list_any_at (is_covered base free) numbers place 0 within (ap (is_covered base free) (here 0) ∙ is))
      by false past = past ∙ sym (none-any (is_covered base free) numbers (other past))
