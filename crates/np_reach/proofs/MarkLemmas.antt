-- What a pod's row says of each far end. For `Reach::of`, `SpokenSides::push_rows` and 3 more.
use Rattle.std.proofs.Common.{◌≡◌, ℕ, zero, suc, ◌+◌, ◌<◌, List, [], ◌∷◌, ◌++◌, Bool, true, false, ◌&&◌, ◌||◌, not, map, length, take, get_or, option_and_then, slice_get, unwrap_or, Option, Some, arith, refl, sym, ap, ◌∙◌}
use Rattle.std.specs.Prelude.{All}
use Rattle.std.specs.List.{flat_map, list_any, range_with_len}
use Rattle.std.specs.Option.{option_map}
use Rattle.std.proofs.lemmas.List.{append_assoc, map-append, take_more}
use Rattle.std.proofs.lemmas.Option.{slice_get-map}
use Rattle.np_reach.specs.Prelude.{Direction, EstateLists, IsSpoken, Marks, admin_reaches, has_place, may_at, may_reach, net_reaches, reach_of, speaks_at}
use Rattle.np_rules.proofs.PlacesLemmas.{flat_map-next}
use Rattle.np_rules.specs.Prelude.{PodEnd, is_isolated, net_selects, pod, subject_selects}

-- what is made of places is what is made of the items there
pub by_place : {X Y : Type 0} (f : ℕ → Y) (g : X → Y) (xs : List X) → ((place : ℕ) (x : X) → slice_get xs place ≡ Some x → f place ≡ g x) → map f (range_with_len 0 (length xs)) ≡ map g xs
by_place f g xs same = from f g 0 xs (λ place x at. ap f (let is : 0 + place ≡ place = omega arith in is) ∙ same place x at)
  where
    from : {X Y : Type 0} (f : ℕ → Y) (g : X → Y) (n : ℕ) (xs : List X) → ((place : ℕ) (x : X) → slice_get xs place ≡ Some x → f (n + place) ≡ g x) → map f (range_with_len n (length xs)) ≡ map g xs
    from f g n [] same = refl
    from {X} {Y} f g n (x ∷ xs) same =
        ap (λ (y : Y). y ∷ map f (range_with_len (n + 1) (length xs))) (ap f (let is : n ≡ n + zero = omega arith in is) ∙ same zero x refl)
        ∙ ap (λ (ys : List Y). g x ∷ ys) (from f g (n + 1) xs (λ place y at. ap f (let is : n + 1 + place ≡ n + suc place = omega arith in is) ∙ same (suc place) y at))

-- one item more
pub item_more : {X Y : Type 0} (f : X → Y) (xs : List X) (i : ℕ) (x : X) (made new : List Y) (y : Y) → i < length xs → x ≡ get_or xs i x → new ≡ made ++ y ∷ [] → made ≡ map f (take i xs) → y ≡ f x →
    new ≡ map f (take (i + 1) xs)
item_more {X} {Y} f xs i x made new y within at pushed so_far is =
    pushed
    ∙ ap (λ (ys : List Y). ys ++ y ∷ []) so_far
    ∙ ap (λ (last : Y). map f (take i xs) ++ last ∷ []) is
    ∙ sym (ap (map f) (take_more xs i x within ∙ ap (λ (last : X). take i xs ++ last ∷ []) (sym at)) ∙ map-append f (take i xs) (x ∷ []))

-- one item more behind what was there
pub item_behind : {X Y : Type 0} (f : X → Y) (xs : List X) (i : ℕ) (x : X) (start made new : List Y) (y : Y) → i < length xs → x ≡ get_or xs i x → new ≡ made ++ y ∷ [] →
    made ≡ start ++ map f (take i xs) → y ≡ f x → new ≡ start ++ map f (take (i + 1) xs)
item_behind {X} {Y} f xs i x start made new y within at pushed so_far is =
    pushed
    ∙ ap (λ (ys : List Y). ys ++ y ∷ []) so_far
    ∙ append_assoc start (map f (take i xs)) (y ∷ [])
    ∙ ap (λ (ys : List Y). start ++ ys) (item_more f xs i x (map f (take i xs)) (map f (take i xs) ++ y ∷ []) y within at refl refl is)

-- the rows of one stretch more
pub rows_more : {S X Y : Type 0} (f : X → Y) (pods_of : S → List X) (stretches : List S) (i : ℕ) (stretch : S) (made new : List Y) → i < length stretches → stretch ≡ get_or stretches i stretch →
    new ≡ made ++ map f (pods_of stretch) → made ≡ map f (flat_map pods_of (take i stretches)) → new ≡ map f (flat_map pods_of (take (i + 1) stretches))
rows_more {S} {X} {Y} f pods_of stretches i stretch made new within at pushed so_far =
    pushed
    ∙ ap (λ (ys : List Y). ys ++ map f (pods_of stretch)) so_far
    ∙ sym (ap (map f) (flat_map-next pods_of stretches i stretch within at) ∙ map-append f (flat_map pods_of (take i stretches)) (pods_of stretch))

-- one policy more
pub policy_more : {O P : Type 0} (policy_of : O → P) (policies : List P) (i : ℕ) (policy : P) (made new : List O) (one : O) → i < length policies → policy ≡ get_or policies i policy →
    new ≡ made ++ one ∷ [] → map policy_of made ≡ take i policies → policy_of one ≡ policy → map policy_of new ≡ take (i + 1) policies
policy_more {O} {P} policy_of policies i policy made new one within at pushed so_far is =
    ap (map policy_of) pushed
    ∙ map-append policy_of made (one ∷ [])
    ∙ ap (λ (ps : List P). ps ++ policy_of one ∷ []) so_far
    ∙ ap (λ (last : P). take i policies ++ last ∷ []) (is ∙ at)
    ∙ sym (take_more policies i policy within)

-- the mark at a place is what is said of the item there
pub mark_at : {X : Type 0} (speaks : X → Bool) (xs : List X) (place : ℕ) (x : X) → slice_get xs place ≡ Some x → has_place (map speaks xs) place ≡ speaks x
mark_at speaks xs place x at = ap (λ mark. unwrap_or mark false) (slice_get-map speaks xs place ∙ ap (option_map speaks) at)

-- some policy that was picked marks the place of an item exactly where one that would be picked speaks of the item
pub marked_by : {P X O : Type 0} (policy_of : O → P) (far_of : O → List Marks) (picks : P → Bool) (speaks : P → X → Bool) (policies : List P) (xs : List X) (place : ℕ) (x : X) (made : List O) →
    map policy_of made ≡ policies → All (λ one. IsSpoken (speaks (policy_of one)) xs (far_of one)) made → slice_get xs place ≡ Some x →
    list_any (λ one. picks (policy_of one) && speaks_at (far_of one) place) made ≡ list_any (λ policy. picks policy && speaks policy x) policies
marked_by {P} {X} {O} policy_of far_of picks speaks policies xs place x made are far at = go made far ∙ ap (list_any (λ policy. picks policy && speaks policy x)) are
  where
    go : (made : List O) → All (λ one. IsSpoken (speaks (policy_of one)) xs (far_of one)) made →
        list_any (λ one. picks (policy_of one) && speaks_at (far_of one) place) made ≡ list_any (λ policy. picks policy && speaks policy x) (map policy_of made)
    go [] far = refl
    go (one ∷ made) far =
        ap (λ b. picks (policy_of one) && b || list_any (λ one. picks (policy_of one) && speaks_at (far_of one) place) made) ((far 0 one (omega arith)).say place x at)
        ∙ ap (λ b. picks (policy_of one) && speaks (policy_of one) x || b) (go made (λ i d within. far (suc i) d (omega arith)))

-- a row of a pod
pub row_right : {X C D : Type 0} (lists : EstateLists) (direction : Direction) (near : PodEnd) (end_of : X → PodEnd) (pods : List X) (isolated : Bool) (net_marks : C → List Marks)
    (admin_marks : D → List Marks) (net : List C) (admin : List D) →
    isolated ≡ is_isolated lists.net_policies direction near →
    ((place : ℕ) (x : X) → slice_get pods place ≡ Some x → list_any (λ one. speaks_at (net_marks one) place) net ≡ list_any
    (λ policy. net_selects policy near && net_reaches direction (pod (end_of x)) policy) lists.net_policies) →
    ((place : ℕ) (x : X) → slice_get pods place ≡ Some x → list_any (λ one. speaks_at (admin_marks one) place) admin ≡ list_any
    (λ policy. subject_selects policy.subject near && admin_reaches direction (pod (end_of x)) policy) lists.admin_policies) →
    map (λ place. not isolated || (list_any (λ one. speaks_at (net_marks one) place) net || list_any (λ one. speaks_at (admin_marks one) place) admin)) (range_with_len 0 (length pods)) ≡ map
    (λ far. may_reach lists direction near (pod (end_of far))) pods
unfolding may_reach
row_right lists direction near end_of pods isolated net_marks admin_marks net admin isolates by_net by_admin =
    by_place (λ place. not isolated || (list_any (λ one. speaks_at (net_marks one) place) net || list_any (λ one. speaks_at (admin_marks one) place) admin))
    (λ far. may_reach lists direction near (pod (end_of far))) pods (λ place x at.
    ap (λ (b : Bool). not b || (list_any (λ one. speaks_at (net_marks one) place) net || list_any (λ one. speaks_at (admin_marks one) place) admin)) isolates
    ∙ ap (λ (b : Bool). not (is_isolated lists.net_policies direction near) || (b || list_any (λ one. speaks_at (admin_marks one) place) admin)) (by_net place x at)
    ∙ ap (λ (b : Bool). not (is_isolated lists.net_policies direction near) || (list_any (λ policy. net_selects policy near && net_reaches direction (pod (end_of x)) policy) lists.net_policies || b))
    (by_admin place x at))

-- rows of items by what is seen of them
pub seen_rows : {X Q : Type 0} (f : Q → Q → Bool) (seen : X → Q) (all xs : List X) →
    map (λ near. map (λ far. f (seen near) (seen far)) all) xs ≡ map (λ near. map (λ far. f near far) (map seen all)) (map seen xs)
seen_rows f seen all [] = refl
seen_rows {X} {Q} f seen all (x ∷ xs) =
    ap (λ (row : List Bool). row ∷ map (λ near. map (λ far. f (seen near) (seen far)) all) xs) (seen_row (f (seen x)) all)
    ∙ ap (λ (rows : List (List Bool)). map (λ far. f (seen x) far) (map seen all) ∷ rows) (seen_rows f seen all xs)
  where
    seen_row : (g : Q → Bool) (ys : List X) → map (λ far. g (seen far)) ys ≡ map (λ far. g far) (map seen ys)
    seen_row g [] = refl
    seen_row g (y ∷ ys) = ap (λ (row : List Bool). g (seen y) ∷ row) (seen_row g ys)

-- what is known of two of the pods
pub may_at-of : (lists : EstateLists) (direction : Direction) (pods : List PodEnd) (near far : ℕ) (p q : PodEnd) → slice_get pods near ≡ Some p → slice_get pods far ≡ Some q →
    may_at (reach_of lists direction pods) near far ≡ may_reach lists direction p (pod q)
may_at-of lists direction pods near far p q near_is far_is =
    let row : PodEnd → List Bool = λ one. map (λ other. may_reach lists direction one (pod other)) pods in
    let known : Option (List Bool) → Bool = λ found. unwrap_or (option_and_then (λ marks. slice_get marks far) found) true in
    ap known (slice_get-map row pods near ∙ ap (option_map row) near_is)
    ∙ ap (λ mark. unwrap_or mark true) (slice_get-map (λ other. may_reach lists direction p (pod other)) pods far ∙ ap (option_map (λ other. may_reach lists direction p (pod other))) far_is)
