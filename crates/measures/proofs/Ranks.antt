-- The place of a percentile in a list in ascending order.
use Rattle.std.proofs.Common.{◌≡◌, ℕ, zero, suc, ◌+◌, ◌*◌, ◌/◌, ◌<◌, ◌≤◌, ◌^◌, Bool, true, false, cond, nat_le, List, [], ◌∷◌, length, Option, Some, None, slice_get, slice_index_or, IfSome, ◌↔◌, refl, subst, arith}
use Rattle.std.specs.Prelude.{filter}
use Rattle.std.specs.List.{Contains}
use Rattle.std.specs.List.Sorted.{IsNonDecreasing, IsSorted}
use Rattle.std.specs.Ordering.{nat_cmp}
use Rattle.std.proofs.lemmas.Bool.{le-leb, leb-true, leb-false}
use Rattle.std.proofs.lemmas.List.Sums.{length-filter}
use Rattle.std.proofs.lemmas.List.Sorted.{IsNonDecreasingBy-from_sort, IsNonDecreasingBy-drop}
use Rattle.std.proofs.lemmas.Nat.{mul-le}
use Rattle.measures.specs.Percentile.{at_most, at_rank, IsPercentile}

-- what a sort gives
pub sorted_rises : (xs : List ℕ) → IsSorted nat_cmp xs → IsNonDecreasing xs
sorted_rises xs sorted = IsNonDecreasingBy-from_sort (λ x. x) xs sorted

-- the share of a list's length fits
pub share_fits : (percent count : ℕ) → percent ≤ 100 → count < 2 ^ 64 → percent * count < 2 ^ 127
share_fits percent count few short = let most : percent * count ≤ 100 * count = mul-le percent count 100 count few (omega arith) in omega (arith, most, short)

-- a rank fits
pub rank_fits : (percent count : ℕ) → percent ≤ 100 → count < 2 ^ 64 → (percent * count + 99) / 100 < 2 ^ 64
rank_fits percent count few short = let most : percent * count ≤ 100 * count = mul-le percent count 100 count few (omega arith) in omega (arith, most, short)

tail_rises : (x : ℕ) (xs : List ℕ) → IsNonDecreasing (x ∷ xs) → IsNonDecreasing xs
tail_rises x xs up = IsNonDecreasingBy-drop (λ x. x) 1 (x ∷ xs) up

-- what stands at a place
there : (xs : List ℕ) (k v : ℕ) → slice_get xs k ≡ Some v → (k < length xs) × (slice_index_or xs k v ≡ v)
there [] k v at = absurd cc
there (x ∷ xs) zero v at = let same : x ≡ v = cc in (omega arith, same)
there (x ∷ xs) (suc k) v at = let rest = there xs k v at in (omega (arith, rest.0), rest.1)

-- the first is at most each other one
first_least : (x : ℕ) (xs : List ℕ) (k v : ℕ) → IsNonDecreasing (x ∷ xs) → slice_get (x ∷ xs) k ≡ Some v → x ≤ v
first_least x xs k v up at = by (there (x ∷ xs) k v at)
  where
    by : (k < length (x ∷ xs)) × (slice_index_or (x ∷ xs) k v ≡ v) → x ≤ v
    by h = subst (λ y. x ≤ y) h.1 (up 0 k v (omega arith) h.0)

count_from : (x v : ℕ) (rest k : ℕ) (kept : List ℕ) → x ≤ v → length kept ≡ rest → k ≤ rest → k + 1 ≤ length (cond (nat_le x v) (x ∷ kept) kept)
count_from x v rest k kept below is most = rw (le-leb x v below) (omega (arith, is, most))

-- as many as stand up to a place are at most the value there
count_up : (xs : List ℕ) (k v : ℕ) → IsNonDecreasing xs → slice_get xs k ≡ Some v → k + 1 ≤ length (filter (λ x. nat_le x v) xs)
count_up [] k v up at = absurd cc
count_up (x ∷ xs) zero v up at = count_from x v (length (filter (λ x. nat_le x v) xs)) 0 (filter (λ x. nat_le x v) xs) (first_least x xs 0 v up at) refl (omega arith)
count_up (x ∷ xs) (suc k) v up at =
    let rest = count_up xs k v (tail_rises x xs up) at in
    count_from x v (length (filter (λ x. nat_le x v) xs)) (suc k) (filter (λ x. nat_le x v) xs) (first_least x xs (suc k) v up at) refl (omega (arith, rest))

count_none : (xs : List ℕ) (w : ℕ) → ((k v : ℕ) → slice_get xs k ≡ Some v → w < v) → length (filter (λ x. nat_le x w) xs) ≡ 0
count_none [] w above = refl
count_none (x ∷ xs) w above = go (nat_le x w) refl (count_none xs w (λ k v at. above (suc k) v at))
  where
    go : (b : Bool) → nat_le x w ≡ b → length (filter (λ x. nat_le x w) xs) ≡ 0 → length (cond b (x ∷ filter (λ x. nat_le x w) xs) (filter (λ x. nat_le x w) xs)) ≡ 0
    go true is rest = let below : w < x = above 0 x refl in let most = leb-true x w is in absurd (omega (arith, most, below))
    go false is rest = rest

-- no more than stand before a place are at most a value below the one there
count_down : (xs : List ℕ) (k v w : ℕ) → IsNonDecreasing xs → slice_get xs k ≡ Some v → w < v → length (filter (λ x. nat_le x w) xs) ≤ k
count_down [] k v w up at below = absurd cc
count_down (x ∷ xs) zero v w up at below =
    let none = count_none (x ∷ xs) w (λ j u is. let least = first_least x xs j u up is in let same : x ≡ v = cc in omega (arith, least, below, same)) in omega (arith, none)
count_down (x ∷ xs) (suc k) v w up at below = go (nat_le x w) (count_down xs k v w (tail_rises x xs up) at below)
  where
    go : (b : Bool) → length (filter (λ x. nat_le x w) xs) ≤ k → length (cond b (x ∷ filter (λ x. nat_le x w) xs) (filter (λ x. nat_le x w) xs)) ≤ suc k
    go true rest = omega (arith, rest)
    go false rest = omega (arith, rest)

contained : (xs : List ℕ) (k v : ℕ) → slice_get xs k ≡ Some v → Contains xs v
contained xs k v at = let h = there xs k v at in (k, h.0, h.1)

-- the value at the place of a percentile
percentile_at : (xs : List ℕ) (percent k v : ℕ) → IsNonDecreasing xs → k + 1 ≡ (percent * length xs + 99) / 100 → slice_get xs k ≡ Some v → IsPercentile xs percent v
percentile_at xs percent k v up rank at = record {
  is_one = contained xs k v at;
  enough =
      let up_to = count_up xs k v up at in
      let same = length-filter (λ x. nat_le x v) xs in
      omega (arith, up_to, same, rank);
  least = λ other is enough. least_of other enough (nat_le v other) refl;
}
  where
    least_of : (other : ℕ) → percent * length xs ≤ 100 * at_most other xs → (b : Bool) → nat_le v other ≡ b → v ≤ other
    least_of other enough true is = leb-true v other is
    least_of other enough false is =
        let below : other < v = leb-false v other is in
        let down = count_down xs k v other up at below in
        let same = length-filter (λ x. nat_le x other) xs in
        absurd (omega (arith, down, same, rank, enough))

-- the value at the rank of a percentile
pub rank_gives : (xs : List ℕ) (percent rank : ℕ) → IsNonDecreasing xs → rank ≡ (percent * length xs + 99) / 100 → IfSome (at_rank xs rank) (IsPercentile xs percent)
rank_gives xs percent zero up is = tt
rank_gives xs percent (suc k) up is = go (slice_get xs k) refl
  where
    go : (o : Option ℕ) → slice_get xs k ≡ o → IfSome o (IsPercentile xs percent)
    go None at = tt
    go (Some v) at = let rank : k + 1 ≡ (percent * length xs + 99) / 100 = omega (arith, is) in percentile_at xs percent k v up rank at

none_behind : (xs : List ℕ) (k : ℕ) → slice_get xs k ≡ None → length xs ≤ k
none_behind [] k at = omega arith
none_behind (x ∷ xs) zero at = absurd cc
none_behind (x ∷ xs) (suc k) at = let rest = none_behind xs k at in omega (arith, rest)

no_length : (xs : List ℕ) → length xs ≡ 0 → xs ≡ []
no_length [] is = refl
no_length (x ∷ xs) is = absurd (omega (arith, is))

no_value : (xs : List ℕ) (percent rank : ℕ) → 0 < percent → percent ≤ 100 → rank ≡ (percent * length xs + 99) / 100 → at_rank xs rank ≡ None → xs ≡ []
no_value xs percent zero some whole is none =
    let least : 1 * length xs ≤ percent * length xs = mul-le 1 (length xs) percent (length xs) some (omega arith) in
    no_length xs (omega (arith, least, is))
no_value xs percent (suc k) some whole is none =
    let most : percent * length xs ≤ 100 * length xs = mul-le percent (length xs) 100 (length xs) whole (omega arith) in
    let behind = none_behind xs k none in
    absurd (omega (arith, most, behind, is))

none_of_none : (xs : List ℕ) (rank : ℕ) → xs ≡ [] → at_rank xs rank ≡ None
none_of_none [] zero is = refl
none_of_none [] (suc k) is = refl
none_of_none (x ∷ xs) rank is = absurd cc

-- there is none of no values, and one of some
pub rank_none : (xs : List ℕ) (percent rank : ℕ) → 0 < percent → percent ≤ 100 → rank ≡ (percent * length xs + 99) / 100 → (at_rank xs rank ≡ None) ↔ (xs ≡ [])
rank_none xs percent rank some whole is = (no_value xs percent rank some whole is, none_of_none xs rank)
