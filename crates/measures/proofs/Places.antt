-- Where the least, the median and the greatest of values stand that ascend.
use Rattle.std.proofs.Common.{◌≡◌, ℕ, suc, ◌+◌, ◌-◌, ◌*◌, ◌/◌, ◌<◌, ◌≤◌, List, [], ◌∷◌, length, refl, subst, Option, Some, None, arith}
use Rattle.std.specs.Prelude.{slice_get, IfSome, MatchOption}
use Rattle.std.specs.List.Sorted.{IsNonDecreasing}
use Rattle.measures.specs.Percentile.{IsPercentile, IsLeast}
use Rattle.measures.proofs.Ranks.{rank_gives, rank_none}

-- the percentile that stands at a place
percentile_there : (xs : List ℕ) (percent place : ℕ) → 0 < percent → percent ≤ 100 → IsNonDecreasing xs → (0 < length xs → suc place ≡ (percent * length xs + 99) / 100)
    → MatchOption (slice_get xs place) (xs ≡ []) (IsPercentile xs percent)
percentile_there [] percent place some whole up at = refl
percentile_there (x ∷ rest) percent place some whole up at = go (slice_get (x ∷ rest) place) refl
  where
    rank : suc place ≡ (percent * length (x ∷ rest) + 99) / 100
    rank = at (omega arith)

    go : (found : Option ℕ) → slice_get (x ∷ rest) place ≡ found → MatchOption found ((x ∷ rest) ≡ []) (IsPercentile (x ∷ rest) percent)
    go None is = (rank_none (x ∷ rest) percent (suc place) some whole rank).0 is
    go (Some value) is = subst (λ found. IfSome found (IsPercentile (x ∷ rest) percent)) is (rank_gives (x ∷ rest) percent (suc place) up rank)

-- the least value stands first
pub first_is : (xs : List ℕ) → IsNonDecreasing xs → MatchOption (slice_get xs 0) (xs ≡ []) (IsLeast xs)
first_is [] up = refl
first_is (x ∷ rest) up = record {
  is_one = (0, omega arith, refl);
  least = λ other member. subst (λ value. x ≤ value) member.2 (up 0 member.0 other (omega arith) member.1);
}

-- the median stands in the middle
pub middle_is : (xs : List ℕ) (last : ℕ) → IsNonDecreasing xs → last ≡ length xs - 1 → MatchOption (slice_get xs (last / 2)) (xs ≡ []) (IsPercentile xs 50)
middle_is xs last up is = percentile_there xs 50 (last / 2) (omega arith) (omega arith) up (λ some. omega (arith, some, is))

-- the greatest value stands last
pub last_is : (xs : List ℕ) (last : ℕ) → IsNonDecreasing xs → last ≡ length xs - 1 → MatchOption (slice_get xs last) (xs ≡ []) (IsPercentile xs 100)
last_is xs last up is = percentile_there xs 100 last (omega arith) (omega arith) up (λ some. omega (arith, some, is))
