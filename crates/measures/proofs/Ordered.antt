-- Percentiles do not depend on the order of the values.
use Rattle.std.proofs.Common.{◌≡◌, ℕ, ◌+◌, ◌*◌, Bool, true, false, cond, nat_le, List, [], ◌∷◌, length, refl, sym, ap, subst, ◌∙◌, Option, Some, None, arith}
use Rattle.std.specs.Prelude.{MatchOption}
use Rattle.std.specs.List.{count_by, sum_by}
use Rattle.std.specs.List.Sorted.{IsPermutation}
use Rattle.std.proofs.lemmas.List.Recursion.{is_count_by}
use Rattle.std.proofs.lemmas.List.Sums.{sum_by-cons}
use Rattle.std.proofs.lemmas.List.Sorted.{Contains-permutation, IsPermutation-sym, length_permutation, sum_by-IsPermutation}
use Rattle.measures.specs.Percentile.{IsPercentile, IsLeast}
use Rattle.measures.specs.Latency.{AreLatencies}
use Rattle.measures.specs.declared.request_measures.latency.Latencies.{Latencies}

-- a count is a sum of ones
one_more : (b : Bool) (n : ℕ) → cond b 1 0 + n ≡ cond b (1 + n) n
one_more true n = refl
one_more false n = omega arith

sum_is_count : {A : Type 0} (p : A → Bool) (xs : List A) → sum_by (λ x. cond (p x) 1 0) xs ≡ count_by p xs
sum_is_count p xs = is_count_by (λ list. sum_by (λ x. cond (p x) 1 0) list) p refl
    (λ x list. sum_by-cons (λ x. cond (p x) 1 0) x list ∙ one_more (p x) (sum_by (λ x. cond (p x) 1 0) list)) xs

count_same : {A : Type 0} (p : A → Bool) (xs ys : List A) → IsPermutation xs ys → count_by p ys ≡ count_by p xs
count_same p xs ys same = sym (sum_is_count p ys) ∙ sum_by-IsPermutation (λ x. cond (p x) 1 0) xs ys same ∙ sum_is_count p xs

-- a percentile of values in another order is one of them
percentile_same : (xs ys : List ℕ) (percent value : ℕ) → IsPermutation xs ys → IsPercentile ys percent value → IsPercentile xs percent value
percentile_same xs ys percent value same found =
    let long = length_permutation xs ys same in
    record {
      is_one = Contains-permutation ys xs value (IsPermutation-sym xs ys same) found.is_one;
      enough =
          let most = ap (λ n. 100 * n) (count_same (λ x. nat_le x value) xs ys same) in
          let all = ap (λ n. percent * n) long in
          let enough = found.enough in omega (arith, most, all, enough);
      least = λ other member share.
          let most = ap (λ n. 100 * n) (count_same (λ x. nat_le x other) xs ys same) in
          let all = ap (λ n. percent * n) long in
          found.least other (Contains-permutation xs ys other same member) (omega (arith, most, all, share));
    }

-- and so is their least
least_same : (xs ys : List ℕ) (value : ℕ) → IsPermutation xs ys → IsLeast ys value → IsLeast xs value
least_same xs ys value same found = record {
  is_one = Contains-permutation ys xs value (IsPermutation-sym xs ys same) found.is_one;
  least = λ other member. found.least other (Contains-permutation xs ys other same member);
}

-- and so are all of them
pub latencies_same : (xs ys : List ℕ) (found : Latencies) → IsPermutation xs ys → AreLatencies ys found → AreLatencies xs found
latencies_same xs ys found same sorted = record {
  count = sorted.count ∙ length_permutation xs ys same;
  median_is = percentile_same xs ys 50 found.median same sorted.median_is;
  p95_is = percentile_same xs ys 95 found.p95 same sorted.p95_is;
  p99_is = percentile_same xs ys 99 found.p99 same sorted.p99_is;
  greatest_is = percentile_same xs ys 100 found.greatest same sorted.greatest_is;
}

none_if : (xs ys : List ℕ) → length xs ≡ length ys → ys ≡ [] → xs ≡ []
none_if [] ys long none = refl
none_if (x ∷ xs) ys long none = let size = ap length none in absurd (omega (arith, long, size))

-- no values, in another order, are none
pub none_same : (xs ys : List ℕ) → IsPermutation xs ys → ys ≡ [] → xs ≡ []
none_same xs ys same none = none_if xs ys (sym (length_permutation xs ys same)) none

-- the percentiles of values, from those of the same values in ascending order
pub summary_same : (all xs ys : List ℕ) (found : Option Latencies) → xs ≡ all → IsPermutation xs ys → MatchOption found (ys ≡ []) (AreLatencies ys) → MatchOption found (all ≡ []) (AreLatencies all)
summary_same all xs ys None is same sorted = sym is ∙ none_same xs ys same sorted
summary_same all xs ys (Some found) is same sorted = subst (λ values. AreLatencies values found) is (latencies_same xs ys found same sorted)

-- a percentile that may be there, of the same values in another order
pub some_percentile : (xs ys : List ℕ) (percent : ℕ) (found : Option ℕ) → IsPermutation xs ys → MatchOption found (ys ≡ []) (IsPercentile ys percent)
    → MatchOption found (xs ≡ []) (IsPercentile xs percent)
some_percentile xs ys percent None same found = none_same xs ys same found
some_percentile xs ys percent (Some value) same found = percentile_same xs ys percent value same found

-- and their least
pub some_least : (xs ys : List ℕ) (found : Option ℕ) → IsPermutation xs ys → MatchOption found (ys ≡ []) (IsLeast ys) → MatchOption found (xs ≡ []) (IsLeast xs)
some_least xs ys None same found = none_same xs ys same found
some_least xs ys (Some value) same found = least_same xs ys value same found
