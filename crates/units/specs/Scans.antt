-- What a scan of a column looks for, and how far it has come.
--     is_below bound word      a word is below a bound
--     NoneBelow bound words place      no word before a place is below a bound
--     least_of words      the least of some words
use Rattle.std.specs.Prelude.{◌≡◌, ℕ, ◌-◌, ◌^◌, ◌<◌, min, nat_lt, Bool, false, List, fold, slice_index}

-- a word is below a bound
abbrev pub is_below : ℕ → ℕ → Bool
is_below bound word = nat_lt word bound

-- no word before a place is below a bound
abbrev pub NoneBelow : ℕ → List ℕ → ℕ → Type 0
NoneBelow bound words place = (k : ℕ) → k < place → is_below bound (slice_index words k) ≡ false

-- the greatest possible word
abbrev pub greatest : ℕ
greatest = 2 ^ 64 - 1

-- the least of some words, or the greatest possible word if there are none
abbrev pub least_of : List ℕ → ℕ
least_of words = fold min greatest words
