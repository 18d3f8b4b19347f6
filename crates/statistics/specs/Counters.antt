-- Counters of a unit: under which name each of its numbers stands in the table of statistics, and what it may be.
--     counter_of counter      the name and the kind of a counter
--     IsNumberOf kind number      a number that a counter of this kind may have
--     AreNumbersOf counters numbers      numbers, one for each counter, that they may have
--     named counters numbers      each number under its counter's name
--     number_or_zero numbers k      one of them, or zero where it is not there
use Rattle.std.specs.Prelude.{ℕ, ◌<◌, ◌^◌, List, [], ◌∷◌, slice_index_or, unwrap_or, ⊤, Option, Some, None}
use Rattle.std.specs.Option.{IfSome}
use Rattle.statistics.specs.declared.counters.Counter.{Counter}
use Rattle.statistics.specs.declared.counters.CounterKind.{CounterKind}
use Rattle.statistics.specs.declared.counters.CounterKind.TheVariants.{Count, Sum, Cycle}

-- the name and the kind of a counter
abbrev pub counter_of : Counter → List ℕ × CounterKind
counter_of counter = (counter.name.now, counter.kind)

-- a number that is there and is less than a bound
abbrev pub IsBelow : ℕ → Option ℕ → Type 0
IsBelow bound (Some n) = n < bound
IsBelow bound None = ⊥

-- a number that a counter of this kind may have: a count has 64 bits and a sum 128, and a cycle may be missing
abbrev pub IsNumberOf : CounterKind → Option ℕ → Type 0
IsNumberOf Count number = IsBelow (2 ^ 64) number
IsNumberOf Sum number = IsBelow (2 ^ 128) number
IsNumberOf Cycle number = IfSome number (λ cycle. cycle < 2 ^ 64)

-- numbers, one for each counter, that they may have
abbrev pub AreNumbersOf : List (List ℕ × CounterKind) → List (Option ℕ) → Type 0
AreNumbersOf [] [] = ⊤
AreNumbersOf [] (number ∷ numbers) = ⊥
AreNumbersOf (counter ∷ counters) [] = ⊥
AreNumbersOf (counter ∷ counters) (number ∷ numbers) = IsNumberOf counter.1 number × AreNumbersOf counters numbers

-- each number under its counter's name
abbrev pub named : List (List ℕ × CounterKind) → List (Option ℕ) → List (List ℕ × Option ℕ)
named [] numbers = []
named (counter ∷ counters) [] = []
named (counter ∷ counters) (number ∷ numbers) = (counter.0, number) ∷ named counters numbers

-- one of several numbers; where it is not there, zero
abbrev pub number_or_zero : List (Option ℕ) → ℕ → ℕ
number_or_zero numbers k = unwrap_or (slice_index_or numbers k None) 0
