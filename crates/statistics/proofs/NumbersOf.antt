-- Numbers of counters, one by one and all together.
use Rattle.std.proofs.Common.{◌≡◌, ℕ, suc, ◌^◌, List, [], ◌∷◌, Option, Some, None, refl, ap₂}
use Rattle.std.specs.Prelude.{slice_index_or, unwrap_or}
use Rattle.statistics.specs.Counters.{IsBelow, IsNumberOf, AreNumbersOf}
use Rattle.statistics.specs.declared.counters.CounterKind.{CounterKind}
use Rattle.statistics.specs.declared.counters.CounterKind.TheVariants.{Count, Sum, Cycle}

-- a number of a counter of this kind, made of what stands for it
abbrev number_of : CounterKind → Option ℕ → Option ℕ
number_of Count o = Some (unwrap_or o 0)
number_of Sum o = Some (unwrap_or o 0)
number_of Cycle o = o

below-there : (most : ℕ) (o : Option ℕ) → IsBelow most o → Some (unwrap_or o 0) ≡ o
below-there most (Some n) h = refl
below-there most None h = absurd h

number-is : (kind : CounterKind) (o : Option ℕ) → IsNumberOf kind o → number_of kind o ≡ o
number-is Count o h = below-there (2 ^ 64) o h
number-is Sum o h = below-there (2 ^ 128) o h
number-is Cycle o h = refl

-- the numbers of counters, made of what stands for each by its place
abbrev pub numbers_by : List (List ℕ × CounterKind) → (ℕ → Option ℕ) → List (Option ℕ)
numbers_by [] f = []
numbers_by (counter ∷ counters) f = number_of counter.1 (f 0) ∷ numbers_by counters (λ k. f (suc k))

-- numbers of counters are all there
pub numbers-are : (counters : List (List ℕ × CounterKind)) (numbers : List (Option ℕ)) → AreNumbersOf counters numbers → numbers_by counters (λ k. slice_index_or numbers k None) ≡ numbers
numbers-are [] [] h = refl
numbers-are [] (number ∷ numbers) h = absurd h
numbers-are (counter ∷ counters) [] h = absurd h
numbers-are (counter ∷ counters) (number ∷ numbers) h = ap₂ (λ n ns. n ∷ ns) (number-is counter.1 number h.0) (numbers-are counters numbers h.1)
