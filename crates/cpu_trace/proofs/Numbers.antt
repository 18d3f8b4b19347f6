-- Where a memory entry stands among all entries.
use Rattle.std.proofs.Common.{Option, Bor, ◌≡◌, ℕ, zero, suc, ◌+◌, ◌-◌, ◌<◌, ◌≤◌, true, false, ltb, List, [], ◌∷◌, ◌++◌, length, get_or, drop, replicate, Some, None, refl, sym, ap, ◌∙◌, arith}
use Rattle.std.proofs.lemmas.Bool.{ltb-true, ltb-false, lt-ltb, le-ltb}
use Rattle.std.proofs.lemmas.List.{append-nil, length-replicate, drop-replicate, drop-append-le, drop-drop, drop_at, drop_more}
use Rattle.std.proofs.lemmas.Option.{same_Some, slice_get_within, slice_get_past, slice_get-get_or, get_or_from_slice_get}
use Rattle.std.specs.List.{slice_get, HoldsAt}
use Rattle.std.specs.Option.{MatchOption, IfSome, IfNone, option_copied}
use Rattle.std.specs.List.Sorted.{IsPartitionedBy, IsPartitionPoint}
use Rattle.sim_base.specs.declared.trace.Entry.TheVariants.{Plain}
use Rattle.sim_base.specs.Windows.{is_memory}
use Rattle.sim_base.proofs.Lists.{slice_get-drop, drop-at_none}
use Rattle.cpu_trace.specs.declared.entries.MemoryEntry.{MemoryEntry}
use Rattle.cpu_trace.specs.Entries.{entries_after, IsAscending}
use Rattle.cpu_trace.proofs.Growth.{length-entries_after}
use Rattle.cpu_trace.specs.NextMemory.{IsPlainBetween, IsNextMemory}

-- no number is below the first that there may be
pub from_le-number : (from : ℕ) (memory : List MemoryEntry) (len : ℕ) → IsAscending from memory len → (j : ℕ) (d : MemoryEntry) → j < length memory → from ≤ (get_or memory j d).number
unfolding IsAscending
from_le-number from [] len h j d lt = absurd (omega (arith, lt))
from_le-number from (m ∷ memory) len h zero d lt = h.0
from_le-number from (m ∷ memory) len h (suc j) d lt =
    omega (arith, h.0, from_le-number (m.number + 1) memory len h.2 j d (omega (arith, lt)))

-- the numbers rise
pub number-mono : (from : ℕ) (memory : List MemoryEntry) (len : ℕ) → IsAscending from memory len → (i j : ℕ) (d : MemoryEntry) → i ≤ j → j < length memory → (get_or memory i d).number ≤ (get_or memory j d).number
unfolding IsAscending
number-mono from [] len h i j d le lt = absurd (omega (arith, lt))
number-mono from (m ∷ memory) len h zero zero d le lt = omega arith
number-mono from (m ∷ memory) len h zero (suc j) d le lt =
    omega (arith, from_le-number (m.number + 1) memory len h.2 j d (omega (arith, lt)))
number-mono from (m ∷ memory) len h (suc i) zero d le lt = absurd (omega (arith, le))
number-mono from (m ∷ memory) len h (suc i) (suc j) d le lt =
    number-mono (m.number + 1) memory len h.2 i j d (omega (arith, le)) (omega (arith, lt))

-- so those below a number come first
pub IsPartitionedBy-numbers : (from : ℕ) (memory : List MemoryEntry) (len n : ℕ) → IsAscending from memory len → IsPartitionedBy (λ m. ltb m.number n) memory
IsPartitionedBy-numbers from memory len n h i j d le lt e =
    lt-ltb _ n (omega (arith, number-mono from memory len h i j d le lt, ltb-true _ n e))

-- the entries from a number on are those of the memory entries from there on
pub drop-entries_after : (from : ℕ) (memory : List MemoryEntry) (len i k : ℕ) → from ≤ i → IsAscending from memory len → k ≤ length memory → IsPartitionPoint (λ m. ltb m.number i ≡ true) (λ m. ltb m.number i ≡ false) memory k → drop (i - from) (entries_after from memory len) ≡ entries_after i (drop k memory) len
unfolding entries_after IsAscending
drop-entries_after from [] len i zero le h within p =
    drop-replicate (i - from) (len - from) Plain ∙ ap (λ n. replicate n Plain) (omega (arith, le))
drop-entries_after from [] len i (suc k) le h within p = absurd (omega (arith, within))
drop-entries_after from (m ∷ memory) len i zero le h within p =
    let above : i ≤ m.number = ltb-false m.number i (p.1 0 m (omega arith) (omega arith)) in
    let run = replicate (m.number - from) Plain in
    let rest = m.entry ∷ entries_after (m.number + 1) memory len in
    drop-append-le (i - from) run rest (omega (arith, length-replicate (m.number - from) Plain))
    ∙ ap (λ xs. xs ++ rest) (drop-replicate (i - from) (m.number - from) Plain ∙ ap (λ n. replicate n Plain) (omega (arith, le)))
drop-entries_after from (m ∷ memory) len i (suc k) le h within p =
    let below : m.number < i = ltb-true m.number i (p.0 0 m (omega arith) (omega arith)) in
    let run = replicate (m.number - from) Plain in
    let rest = entries_after (m.number + 1) memory len in
    let left = i - (m.number + 1) in
    let point : IsPartitionPoint (λ a. ltb a.number i ≡ true) (λ a. ltb a.number i ≡ false) memory k =
    (λ j d a b. p.0 (suc j) d (omega arith) (omega (arith, b)), λ j d a b. p.1 (suc j) d (omega (arith, a)) (omega (arith, b))) in
    ap (λ n. drop n (run ++ m.entry ∷ rest)) (omega (arith, le, h.0, below))
    ∙ sym (drop-drop (suc left) (m.number - from) (run ++ m.entry ∷ rest))
    ∙ ap (drop (suc left)) (drop_at run (m.entry ∷ rest) (m.number - from) (length-replicate (m.number - from) Plain))
    ∙ drop-entries_after (m.number + 1) memory len i k (omega (arith, below)) h.2 (omega (arith, within)) point

-- what stands in a run, and behind it
pub slice_get-run : {X : Type 0} (n : ℕ) (x : X) (ys : List X) (j : ℕ) → j < n → slice_get (replicate n x ++ ys) j ≡ Some x
slice_get-run zero x ys j lt = absurd (omega (arith, lt))
slice_get-run (suc n) x ys zero lt = refl
slice_get-run (suc n) x ys (suc j) lt = slice_get-run n x ys j (omega (arith, lt))

pub slice_get-behind_run : {X : Type 0} (n : ℕ) (x y : X) (ys : List X) → slice_get (replicate n x ++ y ∷ ys) n ≡ Some y
slice_get-behind_run zero x y ys = refl
slice_get-behind_run (suc n) x y ys = slice_get-behind_run n x y ys

-- each is a Read or a Write
pub is_memory-at : (from : ℕ) (memory : List MemoryEntry) (len : ℕ) → IsAscending from memory len → (k : ℕ) (m : MemoryEntry) → slice_get memory k ≡ Some m → is_memory m.entry ≡ true
unfolding IsAscending
is_memory-at from [] len h k m e = cc
is_memory-at from (a ∷ memory) len h zero m e =
    let same : m ≡ a = sym (same_Some a m e) in
    rw same h.1
is_memory-at from (a ∷ memory) len h (suc k) m e = is_memory-at (a.number + 1) memory len h.2 k m e

-- what is left from a place on begins with what stands there
pub drop-at_some : {X : Type 0} (xs : List X) (k : ℕ) (x : X) → slice_get xs k ≡ Some x → drop k xs ≡ x ∷ drop (k + 1) xs
drop-at_some xs k x e =
    let within : k < length xs = slice_get_within xs k x e in
    drop_more xs k x within ∙ ap (λ y. y ∷ drop (k + 1) xs) (get_or_from_slice_get xs k x x e)

-- what stands at a place of a list, of which the rest is known from an earlier place on
pub slice_get-from : {X : Type 0} (xs rest : List X) (i j : ℕ) → drop i xs ≡ rest → i ≤ j → slice_get xs j ≡ slice_get rest (j - i)
slice_get-from xs rest i j e le =
    let place : j ≡ i + (j - i) = omega (arith, le) in
    ap (slice_get xs) place ∙ sym (slice_get-drop xs i (j - i)) ∙ ap (λ ys. slice_get ys (j - i)) e

-- a place among memory entries, with those below a number before it and the others from there on
abbrev pub IsPlaceOf : ℕ → List MemoryEntry → ℕ → Type 0
IsPlaceOf i memory k = IsPartitionPoint (λ m. ltb m.number i ≡ true) (λ m. ltb m.number i ≡ false) memory k

-- the entries from a number on
rest_from : (memory : List MemoryEntry) (len i k : ℕ) → IsAscending 0 memory len → k ≤ length memory → IsPlaceOf i memory k → drop i (entries_after 0 memory len) ≡ entries_after i (drop k memory) len
rest_from memory len i k h within p =
    let all : i ≡ i - 0 = omega arith in
    ap (λ n. drop n (entries_after 0 memory len)) all ∙ drop-entries_after 0 memory len i k (omega arith) h within p

-- the first memory entry that is not below a number comes next from that number on
pub IsNextMemory-at : (memory : List MemoryEntry) (len i k : ℕ) (m : MemoryEntry) → IsAscending 0 memory len → k ≤ length memory → IsPlaceOf i memory k → slice_get memory k ≡ Some m → IsNextMemory (entries_after 0 memory len) i m
unfolding entries_after
IsNextMemory-at memory len i k m h within p e =
    let trace = entries_after 0 memory len in
    let run = m.number - i in
    let lt : k < length memory = slice_get_within memory k m e in
    let above : i ≤ m.number = ltb-false m.number i (rw (get_or_from_slice_get memory k m m e) at (p.1 k m (omega arith) lt)) in
    let rest = entries_after (m.number + 1) (drop (k + 1) memory) len in
    let left : drop i trace ≡ replicate run Plain ++ m.entry ∷ rest =
    rest_from memory len i k h within p ∙ ap (λ xs. entries_after i xs len) (drop-at_some memory k m e) in
    record {
      is_from = above;
      is_at = slice_get-from trace _ i m.number left above ∙ slice_get-behind_run run Plain m.entry rest;
      is_read_or_write = is_memory-at 0 memory len h k m e;
      is_plain_before = λ j from below. slice_get-from trace _ i j left from ∙ slice_get-run run Plain (m.entry ∷ rest) (j - i) (omega (arith, from, below));
    }

-- where there is none, all entries from that number on are Plain
pub IsPlainBetween-end : (memory : List MemoryEntry) (len i k : ℕ) → IsAscending 0 memory len → k ≤ length memory → IsPlaceOf i memory k → slice_get memory k ≡ None → IsPlainBetween (entries_after 0 memory len) i len
unfolding entries_after
IsPlainBetween-end memory len i k h within p e j from below =
    let trace = entries_after 0 memory len in
    let left : drop i trace ≡ replicate (len - i) Plain ++ [] =
    rest_from memory len i k h within p ∙ ap (λ xs. entries_after i xs len) (drop-at_none memory k e) ∙ sym (append-nil (replicate (len - i) Plain)) in
    slice_get-from trace _ i j left from ∙ slice_get-run (len - i) Plain [] (j - i) (omega (arith, from, below))

-- what looking at the place of the first memory entry that is not below a number gives
pub next_memory-at : (memory : List MemoryEntry) (len i k : ℕ) (next : Option MemoryEntry) → IsAscending 0 memory len → k ≤ length memory → IsPlaceOf i memory k → next ≡ slice_get memory k → IfSome next (IsNextMemory (entries_after 0 memory len) i) × IfNone next (IsPlainBetween (entries_after 0 memory len) i (length (entries_after 0 memory len)))
next_memory-at memory len i k None h within p e =
    (tt, λ j from below. IsPlainBetween-end memory len i k h within p (sym e) j from (omega (arith, below, length-entries_after 0 memory len h)))
next_memory-at memory len i k (Some m) h within p e = (IsNextMemory-at memory len i k m h within p (sym e), tt)

-- `get` at a place, copied, is what stands there
pub option_copied-get : {X : Type 0} (xs : List X) (k : ℕ) (o : Option (Bor X)) → MatchOption o (length xs ≤ k) (λ x. (k < length xs) × HoldsAt (λ y. x.now ≡ y) xs k) → option_copied o ≡ slice_get xs k
option_copied-get xs k None h = sym (slice_get_past xs k h)
option_copied-get xs k (Some x) h = ap Some (h.1 x.now) ∙ sym (slice_get-get_or xs k x.now h.0)

-- what `get` gives at the place of the first memory entry that is not below a number
pub next_memory-get : (memory : List MemoryEntry) (len i k : ℕ) (o : Option (Bor MemoryEntry)) → IsAscending 0 memory len → k ≤ length memory → IsPlaceOf i memory k → MatchOption o (length memory ≤ k) (λ m. (k < length memory) × HoldsAt (λ y. m.now ≡ y) memory k) → IfSome o (λ m. IsNextMemory (entries_after 0 memory len) i m.now) × IfNone o (IsPlainBetween (entries_after 0 memory len) i (length (entries_after 0 memory len)))
next_memory-get memory len i k None h within p got = next_memory-at memory len i k None h within p (option_copied-get memory k None got)
next_memory-get memory len i k (Some m) h within p got = next_memory-at memory len i k (Some m.now) h within p (option_copied-get memory k (Some m) got)

-- a memory entry that is not below a number, behind one that is
pub place-behind : (memory : List MemoryEntry) (len from k : ℕ) (m : MemoryEntry) → IsAscending 0 memory len → k < length memory → HoldsAt (λ y. m ≡ y) memory k → from ≤ m.number
    → ((d : MemoryEntry) → 0 < k → (get_or memory (k - 1) d).number < from) → IsPlaceOf from memory k
place-behind memory len from k m h within here above behind = (
  λ j d before l. let up = number-mono 0 memory len h j (k - 1) d (omega arith) (omega arith) in let b = behind d (omega arith) in lt-ltb _ from (omega arith),
  λ j d after l. let up = number-mono 0 memory len h k j d after l in let e : m.number ≡ (get_or memory k d).number = ap (λ (x : MemoryEntry). x.number) (here d) in le-ltb _ from (omega arith),
)
