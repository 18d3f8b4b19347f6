-- How memory entries grow, and what they stand for.
use Rattle.std.proofs.Common.{◌≡◌, ℕ, ◌+◌, ◌-◌, ◌<◌, ◌≤◌, true, List, [], ◌∷◌, ◌++◌, length, replicate, get_or, drop, refl, sym, ap, ◌∙◌, arith, append_assoc, length-append}
use Rattle.std.proofs.lemmas.List.{replicate-append-replicate, length-replicate, drop_more, drop_all}
use Rattle.sim_base.specs.declared.trace.Entry.{Entry}
use Rattle.sim_base.specs.declared.trace.Entry.TheVariants.{Plain}
use Rattle.sim_base.specs.Windows.{is_memory}
use Rattle.cpu_trace.specs.declared.entries.MemoryEntry.{MemoryEntry}
use Rattle.cpu_trace.specs.Entries.{entries_after, IsAscending}

-- the numbers lie below the length
pub from_le : (from : ℕ) (memory : List MemoryEntry) (len : ℕ) → IsAscending from memory len → from ≤ len
unfolding IsAscending
from_le from [] len h = h
from_le from (m ∷ memory) len h = let e = from_le (m.number + 1) memory len h.2 in omega (arith, h.0, e)

-- there are as many entries as the length says
pub length-entries_after : (from : ℕ) (memory : List MemoryEntry) (len : ℕ) → IsAscending from memory len → length (entries_after from memory len) ≡ len - from
unfolding entries_after IsAscending
length-entries_after from [] len h = length-replicate (len - from) Plain
length-entries_after from (m ∷ memory) len h =
    let rest = length-entries_after (m.number + 1) memory len h.2 in
    let below = from_le (m.number + 1) memory len h.2 in
    length-append (replicate (m.number - from) Plain) (m.entry ∷ entries_after (m.number + 1) memory len) ∙ omega (arith, length-replicate (m.number - from) Plain, rest, below, h.0)

-- no entries
pub entries_after-none : entries_after 0 [] 0 ≡ []
unfolding entries_after
entries_after-none = refl

pub IsAscending-none : IsAscending 0 [] 0
unfolding IsAscending
IsAscending-none = omega arith

-- a run of Plain entries more, and then a memory entry
pub entries_after-push : (from : ℕ) (memory : List MemoryEntry) (len plain : ℕ) (entry : Entry) → IsAscending from memory len → entries_after from (memory ++ record { number = len + plain; entry = entry } ∷ []) (len + plain + 1) ≡ entries_after from memory len ++ (replicate plain Plain ++ entry ∷ [])
unfolding entries_after IsAscending
entries_after-push from [] len plain entry h =
    let parts : len + plain - from ≡ (len - from) + plain = omega (arith, h) in
    let none : len + plain + 1 - (len + plain + 1) ≡ 0 = omega arith in
    rw (parts, none, ← replicate-append-replicate (len - from) plain Plain) (append_assoc (replicate (len - from) Plain) (replicate plain Plain) (entry ∷ []))
entries_after-push from (m ∷ memory) len plain entry h =
    rw (entries_after-push (m.number + 1) memory len plain entry h.2)
    (sym (append_assoc (replicate (m.number - from) Plain) (m.entry ∷ entries_after (m.number + 1) memory len) (replicate plain Plain ++ entry ∷ [])))

-- the numbers still rise
pub IsAscending-push : (from : ℕ) (memory : List MemoryEntry) (len plain : ℕ) (entry : Entry) → is_memory entry ≡ true → IsAscending from memory len → IsAscending from (memory ++ record { number = len + plain; entry = entry } ∷ []) (len + plain + 1)
unfolding IsAscending
IsAscending-push from [] len plain entry e h = (omega (arith, h), e, omega arith)
IsAscending-push from (m ∷ memory) len plain entry e h = (h.0, h.1, IsAscending-push (m.number + 1) memory len plain entry e h.2)

-- a run of Plain entries more
pub entries_after-plain : (from : ℕ) (memory : List MemoryEntry) (len plain : ℕ) → IsAscending from memory len → entries_after from memory (len + plain) ≡ entries_after from memory len ++ replicate plain Plain
unfolding entries_after IsAscending
entries_after-plain from [] len plain h =
    let parts : len + plain - from ≡ (len - from) + plain = omega (arith, h) in
    rw (parts, ← replicate-append-replicate (len - from) plain Plain) refl
entries_after-plain from (m ∷ memory) len plain h =
    rw (entries_after-plain (m.number + 1) memory len plain h.2)
    (sym (append_assoc (replicate (m.number - from) Plain) (m.entry ∷ entries_after (m.number + 1) memory len) (replicate plain Plain)))

pub IsAscending-plain : (from : ℕ) (memory : List MemoryEntry) (len plain : ℕ) → IsAscending from memory len → IsAscending from memory (len + plain)
unfolding IsAscending
IsAscending-plain from [] len plain h = omega (arith, h)
IsAscending-plain from (m ∷ memory) len plain h = (h.0, h.1, IsAscending-plain (m.number + 1) memory len plain h.2)

-- The first memory entry of what is still to be added to some entries: it is added behind the Plain ones before it.
pub record IsNextAdded (all whole : List Entry) (next : ℕ) (m : MemoryEntry) (memory : List MemoryEntry) (len : ℕ) : Type 0 where
  pub from : next ≤ m.number
  pub below : m.number < len
  pub is_read_or_write : is_memory m.entry ≡ true
  pub room : length all + (m.number - next) < length whole
  pub same : (all ++ (replicate (m.number - next) Plain ++ m.entry ∷ [])) ++ entries_after (m.number + 1) memory len ≡ whole
  pub rises : IsAscending (m.number + 1) memory len

IsNextAdded-first : (all whole : List Entry) (next : ℕ) (m : MemoryEntry) (memory : List MemoryEntry) (len : ℕ) → IsAscending next (m ∷ memory) len → all ++ entries_after next (m ∷ memory) len ≡ whole → IsNextAdded all whole next m memory len
unfolding entries_after IsAscending
IsNextAdded-first all whole next m memory len h e =
    let plain = replicate (m.number - next) Plain in
    let rest = entries_after (m.number + 1) memory len in
    let below = from_le (m.number + 1) memory len h.2 in
    let count = length-append all (plain ++ m.entry ∷ rest) in
    let more = length-append plain (m.entry ∷ rest) in
    record {
      from = h.0;
      below = omega (arith, below);
      is_read_or_write = h.1;
      room = omega (arith, ap length e, count, more, length-replicate (m.number - next) Plain);
      same = append_assoc all (plain ++ m.entry ∷ []) rest ∙ ap (λ xs. all ++ xs) (append_assoc plain (m.entry ∷ []) rest) ∙ e;
      rises = h.2;
    }

pub IsNextAdded-at : (all whole : List Entry) (next : ℕ) (m : MemoryEntry) (shown memory : List MemoryEntry) (i len : ℕ) → shown ≡ memory → i < length shown → m ≡ get_or shown i m → IsAscending next (drop i memory) len → all ++ entries_after next (drop i memory) len ≡ whole → IsNextAdded all whole next m (drop (i + 1) memory) len
IsNextAdded-at all whole next m shown memory i len s lt is h e =
    let within : i < length memory = rw s at lt in
    let here : m ≡ get_or memory i m = rw s at is in
    let first : drop i memory ≡ m ∷ drop (i + 1) memory = drop_more memory i m within ∙ ap (λ x. x ∷ drop (i + 1) memory) (sym here) in
    IsNextAdded-first all whole next m (drop (i + 1) memory) len (rw first at h) (rw first at e)

-- the Plain entries behind the last memory entry
pub last_added : (all whole : List Entry) (next : ℕ) (memory : List MemoryEntry) (i len : ℕ) → i ≡ length memory → IsAscending next (drop i memory) len → all ++ entries_after next (drop i memory) len ≡ whole → (next ≤ len) × (all ++ replicate (len - next) Plain ≡ whole) × (length all + (len - next) ≡ length whole)
unfolding entries_after IsAscending
last_added all whole next memory i len is h e =
    let none : drop i memory ≡ [] = drop_all i memory (omega (arith, is)) in
    let same : all ++ replicate (len - next) Plain ≡ whole = rw none at e in
    (rw none at h, same, sym (length-append all (replicate (len - next) Plain) ∙ ap (λ n. length all + n) (length-replicate (len - next) Plain)) ∙ ap length same)
