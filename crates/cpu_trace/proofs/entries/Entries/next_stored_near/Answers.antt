-- An entry that is not below the number, behind one that is, comes next.
use Rattle.std.proofs.Common.{◌≡◌, ◌<◌, ◌≤◌, ◌-◌, Some, get_or, sym, ap, ◌∙◌, arith}
use Rattle.std.proofs.lemmas.Bool.{ltb-true, false≢true}
use Rattle.std.proofs.lemmas.Option.{slice_get-get_or}
use Rattle.cpu_trace.proofs.Numbers.{place-behind, IsPlaceOf, IsNextMemory-at}
use Rattle.cpu_trace.specs.declared.entries.MemoryEntry.{MemoryEntry}
use Rattle.cpu_trace.proofs.entries.Entries.next_stored_near.Goals as goal
use Rattle.cpu_trace.proofs.entries.Entries.next_stored_near.Goals.{then-place-eq0, else-place-eq0+in-Some, else-place-eq0+in-None}

pub returns-in-Some-get-clause-found : goal.returns-in-Some-get-clause-found
returns-in-Some-get-clause-found c =
    let memory = c.self.inside.memory.items in
    let here = rw c.deref-2.ensures.value at c.in-Some-get.ensures.lookup in
    let behind : (d : MemoryEntry) → 0 < c.args.place → (get_or memory (c.args.place - 1) d).number < c.args.from =
    λ d some. elim c.if-place-eq0.branch [
      | then-place-eq0 w ↦ absurd (omega (arith, w.if-place-eq0.true))
      | else-place-eq0+in-Some w ↦
          let last = rw w.deref.ensures.value at w.in-Some.ensures.lookup in
          let below : w.number.result < c.args.from = ltb-true w.number.result c.args.from (sym w.is_behind-is ∙ c.if-is_behind.true) in
          let same : w.number.result ≡ (get_or memory (c.args.place - 1) d).number = w.number.ensures ∙ ap (λ (x : MemoryEntry). x.number) (last.3.1 d) in
          omega arith
      | else-place-eq0+in-None w ↦ absurd (false≢true (sym w.is_behind-is ∙ c.if-is_behind.true))
    ] in
    let above : c.args.from ≤ c.in-Some-get.stored.now.number = omega (arith, c.if-from-number.true, c.number-then-is_behind.ensures) in
    let place : IsPlaceOf c.args.from memory c.args.place =
    place-behind memory c.self.inside.len c.args.from c.args.place c.in-Some-get.stored.now c.self.invariant.0 here.3.0 here.3.1 above behind in
    rw (← c.self.view_is) (IsNextMemory-at memory c.self.inside.len c.args.from c.args.place c.in-Some-get.stored.now c.self.invariant.0 (omega (arith, here.3.0)) place
    (slice_get-get_or memory c.args.place c.in-Some-get.stored.now here.3.0 ∙ ap Some (sym (here.3.1 c.in-Some-get.stored.now))))
