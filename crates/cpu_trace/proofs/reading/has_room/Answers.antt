use Rattle.std.proofs.Common.{◌≡◌, ℕ, ◌+◌, ◌∷◌, length, replicate, length-append, Option, Some, None, cond, refl, sym, ap, ◌∙◌, arith}
use Rattle.std.specs.Prelude.{is_some}
use Rattle.std.proofs.lemmas.Bool.{leb-true, le-leb}
use Rattle.std.proofs.lemmas.List.{length-replicate}
use Rattle.sim_base.specs.declared.trace.Entry.TheVariants.{Plain, Read}
use Rattle.cpu_trace.specs.declared.line.Line.{Line}
use Rattle.cpu_trace.specs.Lines.{written, entries_in}
use Rattle.cpu_trace.proofs.reading.has_room.Goals as goal
use Rattle.cpu_trace.proofs.reading.has_room.Goals.{then-is_some, else-is_some}

length-written : (write : Option ℕ) → 1 + length (written write) ≡ cond (is_some write) 2 1
length-written None = refl
length-written (Some address) = refl

length-entries_in : (read : Option Line) (line : Line) (more : ℕ) → read ≡ Some line → more ≡ cond (is_some line.write) 2 1 → length (entries_in read) ≡ line.plain + more
length-entries_in read line more is count =
    rw is (length-append (replicate line.plain Plain) (Read line.read ∷ written line.write) ∙ omega (arith, length-replicate line.plain Plain, length-written line.write, count))

pub returns-then-line-le-MOST_ENTRIES : goal.returns-then-line-le-MOST_ENTRIES
returns-then-line-le-MOST_ENTRIES c =
    let line = c.in-Some.line in
    let more : c.if-is_some.more ≡ cond (is_some line.write) 2 1 = elim c.if-is_some.branch [
      | then-is_some w ↦ w.more-is ∙ ap (λ b. cond b 2 1) (sym w.if-is_some.true ∙ c.is_some.ensures)
      | else-is_some w ↦ w.more-is ∙ ap (λ b. cond b 2 1) (sym w.if-is_some.false ∙ c.is_some.ensures)
    ] in
    let count = length-entries_in c.args.line line c.if-is_some.more c.in-Some.is more in
    let len = c.len-then-line-le-MOST_ENTRIES.ensures.value in
    (λ e. omega (arith, leb-true _ _ e, count, len), λ h. le-leb _ _ (omega (arith, h, count, len)))

pub returns-else-line-le-MOST_ENTRIES : goal.returns-else-line-le-MOST_ENTRIES
returns-else-line-le-MOST_ENTRIES c =
    let line = c.in-Some.line in
    let large = c.if-line-le-MOST_ENTRIES.false in
    let more : c.if-is_some.more ≡ cond (is_some line.write) 2 1 = elim c.if-is_some.branch [
      | then-is_some w ↦ w.more-is ∙ ap (λ b. cond b 2 1) (sym w.if-is_some.true ∙ c.is_some.ensures)
      | else-is_some w ↦ w.more-is ∙ ap (λ b. cond b 2 1) (sym w.if-is_some.false ∙ c.is_some.ensures)
    ] in
    let count = length-entries_in c.args.line line c.if-is_some.more c.in-Some.is more in
    (λ e. absurd (omega (arith, leb-true _ _ e, large)), λ h. absurd (omega (arith, h, count, large)))
