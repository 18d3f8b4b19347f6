-- Each bank is closed and has no candidates.
use Rattle.std.proofs.Common.{length, ap, sym, ◌∙◌, arith, ℕ, Option, None}
use Rattle.std.proofs.lemmas.List.{length-replicate}
use Rattle.std.specs.Option.{is_some}
use Rattle.queue.proofs.Stood.{none_open, first_stand}
use Rattle.queue.proofs.bank_candidates.all_banks.BankCandidates.with_room.Goals as goal

pub invariant_of-result : goal.invariant_of-result
invariant_of-result c =
    let closed = c.in_ok-closed_rows.ensures {u = tt} in
    let counts = c.in_ok-vec.ensures {u = tt} in
    let places = c.in_ok-with_room.ensures {u = tt} in
    let none : Option ℕ = None in
    let long = ap length closed ∙ length-replicate c.args.banks none in
    record {
      few = omega (arith, long, c.requires);
      open_are = λ bank. c.none.ensures bank ∙ sym (ap is_some (none_open c.in_ok-closed_rows.field-0.items c.args.banks bank closed));
      all_words = omega (arith, long, places.room);
      all_counts = omega (arith, long, counts.len);
    }

pub returns-clause-stands : goal.returns-clause-stands
returns-clause-stands c =
    first_stand _ c.args.banks (c.in_ok-closed_rows.ensures {u = tt}) ((c.in_ok-vec.ensures {u = tt}).items_if_clones_equal (λ _ zero. zero)) (c.in_ok-with_room.ensures {u = tt}).none

pub returns-clause-banks : goal.returns-clause-banks
returns-clause-banks c = let none : Option ℕ = None in ap length (c.in_ok-closed_rows.ensures {u = tt}) ∙ length-replicate c.args.banks none
