use Rattle.std.proofs.lemmas.Bool.{false_from_ne_true}
use Rattle.std.proofs.lemmas.Slice.Eq.{bytes_eq-Decides}
use Rattle.config_reader.proofs.end.end_named.Goals as goal

pub returns-in-Some : goal.returns-in-Some
returns-in-Some c =
    let limit = false_from_ne_true _ (λ e. c.in-Some.not-limit ((bytes_eq-Decides c.in-Some.field-0.now _).0 e)) in
    let drained = false_from_ne_true _ (λ e. c.in-Some.not-drained ((bytes_eq-Decides c.in-Some.field-0.now _).0 e)) in
    rw (← c.in-Some.ensures {u = tt}) (rw (limit, drained))
