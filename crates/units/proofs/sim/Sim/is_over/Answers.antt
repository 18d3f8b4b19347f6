use Rattle.std.proofs.Common.{sym, ap, subst, ◌∙◌}
use Rattle.std.specs.Arc.{arc_value}
use Rattle.std.proofs.lemmas.Bool.{false≢true}
use Rattle.links.specs.InFlight.{InFlight}
use Rattle.units.specs.Drained.{AllFinished}
use Rattle.units.specs.Parts.{StandAt}
use Rattle.units.specs.Runs.{is_over_at}
use Rattle.units.specs.Views.{SimView, is_over_now}
use Rattle.units.specs.declared.machine.Machine.{Machine}
use Rattle.units.proofs.Lasting.{over-from_units, units-from_over, flight-from_over, same-answer}
use Rattle.units.proofs.sim.Sim.is_over.Goals as goal

pub returns-then-is_empty : goal.returns-then-is_empty
returns-then-is_empty c =
    let f = c.self.inside in
    let machine = arc_value f.machine in
    let s = machine.config in
    let traces = machine.traces.items in
    let e = c.deref.ensures in
    let stands = subst (λ (m : Machine). StandAt m f.now c.deref-then-is_empty.result.now) (sym e)
    (subst (λ parts. StandAt machine f.now parts) (sym c.deref-then-is_empty.ensures.value) c.self.invariant.stand) in
    let answer = c.all_finished.ensures f.now stands in
    let none = sym (ap (λ (l : InFlight). l.messages) c.self.invariant.flight) ∙ c.is_empty.ensures.0 c.if-is_empty.true in
    same-answer c.all_finished.result (is_over_at machine f.now)
    (λ yes. over-from_units machine f.now none (subst (λ (m : Machine). AllFinished m f.now) e (answer.0 yes)))
    (λ over. answer.1 (subst (λ (m : Machine). AllFinished m f.now) (sym e) (units-from_over machine f.now over)))
    ∙ ap (λ (v : SimView). is_over_now v) c.self.view_is

pub returns-else-is_empty : goal.returns-else-is_empty
returns-else-is_empty c =
    let f = c.self.inside in
    let machine = arc_value f.machine in
    let s = machine.config in
    let traces = machine.traces.items in
    let flight = ap (λ (l : InFlight). l.messages) c.self.invariant.flight in
    same-answer c.is_empty.result (is_over_at machine f.now)
    (λ yes. absurd (false≢true (sym c.if-is_empty.false ∙ yes)))
    (λ over. c.is_empty.ensures.1 (flight ∙ flight-from_over s traces f.now over))
    ∙ ap (λ (v : SimView). is_over_now v) c.self.view_is
