-- A core that does nothing in the next cycle never acts.
use Rattle.std.proofs.Common.{ap}
use Rattle.sim_base.specs.declared.history.CoreStep.{CoreStep}
use Rattle.core_window.specs.CoreViews.{view_of}
use Rattle.core_window.proofs.Resting.{rest-standing, step_is_idle, at_rest, first_act}
use Rattle.core_window.proofs.core_unit.Core.next_work.Goals as goal
use Rattle.core_window.proofs.core_unit.Core.next_work.Goals.{else-core_step-eq0-via-then-core_step-eq0+else-core_step-eq0-2, else-core_step-eq0-via-else-core_step-eq0}

pub cycle_work-requires : goal.cycle_work-requires
cycle_work-requires c = rest-standing (view_of c.args.self.now) c.requires.stands

pub returns-then-core_step-eq0-2 : goal.returns-then-core_step-eq0-2
returns-then-core_step-eq0-2 c s core trace steps mail h =
    at_rest s core trace steps mail (view_of c.args.self.now) c.cycle_work.result.core_step c.cycle_work.result.why c.cycle_work.result.memory
    (step_is_idle c.cycle_work.result.core_step c.if-core_step-eq0.true c.if-core_step-eq0-2.true) c.cycle_work.ensures.does h

pub returns-else-core_step-eq0 : goal.returns-else-core_step-eq0
returns-else-core_step-eq0 c s core trace steps mail h =
    first_act s core trace steps mail (view_of c.args.self.now) c.cycle_work.result.core_step c.cycle_work.result.why c.cycle_work.result.memory c.args.from c.requires.at
    (λ e. elim c.else-core_step-eq0.branch [
      | else-core_step-eq0-via-then-core_step-eq0+else-core_step-eq0-2 w ↦ w.if-core_step-eq0-2.false (ap (λ (r : CoreStep). r.issued) e)
      | else-core_step-eq0-via-else-core_step-eq0 w ↦ w.if-core_step-eq0.false (ap (λ (r : CoreStep). r.retired) e)
    ])
    c.cycle_work.ensures.does h
