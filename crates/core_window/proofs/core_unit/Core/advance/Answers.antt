-- No cycle is left where the core stands at the last one.
use Rattle.std.proofs.Common.{◌≡◌, ◌-◌, None, refl, sym, ap, subst, arith}
use Rattle.core_window.specs.CoreViews.{view_of}
use Rattle.core_window.specs.Inside.{Advances, GoesOnWithoutSending}
use Rattle.core_window.specs.Rests.{idle_step}
use Rattle.core_window.specs.Views.{CoreView}
use Rattle.sim_base.specs.declared.trace.Stop.TheVariants.{Credit}
use Rattle.core_window.proofs.Running.{advances-none}
use Rattle.core_window.proofs.Stalling.{rests-goes, stalled-standing, may_rest}
use Rattle.core_window.proofs.Stretching.{rest-steady, steady-goes}
use Rattle.core_window.proofs.Working.{sound}
use Rattle.core_window.proofs.core_unit.Core.advance.Goals as goal

pub is_full-requires : goal.is_full-requires
is_full-requires c = (sound (view_of c.args.self.now) c.requires.stands).retired

pub returns-then-until-self-clause-advances : goal.returns-then-until-self-clause-advances
returns-then-until-self-clause-advances c =
    let none : c.args.until - c.args.self.now.cycle ≡ 0 = omega arith in
    subst (λ n. Advances n (view_of c.args.self.now) c.args.sent.now.items (view_of c.args.self.now) c.args.sent.now.items) (sym none)
    (advances-none (view_of c.args.self.now) c.args.sent.now.items)

pub returns-then-until-self-clause-cycle : goal.returns-then-until-self-clause-cycle
returns-then-until-self-clause-cycle c = omega (arith, c.if-until-self.true, c.requires.order)

pub rest-requires-clause-room : goal.rest-requires-clause-room
rest-requires-clause-room c = may_rest (view_of c.args.self.now) c.args.until c.requires.stands c.requires.early c.requires.order

pub returns-then-is_full-clause-cycle : goal.returns-then-is_full-clause-cycle
returns-then-is_full-clause-cycle c = ap (λ (v : CoreView). v.now) c.rest.ensures

pub returns-then-is_full-clause-advances : goal.returns-then-is_full-clause-advances
returns-then-is_full-clause-advances c =
    let v = view_of c.args.self.now in
    let stalled = stalled-standing v c.requires.stands (c.is_head_waiting.ensures c.if-not-is_head_waiting.false) (c.if-is_full.ensures.0 refl) in
    let goes : GoesOnWithoutSending c.args.until v (view_of c.rest.new.self) = subst (GoesOnWithoutSending c.args.until v) (sym c.rest.ensures) (rests-goes v v.stats.retired c.args.until stalled c.requires.order) in
    let now : c.rest.new.self.cycle ≡ c.args.until = ap (λ (w : CoreView). w.now) c.rest.ensures in
    subst (λ n. Advances (n - c.args.self.now.cycle) v c.args.sent.now.items (view_of c.rest.new.self) c.args.sent.now.items) now (goes.advances c.args.sent.now.items)

pub repeat-requires-clause-steady : goal.repeat-requires-clause-steady
repeat-requires-clause-steady c =
    rest-steady (view_of c.args.self.now) idle_step Credit None (c.args.until - c.args.self.now.cycle) refl refl (c.if-is_short_of_credit.ensures refl)

pub returns-then-is_short_of_credit-clause-cycle : goal.returns-then-is_short_of_credit-clause-cycle
returns-then-is_short_of_credit-clause-cycle c = omega (arith, ap (λ (v : CoreView). v.now) c.repeat.ensures, c.requires.order)

pub returns-then-is_short_of_credit-clause-advances : goal.returns-then-is_short_of_credit-clause-advances
returns-then-is_short_of_credit-clause-advances c =
    let v = view_of c.args.self.now in
    let now : c.repeat.new.self.cycle ≡ c.args.until = omega (arith, ap (λ (w : CoreView). w.now) c.repeat.ensures, c.requires.order) in
    let goes =
    steady-goes v (view_of c.repeat.new.self) (c.args.until - c.args.self.now.cycle) c.args.until idle_step Credit c.args.sent.now.items
    (rest-steady v idle_step Credit None (c.args.until - c.args.self.now.cycle) refl refl (c.if-is_short_of_credit.ensures refl)) c.repeat.ensures (omega arith) (omega arith) in
    subst (λ n. Advances (n - c.args.self.now.cycle) v c.args.sent.now.items (view_of c.repeat.new.self) c.args.sent.now.items) now goes.advances

pub work_on-requires-clause-stands : goal.work_on-requires-clause-stands
work_on-requires-clause-stands c = c.requires.stands

pub work_on-requires-clause-order : goal.work_on-requires-clause-order
work_on-requires-clause-order c = c.requires.order

pub work_on-requires-clause-early : goal.work_on-requires-clause-early
work_on-requires-clause-early c = c.requires.early

pub returns-clause-cycle : goal.returns-clause-cycle
returns-clause-cycle c = c.work_on-2.ensures.cycle

pub returns-clause-advances : goal.returns-clause-advances
returns-clause-advances c = c.work_on-2.ensures.advances
