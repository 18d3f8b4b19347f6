use Rattle.std.proofs.Common.{◌≡◌, ◌-◌, length, ap, ap₂, subst, ◌∙◌, arith}
use Rattle.std.specs.Int.{div_ceil}
use Rattle.sim_base.specs.History.{trace_of}
use Rattle.statistics.specs.declared.cores.CoreStats.{CoreStats}
use Rattle.core_window.specs.declared.core_unit.Core.{Core}
use Rattle.units.specs.Units.{unit_at}
use Rattle.units.specs.Parts.{IsPart}
use Rattle.units.proofs.Lasting.{core-place, core-goes_on}
use Rattle.units.proofs.drained.unit_until.Goals as goal

pub returns-in-Core : goal.returns-in-Core
returns-in-Core c h =
    let machine = c.args.machine.now in
    let s = machine.config in
    let traces = machine.traces.items in
    let place = c.args.place in
    let at = core-place machine c.args.now place c.in-Core.core (subst (IsPart machine (unit_at s place) c.args.now) c.in-Core.is h) in
    let left : c.saturating_sub-left.result ≡ length (trace_of traces place) - c.in-Core.core.value.stats.retired =
    c.saturating_sub-left.ensures ∙ ap₂ (λ a b. a - b) c.trace_len.ensures (ap (λ (x : CoreStats). x.retired) c.stats.ensures ∙ ap (λ (x : Core). x.stats.retired) c.deref.ensures) in
    let cycles = c.div_ceil.ensures ∙ ap₂ div_ceil left c.from.ensures in
    core-goes_on machine c.args.now place c.in-Core.core.value c.saturating_add.result at (omega (arith, s.core_in_range.width_in)) (omega (arith, c.saturating_add.ensures, cycles))
